-- `editions::delay_at` meets its contract. By its width it is a number or a byte.
use mathlib.Core.Path.{refl}
use native.Mathlib.Omega.{arith}
use Rattle.editions.proofs.Widths.{wide_delay, narrow_delay, two_bytes_lem, one_byte}
use Rattle.editions.proofs.bytes.delay_at.Goals as goal

pub number_in-requires : goal.number_in-requires
number_in-requires c = omega (arith, c.requires, two_bytes_lem c.args.edition c.if-edition.true)

pub bounds-file-at : goal.bounds-file-at
bounds-file-at c = omega (arith, c.requires, one_byte c.args.edition c.if-edition.false)

pub overflow_cast-result-else-edition : goal.overflow_cast-result-else-edition
overflow_cast-result-else-edition c = omega (arith, c.shared_slice_known-else-edition-1.given c.args.at)

pub returns-then-edition : goal.returns-then-edition
returns-then-edition c = wide_delay _ c.if-edition.true _ _ c.number_in.ensures

pub returns-else-edition : goal.returns-else-edition
returns-else-edition c = narrow_delay _ c.if-edition.false _ _ refl
