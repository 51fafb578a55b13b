-- `editions::delay_bytes` meets its contract. By its width.
use Rattle.editions.proofs.Widths.{two_bytes_lem, one_byte}
use Rattle.editions.proofs.bytes.delay_bytes.Goals as goal

pub returns-then-edition : goal.returns-then-edition
returns-then-edition c = two_bytes_lem _ c.if-edition.true

pub returns-else-edition : goal.returns-else-edition
returns-else-edition c = one_byte _ c.if-edition.false
