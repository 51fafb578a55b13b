-- `filing::put_delay` meets its contract. By its width.
use Rattle.filing.proofs.Putting.{wide_small, narrow_small, put_wide, put_narrow}
use Rattle.filing.proofs.put_delay.Goals as goal

pub overflow_cast-delay : goal.overflow_cast-delay
overflow_cast-delay c = record { fits = wide_small _ _ c.requires c.if-edition.true }

pub overflow_cast-delay-else-edition : goal.overflow_cast-delay-else-edition
overflow_cast-delay-else-edition c = record { fits = narrow_small _ _ c.requires c.if-edition.false }

pub returns-then-edition : goal.returns-then-edition
returns-then-edition c = put_wide _ _ _ _ c.if-edition.true c.put_number.ensures

pub returns-else-edition : goal.returns-else-edition
returns-else-edition c = put_narrow _ _ _ _ c.if-edition.false c.put_byte.ensures
