-- `editions::delays_suit` meets its contract. The first test decides, else the second.
use Rattle.editions.proofs.Gated.{delay_out, inertial_decides}
use mathlib.Core.Path.{ap}
use mathlib.Core.Bool.{not}
use Rattle.editions.proofs.delays_suit.Goals as goal

pub returns-then-not-is_between : goal.returns-then-not-is_between
returns-then-not-is_between c = delay_out _ _ _ c.is_between.ensures (ap not c.if-not-is_between.true)

pub returns : goal.returns
returns c = inertial_decides _ _ _ c.is_between.ensures (ap not c.if-not-is_between.false) c.is_between-2.ensures
