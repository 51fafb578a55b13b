-- `first_loads` meets its contract. After k loads the list begins with them.
use mathlib.Core.Path.{◌≡◌}
use lib.ListN.{length, take}
use Rattle.charge_numbers.specs.Steps.{room, first_loads}
use Rattle.charge_numbers.proofs.loads.first_loads.Given as goal

abbrev pub invariant-loop-k : goal.invariant-loop-k
invariant-loop-k l = (length l.list ≡ room) × (take l.k l.list ≡ first_loads l.cases l.charges l.k)
