-- `rises` meets its contract: the times before this one rise to the last of them.
use mathlib.Core.Path.{◌≡◌}
use lib.ListN.{drop}
use Rattle.method.specs.Times.{rise_above}
use Rattle.stimulus.proofs.rises.Given as goal

abbrev pub invariant-loop-time : goal.invariant-loop-time
invariant-loop-time l = rise_above 0 l.times ≡ rise_above l.last (drop l.time-index l.times)
