-- `count_gates` meets its contract: j gates are counted; once the gates so far have too many frames, so has the whole circuit.
use mathlib.Core.Path.{◌≡◌}
use lib.ListN.{length}
use Rattle.circuit.specs.Task.{task_in}
use Rattle.counting.specs.Steps.{Counting}
use Rattle.counting.proofs.count_gates.Given as goal

abbrev pub invariant-loop-j : goal.invariant-loop-j
invariant-loop-j l = Counting (task_in l.task) l.j l.directory l.times l.totals × (length l.gathered ≡ 514)
