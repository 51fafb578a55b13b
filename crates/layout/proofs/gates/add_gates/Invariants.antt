-- `add_gates` meets its contract: j gates are planned; once the gates so far have too many frames, so has the whole circuit.
use mathlib.Core.Path.{◌≡◌}
use lib.ListN.{length}
use Rattle.circuit.specs.Task.{task_in}
use Rattle.method.specs.Areas.{areas}
use Rattle.layout.specs.Steps.{Going}
use Rattle.layout.proofs.gates.add_gates.Given as goal

abbrev pub invariant-loop-j : goal.invariant-loop-j
invariant-loop-j l = Going (task_in l.task) l.j (areas l.directory l.times l.inertial l.fanins) l.totals × (length l.gathered ≡ 514)
