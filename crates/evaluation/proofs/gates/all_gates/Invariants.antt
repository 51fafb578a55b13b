-- `evaluation::gates::all_gates` meets its contract. After j gates the area holds the words of the inputs and of these gates.
use Prim.Native.Nat.{◌+◌}
use mathlib.Core.Path.{◌≡◌}
use lib.ListN.{length, take}
use Rattle.method.specs.WordLists.{WordLists}
use Rattle.circuit.specs.Task.{task_in, frames_in}
use Rattle.method.specs.Layout.{all_fanins}
use Rattle.evaluation.specs.Steps.{Holds}
use Rattle.evaluation.proofs.gates.all_gates.Given as goal

abbrev pub invariant-loop-j : goal.invariant-loop-j
invariant-loop-j l = (length l.values ≡ length l.initial.values) × (l.at ≡ length (all_fanins (take (l.nets.inputs + l.j) (frames_in (task_in l.task))))) × ((w : WordLists) → Holds (task_in l.task) w l.nets.inputs l.initial.values → Holds (task_in l.task) w (l.nets.inputs + l.j) l.values)
