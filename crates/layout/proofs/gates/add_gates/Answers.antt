-- `add_gates` meets its contract: j gates are planned; once the gates so far have too many frames, so has the whole circuit.
use Prim.Native.Nat.{◌+◌}
use mathlib.Core.Path.{refl}
use native.Mathlib.Omega.{arith}
use Rattle.circuit.specs.File.{circuit_of}
use Rattle.circuit.specs.Task.{task_in, moments_in}
use Rattle.circuit.proofs.Parts.{gates_length, few}
use Rattle.method.proofs.Fitting.{gave_up}
use Rattle.layout.proofs.Stepping.{reached_many}
use Rattle.layout.proofs.gates.add_gates.Goals as goal

pub overflow_add-net : goal.overflow_add-net
overflow_add-net c = omega (arith, few c.args.task.file.now c.requires.given.0.read, c.requires.given.1, c.requires.given.2)

pub returns-in_err-totals : goal.returns-in_err-totals
returns-in_err-totals c = rw c.from_residual.ensures (reached_many _ _ _ (gave_up (circuit_of c.args.task.file.now) (moments_in (task_in c.args.task)) (c.loop-j.j + 1) c.args.nets.gates (c.in_err-totals.ensures.stopped refl) (omega arith) (omega (arith, gates_length c.args.task.file.now, c.requires.given.2))))
