-- `count_gates` meets its contract: j gates are counted; once the gates so far have too many frames, so has the whole circuit.
use Prim.Native.Nat.{◌+◌}
use mathlib.Core.Path.{◌≡◌, refl}
use native.Mathlib.Omega.{arith}
use Rattle.circuit.specs.File.{circuit_of}
use Rattle.circuit.specs.Task.{task_in, moments_in}
use Rattle.circuit.proofs.Parts.{gates_length, few}
use Rattle.method.proofs.Fitting.{gave_up}
use Rattle.counting.proofs.Walking.{totalled, totalled_none}
use Rattle.counting.proofs.count_gates.Goals as goal

pub overflow_add-net : goal.overflow_add-net
overflow_add-net c = omega (arith, few c.args.task.file.now c.requires.0.given.read, c.requires.1, c.requires.2)

pub returns-in_err-totals : goal.returns-in_err-totals
returns-in_err-totals c = rw c.from_residual.ensures (totalled_none _ c.requires.2 (gave_up (circuit_of c.args.task.file.now) (moments_in (task_in c.args.task)) (c.loop-j.j + 1) c.args.nets.gates (c.in_err-totals.ensures.stopped refl) (omega arith) (omega (arith, gates_length c.args.task.file.now, c.requires.2))))

pub returns : goal.returns
returns c = let q : c.loop-j.j ≡ c.args.nets.gates = omega arith in totalled _ c.requires.2 (rw q at c.loop-j.invariant.0)
