-- Every accepted run leaves areas that hold the plan and the packed values, so what is said of such areas is said of every run's.
-- Assumes nothing.
use Prim.Native.Nat.{ℕ}
use Rattle.method.specs.WordLists.{WordLists}
use Rattle.circuit.specs.Task.{Task}
use Rattle.engine.specs.Areas.{Areas}
use Rattle.engine.specs.After as engine
use Rattle.engine.proofs.Accepted.{Held, held}
use Rattle.engine.proofs.After.{after_held, alike_held}
use Rattle.sizes.proofs.Answering.{held_fitted}
use Rattle.marking.proofs.Marked.{mark_ran}
use Rattle.demands.specs.Runs.{Ran, by_run, by_fitted, by_mark}
use Rattle.demands.specs.Demands.{TwoRuns}

-- an accepted Mark leaves what an accepted Run leaves
pub held_ran : (task : Task) (w : WordLists) {left : Areas} → Ran task w left → Held task w left
held_ran task w (by_run r) = held task w r
held_ran task w (by_fitted r) = held_fitted task w r
held_ran task w (by_mark list v m) = held task w (mark_ran task m.limit w m.entry list m.marked)

pub past_run : (task : Task) (w : WordLists) (left : Areas) → Ran task w left → engine.After task w left
past_run task w left r = after_held task w (held_ran task w r)

-- and two runs of whatever kinds are alike
pub two_alike : (L : ℕ) (task : Task) (w : WordLists) (left : Areas) (task' : Task) (w' : WordLists) (left' : Areas) → TwoRuns L task w left task' w' left' → engine.Alike task L left left'
two_alike L task w left task' w' left' two =
    alike_held task task' w w' L two.lane (held_ran task w two.ran) (held_ran task' w' two.ran') two.one_circuit two.one_schedule two.words_agree
