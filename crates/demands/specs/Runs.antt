-- Accepted runs, and what they leave.
use Rattle.std.specs.Prelude.{ℕ, ◌≡◌, List}
use Rattle.lists.specs.Ladder.{accepted}
use Rattle.lists.specs.Outcome.{outcome}
use Rattle.method.specs.Areas as planner
use Rattle.method.specs.Layout.{laid}
use Rattle.method.specs.WordLists.{WordLists}
use Rattle.circuit.specs.Task.{Task, frames_in}
use Rattle.engine.specs.Areas.{Areas}
use Rattle.engine.specs.After as engine
use Rattle.sizes.specs.Fitted as sizes
use Rattle.expectations.specs.declared.Expectation.{Expectation}
use Rattle.expectations.specs.Verdict.{Verdict}
use Rattle.marking.specs.Mark.{mark_of}

-- an accepted Mark with this list: under some limit it answers the verdict v, and `left` is what it leaves; its areas held
-- `entry`
pub record Marked (task : Task) (w : WordLists) (list : List Expectation) (v : Verdict) (left : Areas) : Type 0 where
  pub limit : ℕ
  pub entry : Areas
  pub marked : outcome (accepted v) left ≡ mark_of task limit w entry list

-- `left` is what an accepted run of the task with these words leaves in the areas, whatever its limit: an accepted Run, an
-- accepted fitted Run, or an accepted Mark with whatever list and verdict
pub data Ran (task : Task) (w : WordLists) (left : Areas) : Type 0 where
  by_run : engine.LeftByRun task w left → Ran task w left
  by_fitted : sizes.LeftByFitted task w left → Ran task w left
  by_mark : (list : List Expectation) (v : Verdict) → Marked task w list v left → Ran task w left

-- the four plan areas hold the frames of a task: a pair a net, the times and the inertial indices in net order, the
-- fan-in indices by gate, by frame, by fan-in; the rest of each area, whatever its length, is 0
abbrev pub HoldsPlan : Task → planner.Areas → Type 0
HoldsPlan task left = left ≡ laid (frames_in task) left
