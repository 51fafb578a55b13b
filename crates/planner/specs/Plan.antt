-- What Plan answers, and what it leaves in the areas.
use Rattle.std.specs.Prelude.{ℕ}
use Rattle.lists.specs.Ladder.{first_no}
use Rattle.lists.specs.Outcome.{Outcome}
use Rattle.method.specs.declared.Totals.{Totals}
use Rattle.method.specs.Areas.{Areas}
use Rattle.circuit.specs.Task.{Task, frames_in}
use Rattle.limiting.specs.Planned.{planned_by}
use Rattle.planner.specs.Questions.{questions}

-- Plan of a task with a limit, and of areas with these contents; no word enters it
unfoldable pub plan_of : Task → ℕ → Areas → Outcome Totals Areas
plan_of task limit a = planned_by (first_no (questions task limit a)) (frames_in task) a
