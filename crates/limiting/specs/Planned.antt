-- What planning answers, and what it leaves in the areas.
use Rattle.std.specs.Prelude.{ℕ, List}
use Rattle.lists.specs.Ladder.{first_no, unless}
use Rattle.lists.specs.Outcome.{Outcome, outcome, left_by}
use Rattle.method.specs.declared.Totals.{Totals}
use Rattle.method.specs.Frames.{Frames}
use Rattle.method.specs.Sums.{totals_of}
use Rattle.method.specs.Areas.{Areas, all_cleared}
use Rattle.method.specs.Layout.{laid}
use Rattle.circuit.specs.Task.{Task, frames_in}
use Rattle.limiting.specs.Questions.{last_questions}

-- where the nets have these frames, the areas these contents, and the first "no" is n, or 0 for none
abbrev pub planned_by : ℕ → List Frames → Areas → Outcome Totals Areas
planned_by n fs a = outcome (unless n (totals_of fs)) (left_by n (laid fs a) (all_cleared a) a)

-- of a task whose other questions have been answered yes
unfoldable pub within_of : Task → ℕ → Areas → Outcome Totals Areas
within_of task limit a = planned_by (first_no (last_questions limit (frames_in task))) (frames_in task) a
