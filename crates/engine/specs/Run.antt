-- What Run answers, and what it leaves in the areas.
use Rattle.std.specs.Prelude.{ℕ, length}
use Rattle.lists.specs.Ladder.{first_no, unless}
use Rattle.lists.specs.Outcome.{Outcome, outcome, left_by}
use Rattle.lists.specs.Areas.{padded}
use Rattle.method.specs.declared.Totals.{Totals}
use Rattle.method.specs.Layout.{laid}
use Rattle.method.specs.Sums.{totals_of}
use Rattle.method.specs.WordLists.{WordLists, lengths_of}
use Rattle.circuit.specs.Task.{Task, frames_in, all_packed_in}
use Rattle.engine.specs.Areas.{Areas, all_cleared}
use Rattle.engine.specs.Questions.{questions}

-- areas as long as these, filled with the plan of a task, as Plan fills them, and with its packed values; the rest is 0
unfoldable pub filled : Task → WordLists → Areas → Areas
filled task w a =
    record { plan = laid (frames_in task) a.plan; values = padded (length a.values) (all_packed_in task w) }

-- what stands in the areas in the end, where the first "no" is n, or 0 for none
abbrev pub run_left : ℕ → Task → WordLists → Areas → Areas
run_left n task w a = left_by n (filled task w a) (all_cleared a) a

-- Run of a task with a limit and these words, and of areas with these contents; it answers what Plan does
unfoldable pub run_of : Task → ℕ → WordLists → Areas → Outcome Totals Areas
run_of task limit w a =
    let n : ℕ = first_no (questions task limit (lengths_of w) a) in
    outcome (unless n (totals_of (frames_in task))) (run_left n task w a)
