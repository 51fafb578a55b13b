-- What Mark answers, and what it leaves in the areas.
use Rattle.std.specs.Prelude.{ℕ, List}
use Rattle.lists.specs.Ladder.{first_no, unless}
use Rattle.lists.specs.Outcome.{Outcome, outcome}
use Rattle.method.specs.WordLists.{WordLists, lengths_of}
use Rattle.circuit.specs.Task.{Task, times_in, lane_values}
use Rattle.engine.specs.Areas.{Areas}
use Rattle.engine.specs.Run.{run_left}
use Rattle.expectations.specs.declared.Expectation.{Expectation}
use Rattle.marking.specs.Questions.{questions}
use Rattle.expectations.specs.Verdict.{Verdict, verdict_from}

-- the verdict on a task run for these words: in each lane by the values of that lane's own trace
unfoldable pub verdict : Task → WordLists → List Expectation → Verdict
verdict task w list = verdict_from (times_in task) (lane_values task w) 0 list

-- Mark of a task with a limit and these words, of areas with these contents, and of a list of expectations; an acceptance fills
-- the areas as Run does, whatever the verdict
unfoldable pub mark_of : Task → ℕ → WordLists → Areas → List Expectation → Outcome Verdict Areas
mark_of task limit w a list =
    let n : ℕ = first_no (questions task limit (lengths_of w) a list) in
    outcome (unless n (verdict task w list)) (run_left n task w a)
