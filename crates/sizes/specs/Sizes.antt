-- What Size answers: the totals of a plan, from the circuit, the change times and the limit, with no area lent.
use Rattle.std.specs.Prelude.{ℕ, List, ◌∷◌, ◌++◌}
use Rattle.lists.specs.Ladder.{Question, ◌or_else◌, Answer, answer}
use Rattle.method.specs.declared.Totals.{Totals}
use Rattle.method.specs.Changes.{changes_suit}
use Rattle.method.specs.Sums.{totals_of}
use Rattle.circuit.specs.File.{inputs_of}
use Rattle.circuit.specs.Questions as reader
use Rattle.circuit.specs.Task.{Task, frames_in}
use Rattle.limiting.specs.Questions.{last_questions}

-- the reader's 1 to 9, then 20, 13 and 22
unfoldable pub size_questions : Task → ℕ → List Question
size_questions task limit =
    reader.questions task.file ++ ((changes_suit (inputs_of task.file) task.schedule or_else 20) ∷ last_questions limit (frames_in task))

unfoldable pub size_of : Task → ℕ → Answer Totals
size_of task limit = answer (size_questions task limit) (totals_of (frames_in task))
