-- Plan's questions in their order: the reader's 1 to 9, then 10, 20, 13 and 22.
use Rattle.std.specs.Prelude.{ℕ, Bool, ◌&&◌, List, ◌∷◌, ◌++◌, length, eqb}
use Rattle.lists.specs.Ladder.{Question, ◌or_else◌}
use Rattle.circuit.specs.File.{inputs_of}
use Rattle.circuit.specs.Questions as reader
use Rattle.circuit.specs.Task.{Task, frames_in}
use Rattle.method.specs.Changes.{changes_suit}
use Rattle.limiting.specs.Questions.{last_questions}
use Rattle.planner.specs.Limits.{directory_length, times_length, fanins_length}
use Rattle.method.specs.Areas.{Areas}

-- 10: Are the areas of exactly these lengths: directory 320, times 2,048, inertial 2,048, fan-in 16,384?
unfoldable pub areas_suit : Areas → Bool
areas_suit a =
    eqb (length a.directory) directory_length
    && (eqb (length a.times) times_length
    && (eqb (length a.inertial) times_length && eqb (length a.fanins) fanins_length))

-- Plan's own questions
abbrev pub own_questions : Task → ℕ → Areas → List Question
own_questions task limit a =
    (areas_suit a or_else 10) ∷ (changes_suit (inputs_of task.file) task.schedule or_else 20) ∷ last_questions limit (frames_in task)

unfoldable pub questions : Task → ℕ → Areas → List Question
questions task limit a = reader.questions task.file ++ own_questions task limit a
