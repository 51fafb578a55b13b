-- Run's questions in their order: the reader's 1 to 9, then 10, 11, 20, 13 and 22. Of the word lists they take the lengths
-- alone.
use Rattle.std.specs.Prelude.{ℕ, Bool, ◌&&◌, List, [], ◌∷◌, ◌++◌, length, eqb}
use Rattle.lists.specs.Ladder.{Question, ◌or_else◌, Answer, answer}
use Rattle.method.specs.Changes.{Schedule, changes_suit}
use Rattle.method.specs.WordLists.{Lengths, words_suit}
use Rattle.circuit.specs.File.{inputs_of}
use Rattle.circuit.specs.Questions as reader
use Rattle.circuit.specs.Task.{Task, frames_in}
use Rattle.limiting.specs.Questions.{last_questions}
use Rattle.planner.specs.Questions as planner
use Rattle.engine.specs.Areas.{Areas}
use Rattle.editions.specs.declared.InputsAndGates.{InputsAndGates}

abbrev pub values_length : ℕ
values_length = 2048

-- 10: Are the areas of exactly these lengths: Plan's four, and values 2,048?
unfoldable pub areas_suit : Areas → Bool
areas_suit a = planner.areas_suit a.plan && eqb (length a.values) values_length

-- Run's own questions that write nothing
abbrev pub own_questions : ℕ → Schedule → Lengths → Areas → List Question
own_questions inputs h l a = (areas_suit a or_else 10) ∷ (words_suit inputs (length h.times) l or_else 11) ∷ (changes_suit inputs h or_else 20) ∷ []

-- 1 to 11, and 20
unfoldable pub first_questions : Task → Lengths → Areas → List Question
first_questions task l a = reader.questions task.file ++ own_questions (inputs_of task.file) task.schedule l a

-- what these answer by themselves, for calls that ask more before they run: the number of the first "no", or I and G
unfoldable pub questions_of : Task → Lengths → Areas → Answer InputsAndGates
questions_of task l a = answer (first_questions task l a) (reader.inputs_and_gates_of task.file)

-- and 13 and 22
unfoldable pub questions : Task → ℕ → Lengths → Areas → List Question
questions task limit l a = first_questions task l a ++ last_questions limit (frames_in task)
