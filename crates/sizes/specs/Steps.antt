-- What the functions of this crate promise each other. A reader of the promises of Size and the fitted Run may skip this file.
use Rattle.std.specs.Prelude.{ℕ}
use Rattle.lists.specs.Ladder.{Answer, answer}
use Rattle.method.specs.declared.Totals.{Totals}
use Rattle.method.specs.Sums.{totals_of}
use Rattle.method.specs.WordLists.{Lengths}
use Rattle.circuit.specs.Questions as reader
use Rattle.circuit.specs.Task.{Task, frames_in}
use Rattle.limiting.specs.Questions.{last_questions}
use Rattle.engine.specs.Areas.{Areas}
use Rattle.sizes.specs.Fitted.{fitted_questions}
use Rattle.editions.specs.declared.InputsAndGates.{InputsAndGates}

-- what 13 and 22 answer by themselves
unfoldable pub totals_within : Task → ℕ → Answer Totals
totals_within task limit = answer (last_questions limit (frames_in task)) (totals_of (frames_in task))

-- what the fitted Run's questions answer by themselves: the number of the first "no", or I and G
unfoldable pub questions_of : Task → ℕ → Lengths → Areas → Answer InputsAndGates
questions_of task limit l a = answer (fitted_questions task limit l a) (reader.inputs_and_gates_of task.file)
