-- Mark's questions in their order: Run's 1 to 11 and 20, then 12, then 13 and 22.
use Rattle.std.specs.Prelude.{ℕ, Bool, List, ◌∷◌, ◌++◌}
use Rattle.lists.specs.Ladder.{Question, ◌or_else◌}
use Rattle.method.specs.WordLists.{Lengths}
use Rattle.circuit.specs.Task.{Task, nets_in, frames_in}
use Rattle.limiting.specs.Questions.{last_questions}
use Rattle.engine.specs.Areas.{Areas}
use Rattle.engine.specs.Questions.{first_questions}
use Rattle.expectations.specs.declared.Expectation.{Expectation}
use Rattle.expectations.specs.Suits.{list_suits}

-- 1 to 11 and 20, then 12, where `suit` is its answer, then 13 and 22
unfoldable pub asked_with : Task → ℕ → Lengths → Areas → Bool → List Question
asked_with task limit l a suit = first_questions task l a ++ ((suit or_else 12) ∷ last_questions limit (frames_in task))

-- Mark's ladder; of the word lists it takes the lengths alone
abbrev pub questions : Task → ℕ → Lengths → Areas → List Expectation → List Question
questions task limit l a list = asked_with task limit l a (list_suits (nets_in task) list)
