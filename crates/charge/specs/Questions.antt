-- The charge call's questions in their order: Run's 1 to 11 and 20, then 16 and 21, then 13 and 22.
use Rattle.std.specs.Prelude.{ℕ, Bool, List, ◌∷◌, ◌++◌, ltb}
use Rattle.lists.specs.Ladder.{Question, ◌or_else◌}
use Rattle.method.specs.Words.{lanes}
use Rattle.method.specs.WordLists.{Lengths}
use Rattle.circuit.specs.Task.{Task, nets_in, frames_in}
use Rattle.limiting.specs.Questions.{last_questions}
use Rattle.engine.specs.Areas.{Areas}
use Rattle.engine.specs.Questions.{first_questions}
use Rattle.charge_loads.specs.declared.Load.{Load}
use Rattle.charge_loads.specs.Suits.{loads_suit}

-- 1 to 11 and 20, then 16 and 21, where `below` and `suit` are their answers, then 13 and 22
unfoldable pub asked_with : Task → ℕ → Lengths → Areas → Bool → Bool → List Question
asked_with task limit l a below suit = first_questions task l a ++ ((below or_else 16) ∷ (suit or_else 21) ∷ last_questions limit (frames_in task))

-- 16: Is the lane below 64? 21: Is there a load for each net, and is each of their charges from 0 to 1,000? Of the word lists the
-- ladder takes the lengths alone
abbrev pub questions : Task → ℕ → Lengths → Areas → List Load → ℕ → List Question
questions task limit l a loads L = asked_with task limit l a (ltb L lanes) (loads_suit (nets_in task) loads)
