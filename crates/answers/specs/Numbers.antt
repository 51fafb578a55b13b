-- A call's answer as C has it: a number, and what stands in an array of numbers that the caller lent.
use Rattle.std.specs.Prelude.{ℕ, cond, List, [], ◌∷◌, Result, Ok, Err}
use Rattle.lists.specs.Ladder.{Answer, accepted, refused}
use Rattle.lists.specs.Outcome.{Outcome}
use Rattle.method.specs.declared.Totals.{Totals}
use Rattle.method.specs.declared.Refusal.{Refusal}
use Rattle.editions.specs.declared.InputsAndGates.{InputsAndGates}
use Rattle.looks.specs.Sight.{End, at, never, Sight}
use Rattle.expectations.specs.Verdict.{Verdict, all_met, place}

pub record Numbers : Type 0 where
  pub number : ℕ
  pub array : List ℕ

abbrev pub numbers : ℕ → List ℕ → Numbers
numbers n xs = record { number = n; array = xs }

-- an answer whose own numbers `own` tells: 0, and these in the array; or the number of the first "no", and the array as it was
unfoldable pub in_numbers : {R : Type 0} → (R → List ℕ) → List ℕ → Answer R → Numbers
in_numbers own array (accepted r) = numbers 0 (own r)
in_numbers own array (refused n) = numbers n array

-- the same with the contents of the areas
pub record Numbered (S : Type 0) : Type 0 where
  pub answer : Numbers
  pub left : S

abbrev pub numbered : {S : Type 0} → Numbers → S → Numbered S
numbered n a = record { answer = n; left = a }

unfoldable pub outcome_in : {R S : Type 0} → (R → List ℕ) → List ℕ → Outcome R S → Numbered S
outcome_in own array o = numbered (in_numbers own array o.answer) o.left

-- what stands in the array: an answer's own numbers; after a refusal what stood there
abbrev pub given : {A B : Type 0} → (A → B) → Result A Refusal → B → B
given own (Ok a) array = own a
given own (Err r) array = array

-- ---- the numbers of each answer

-- I and G
unfoldable pub net_numbers : InputsAndGates → List ℕ
net_numbers r = r.inputs ∷ r.gates ∷ []

-- the frames, the fan-in entries and the last potential time
unfoldable pub total_numbers : Totals → List ℕ
total_numbers t = t.frames ∷ t.fanins ∷ t.last.0 ∷ []

-- the length of a file, or how many changes
unfoldable pub one_number : ℕ → List ℕ
one_number n = n ∷ []

-- when a frame ends; 0, at which no frame ends, where it has no end
unfoldable pub end_number : End → ℕ
end_number (at t) = t
end_number never = 0

-- the level, the frame's begin and its end
unfoldable pub sight_numbers : Sight → List ℕ
sight_numbers s = cond s.level 1 0 ∷ s.began ∷ end_number s.end ∷ []

-- 1 where all are met; else 0, the position and the frame
unfoldable pub verdict_numbers : Verdict → List ℕ
verdict_numbers all_met = 1 ∷ 0 ∷ 0 ∷ []
verdict_numbers (place i k) = 0 ∷ i ∷ k ∷ []
