-- How a call answers its questions, and what it leaves in its areas.
use Rattle.std.specs.Prelude.{ℕ, ◌≡◌, true, false, cond, List, ◌∷◌, ◌++◌}
use Rattle.lists.specs.Ladder.{Question, Answer, accepted, refused}
use Rattle.lists.specs.Outcome.{clears}
use Rattle.lists.specs.Every.{Every}

abbrev pub AllYes : List Question → Type 0
AllYes qs = Every (λ (q : Question). q.yes ≡ true) qs

-- q is the first of these questions that fails
pub record FirstFails (qs : List Question) (q : Question) : Type 0 where
  pub before : List Question
  pub behind : List Question
  pub splits : qs ≡ before ++ (q ∷ behind)
  pub passed : AllYes before
  pub fails : q.yes ≡ false

-- an answer, or, exactly when a question fails, the number of the first that does
pub data Answered {R : Type 0} (qs : List Question) (values : R) : Answer R → Type 0 where
  all_yes : AllYes qs → Answered qs values (accepted values)
  first_no_lem : (q : Question) → FirstFails qs q → Answered qs values (refused q.number)

-- what stands in the areas behind an answer: an acceptance fills them, a number that clears, which 13 and 22 do, leaves zeros,
-- and every other number writes nothing
abbrev pub Leaves : {R S : Type 0} → Answer R → S → S → S → S → Type 0
Leaves (accepted values) filled zeros entry left = left ≡ filled
Leaves (refused n) filled zeros entry left = left ≡ cond (clears n) zeros entry

-- the same of a call none of whose numbers writes
abbrev pub LeavesUnless : {R S : Type 0} → Answer R → S → S → S → Type 0
LeavesUnless (accepted values) filled entry left = left ≡ filled
LeavesUnless (refused n) filled entry left = left ≡ entry

-- two answers that are the same refusal, or two acceptances
pub data SameRefusal {R : Type 0} : Answer R → Answer R → Type 0 where
  refusals : (n : ℕ) → SameRefusal (refused n) (refused n)
  acceptances : (values values' : R) → SameRefusal (accepted values) (accepted values')

-- two answers that are acceptances, with the same values
pub data SameVerdict {R : Type 0} : Answer R → Answer R → Type 0 where
  verdicts : (values : R) → SameVerdict (accepted values) (accepted values)
