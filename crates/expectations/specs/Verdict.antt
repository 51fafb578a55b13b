-- Marking: the first expectation that is not met, with the first frame in its span that breaks it.
use Rattle.std.specs.Prelude.{ℕ, suc, Bool, not, cond, ◌&&◌, List, [], ◌∷◌, ltb, leb, eqb, Option, Some, None, Result, Ok, Err}
use Rattle.std.specs.Bool.{beq}
use Rattle.lists.specs.Ladder.{Answer, accepted, refused}
use Rattle.expectations.specs.declared.Expectation.{Expectation}
use Rattle.method.specs.declared.Refusal.{Refusal}
use Rattle.method.specs.Refusals.{number_of}
use Rattle.expectations.specs.declared.Unmet.{Unmet}

-- all met, or the place: the expectation's position in the list, from 0, and the frame's number
pub data Verdict : Type 0 where
  all_met : Verdict
  place : ℕ → ℕ → Verdict

-- a frame of time t lasts over some time from `from` to `to`, where `later` are the times of the frames behind it: it
-- lasts until the next frame's time; the last has no end. Question 12 has shut out a span whose `from` is above its `to`
abbrev pub lasts_over : ℕ → ℕ → ℕ → List ℕ → Bool
lasts_over from to t [] = leb t to
lasts_over from to t (next ∷ later) = leb t to && ltb from next

-- the level that is expected
abbrev pub expected : Expectation → Bool
expected e = eqb e.level 1

-- it breaks an expectation if its level is another and it lasts over some time of the span
unfoldable pub breaks : Expectation → ℕ → List ℕ → Bool → Bool
breaks e t later level = not (beq level (expected e)) && lasts_over e.from.0 e.to.0 t later

-- the place of the first frame, from frame k on, that breaks the expectation at position i; else what the list behind it
-- gives. The frames have these times and these levels
unfoldable pub first_break : Expectation → ℕ → ℕ → List ℕ → List Bool → Verdict → Verdict
first_break e i k [] levels behind = behind
first_break e i k (t ∷ times) [] behind = behind
first_break e i k (t ∷ times) (level ∷ levels) behind = cond (breaks e t times level) (place i k) (first_break e i (suc k) times levels behind)

-- the verdict on expectations from position i on, where each net has these times, and in each lane these levels
unfoldable pub verdict_from : (ℕ → List ℕ) → (ℕ → ℕ → List Bool) → ℕ → List Expectation → Verdict
verdict_from times levels i [] = all_met
verdict_from times levels i (e ∷ list) =
    first_break e i 0 (times e.net.0) (levels e.lane e.net.0) (verdict_from times levels (suc i) list)

-- what the search finds in the paper's terms: all met, or the place
unfoldable pub verdict_on_paper : Option Unmet → Verdict
verdict_on_paper None = all_met
verdict_on_paper (Some u) = place u.position u.frame.0

-- Mark's result in the paper's terms: all met, the place, or the number alone
unfoldable pub on_paper : Result (Option Unmet) Refusal → Answer Verdict
on_paper (Ok v) = accepted (verdict_on_paper v)
on_paper (Err r) = refused (number_of r)
