-- Questions 13 and 22: which is the first "no", and that each of them clears.
-- Assumes nothing.
use Prim.Native.Nat.{ℕ, ◌≤◌}
use mathlib.Core.Path.{◌≡◌, refl, sym, ap, ◌∙◌}
use mathlib.Core.Bool.{Bool, true, false, not, ◌&&◌}
use mathlib.Core.List.{List, [], ◌∷◌}
use native.Mathlib.Omega.{arith}
use lib.Dec.{leb}
use lib.ListN.{length}
use borrow.Author.Tests.{le-leb, leb-true, not-true, not-false}
use Rattle.lists.specs.Ladder.{◌or_else◌, between, first_no}
use Rattle.lists.specs.Outcome.{clears}
use Rattle.lists.proofs.Choices.{and_left, and_right, and_both}
use Rattle.lists.proofs.Ladders.{asked, ask_yes, ask_no, all_asked}
use Rattle.method.specs.Frames.{Frames}
use Rattle.method.specs.Limits.{most_total_frames}
use Rattle.method.specs.Layout.{all_times}
use Rattle.method.specs.Sums.{fits, within_limit, limited}
use Rattle.method.proofs.Fitting.{fits_total}
use Rattle.limiting.specs.Questions.{last_questions}

-- ---- 22, as it is asked

module _ (limit total : ℕ) {ok : Bool} (is : ok ≡ between 1 most_total_frames limit) where
  pub senseless : not ok ≡ true → false ≡ within_limit limit total
  senseless n = sym (ap (λ (b : Bool). b && leb total limit) (sym is ∙ not-true ok n))

  pub by_total : not ok ≡ false → leb total limit ≡ within_limit limit total
  by_total y = sym (ap (λ (b : Bool). b && leb total limit) (sym is ∙ not-false ok y))

-- ---- both

module _ (limit : ℕ) (fs : List Frames) where
  pub last_13 : fits fs ≡ false → first_no (last_questions limit fs) ≡ 13
  last_13 n = ask_no (fits fs) 13 _ n

  pub last_22 : fits fs ≡ true → limited limit fs ≡ false → first_no (last_questions limit fs) ≡ 22
  last_22 y n = ask_yes (fits fs) 13 _ y ∙ ask_no (limited limit fs) 22 [] n

  pub last_yes : fits fs ≡ true → limited limit fs ≡ true → first_no (last_questions limit fs) ≡ 0
  last_yes y z = ask_yes (fits fs) 13 _ y ∙ ask_yes (limited limit fs) 22 [] z ∙ all_asked

  -- no "no": both are answered yes
  pub last_none : first_no (last_questions limit fs) ≡ 0 → (fits fs ≡ true) × (limited limit fs ≡ true)
  last_none e =
      let y = asked (fits fs) 13 ((limited limit fs or_else 22) ∷ []) (λ z. omega arith) e in
      (y.0, (asked (limited limit fs) 22 [] (λ z. omega arith) y.1).0)

  -- each of them clears
  pub last_clears : (first_no (last_questions limit fs) ≡ 0 → ⊥) → clears (first_no (last_questions limit fs)) ≡ true
  unfolding first_no
  last_clears h = go (fits fs) (limited limit fs) h
    where
      go : (a b : Bool) → (first_no ((a or_else 13) ∷ (b or_else 22) ∷ []) ≡ 0 → ⊥) → clears (first_no ((a or_else 13) ∷ (b or_else 22) ∷ [])) ≡ true
      go true true h = absurd (h refl)
      go true false h = refl
      go false b h = refl

  -- what 22 says
  pub limit_within : limited limit fs ≡ true → (1 ≤ limit) × (limit ≤ most_total_frames) × (length (all_times fs) ≤ limit)
  unfolding limited
  limit_within y =
      let b = and_left (between 1 most_total_frames limit) (leb (length (all_times fs)) limit) y in
      (leb-true _ _ (and_left (leb 1 limit) (leb limit most_total_frames) b), leb-true _ _ (and_right (leb 1 limit) (leb limit most_total_frames) b), leb-true _ _ (and_right (between 1 most_total_frames limit) (leb (length (all_times fs)) limit) y))

  pub within_limited : 1 ≤ limit → limit ≤ most_total_frames → length (all_times fs) ≤ limit → limited limit fs ≡ true
  unfolding limited
  within_limited l m t = and_both (between 1 most_total_frames limit) (leb (length (all_times fs)) limit) (and_both (leb 1 limit) (leb limit most_total_frames) (le-leb 1 limit l) (le-leb limit most_total_frames m)) (le-leb (length (all_times fs)) limit t)

-- what passes 13 passes 22 with the greatest limit
pub full_limited : (fs : List Frames) → fits fs ≡ true → limited most_total_frames fs ≡ true
full_limited fs y = within_limited most_total_frames fs (omega arith) (omega arith) (fits_total fs y)

-- so 13 alone is asked there
pub full_last : (fs : List Frames) → first_no (last_questions most_total_frames fs) ≡ first_no ((fits fs or_else 13) ∷ [])
full_last fs = go (fits fs) refl
  where
    go : (b : Bool) → fits fs ≡ b → first_no (last_questions most_total_frames fs) ≡ first_no ((fits fs or_else 13) ∷ [])
    go true y = last_yes most_total_frames fs y (full_limited fs y) ∙ sym (ask_yes (fits fs) 13 [] y ∙ all_asked)
    go false n = last_13 most_total_frames fs n ∙ sym (ask_no (fits fs) 13 [] n)
