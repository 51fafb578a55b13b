-- What `fill_within` answers and leaves, and what its answer says.
-- Assumes nothing.
use Prim.Native.Nat.{ℕ}
use mathlib.Core.Path.{◌≡◌, refl, sym, ap, ap₂, ◌∙◌}
use mathlib.Core.Bool.{Bool, true, false, not}
use native.Mathlib.Omega.{arith}
use borrow.Author.Tests.{not-true, not-false}
use Rattle.lists.specs.Ladder.{first_no, Answer, accepted, refused, unless}
use Rattle.lists.specs.Outcome.{Outcome, outcome, clears}
use Rattle.lists.proofs.Ladders.{refused_some, unless_none, unless_some}
use Rattle.lists.proofs.Leaving.{left_none, left_clear, accepted_left}
use Rattle.method.specs.declared.Totals.{Totals}
use Rattle.method.specs.Areas.{Areas, all_cleared}
use Rattle.method.specs.Layout.{laid}
use Rattle.method.specs.Sums.{fits, within_limit, limited, totals_of}
use Rattle.circuit.specs.Task.{Task, frames_in}
use Rattle.layout.specs.Steps.{Filled}
use Rattle.layout.proofs.Stepping.{Alike}
use Rattle.layout.proofs.Filling.{cleared_alike}
use Rattle.limiting.specs.Questions.{last_questions}
use Rattle.limiting.specs.Planned.{planned_by, within_of}
use Rattle.limiting.proofs.Last.{last_13, last_22, last_yes, last_none, last_clears}
use Rattle.std.specs.Prelude.{Option, Some, None}

-- the number of the first "no" among 13 and 22
abbrev pub last_no : Task → ℕ → ℕ
last_no task limit = first_no (last_questions limit (frames_in task))

-- a refusal: the areas, which held a, are all zeros
pub record Over (task : Task) (limit : ℕ) (a b : Areas) (n : ℕ) : Type 0 where
  pub number : last_no task limit ≡ n
  pub some : n ≡ 0 → ⊥
  pub clears_all : clears n ≡ true
  pub zeros : b ≡ all_cleared a

-- an acceptance: the frames fit, and fill the areas
pub record Kept (task : Task) (limit : ℕ) (a b : Areas) (t : Totals) : Type 0 where
  pub number : last_no task limit ≡ 0
  pub fit : fits (frames_in task) ≡ true
  pub totals : t ≡ totals_of (frames_in task)
  pub filled : b ≡ laid (frames_in task) a

module _ (task : Task) (limit : ℕ) (a : Areas) where
  within : {n : ℕ} → last_no task limit ≡ n → within_of task limit a ≡ planned_by n (frames_in task) a
  unfolding within_of
  within e = rw e

  refusal : {n : ℕ} → last_no task limit ≡ n → (n ≡ 0 → ⊥) → {b : Areas} → b ≡ all_cleared a → outcome (refused n) b ≡ within_of task limit a
  refusal {n} e h z =
      let clear = rw e at (last_clears limit (frames_in task) (λ q. h (sym e ∙ q))) in
      sym (within e ∙ ap₂ outcome (unless_some n (totals_of (frames_in task)) h) (left_clear (laid (frames_in task) a) (all_cleared a) a n h clear ∙ sym z))

  -- ---- filled, and the total held against the limit

  module _ {q : Option Totals} {b : Areas} (h : Filled task a b q) where
    pub within_13 : q ≡ None → outcome (refused 13) b ≡ within_of task limit a
    within_13 e = refusal (last_13 limit (frames_in task) (h.stopped e)) (λ z. omega arith) (h.emptied e)

    module _ {t : Totals} (e : q ≡ Some t) {ok : Bool} (is : ok ≡ within_limit limit t.frames) where
      total_asked : ok ≡ limited limit (frames_in task)
      unfolding limited totals_of
      total_asked = is ∙ ap (λ (x : Totals). within_limit limit x.frames) (h.totals t e)

      pub within_22 : not ok ≡ true → {z : Areas} → z ≡ all_cleared b → Alike a b → outcome (refused 22) z ≡ within_of task limit a
      within_22 n c l = refusal (last_22 limit (frames_in task) (h.fit t e) (sym total_asked ∙ not-true ok n)) (λ z. omega arith) (c ∙ cleared_alike l)

      pub within_yes : not ok ≡ false → outcome (accepted t) b ≡ within_of task limit a
      within_yes y =
          sym (within (last_yes limit (frames_in task) (h.fit t e) (sym total_asked ∙ not-false ok y))
          ∙ ap₂ outcome (unless_none 0 (totals_of (frames_in task)) refl ∙ ap accepted (sym (h.totals t e))) (left_none (laid (frames_in task) a) (all_cleared a) a ∙ sym (h.filled t e)))

  -- ---- what the answer says

  module _ {b : Areas} where
    pub within_no : {n : ℕ} → outcome (refused n) b ≡ within_of task limit a → Over task limit a b n
    unfolding within_of
    within_no {n} e =
        let s = refused_some (last_no task limit) (totals_of (frames_in task)) (sym (ap (λ (o : Outcome Totals Areas). o.answer) e)) in
        let some : n ≡ 0 → ⊥ = λ z. omega (arith, s.1) in
        let none : last_no task limit ≡ 0 → ⊥ = λ z. some (sym s.0 ∙ z) in
        let clear = last_clears limit (frames_in task) none in
        record {
          number = s.0;
          some = some;
          clears_all = rw s.0 at clear;
          zeros = ap (λ (o : Outcome Totals Areas). o.left) e ∙ left_clear (laid (frames_in task) a) (all_cleared a) a (last_no task limit) none clear;
        }

    pub within_kept : {t : Totals} → outcome (accepted t) b ≡ within_of task limit a → Kept task limit a b t
    unfolding within_of
    within_kept {t} e =
        let s = accepted_left (last_no task limit) (totals_of (frames_in task)) (laid (frames_in task) a) (all_cleared a) a e in
        record { number = s.0; fit = (last_none limit (frames_in task) s.0).0; totals = sym s.1; filled = s.2 }
