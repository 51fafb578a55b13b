-- Questions 20 and 11, part by part: the first part that is answered "no" decides, else the last.
-- Assumes nothing.
use Prim.Native.Nat.{ℕ}
use mathlib.Core.Path.{◌≡◌, sym, ◌∙◌}
use mathlib.Core.Bool.{Bool, true, false, not}
use mathlib.Core.List.{List, map}
use lib.Dec.{leb, eqb}
use lib.ListN.{length}
use borrow.Author.Tests.{eqb-true, eq-eqb, ne_eqb, not-true, not-false}
use Rattle.lists.specs.Ladder.{between}
use Rattle.lists.specs.Tables.{tabulate, every}
use Rattle.method.specs.Times.{rise_above}
use Rattle.lists.proofs.Choices.{and_left, and_right}
use Rattle.method.specs.WordLists.{Lengths, words_suit}
use Rattle.method.specs.Changes.{schedule, start_of, moments_from, most_changes, last_change, changes_suit}

module _ (inputs : ℕ) (counts changes : List ℕ) where
  abbrev whole : Bool
  whole = changes_suit inputs (schedule counts changes)

  pub not_each : (length counts ≡ inputs → ⊥) → false ≡ whole
  unfolding changes_suit
  not_each n = rw (ne_eqb _ _ n)

  module _ (y1 : length counts ≡ inputs) {small : Bool} (e2 : small ≡ every (map (λ (k : ℕ). leb k most_changes) counts)) where
    pub not_small : not small ≡ true → false ≡ whole
    unfolding changes_suit
    not_small n = rw (eq-eqb _ _ y1, ← e2, not-true small n)

    module _ (y2 : not small ≡ false) {sum : ℕ} (e3 : sum ≡ start_of counts (length counts)) where
      added : start_of counts inputs ≡ sum
      added = sym (e3 ∙ rw y1)

      pub not_all : (sum ≡ length changes → ⊥) → false ≡ whole
      unfolding changes_suit
      not_all n = rw (eq-eqb _ _ y1, ← e2, not-false small y2, added, ne_eqb _ _ n)

      module _ (y3 : sum ≡ length changes) {within : Bool} (e4 : within ≡ every (map (between 1 last_change) changes)) where
        pub not_within : not within ≡ true → false ≡ whole
        unfolding changes_suit
        not_within n = rw (eq-eqb _ _ y1, ← e2, not-false small y2, added, eq-eqb _ _ y3, ← e4, not-true within n)

        pub rise_decides : not within ≡ false → {r : Bool} → r ≡ every (map (rise_above 0) (tabulate (length counts) (moments_from (schedule counts changes)))) → r ≡ whole
        unfolding changes_suit
        rise_decides y4 f = f ∙ rw (eq-eqb _ _ y1, ← e2, not-false small y2, added, eq-eqb _ _ y3, ← e4, not-false within y4, y1)

-- ---- question 11

module _ (inputs changes : ℕ) (l : Lengths) where
  pub not_before : (l.before ≡ inputs → ⊥) → false ≡ words_suit inputs changes l
  unfolding words_suit
  not_before n = rw (ne_eqb _ _ n)

  pub after_decides : l.before ≡ inputs → eqb l.after changes ≡ words_suit inputs changes l
  unfolding words_suit
  after_decides y = rw (eq-eqb _ _ y)

  -- what it says that both are right
  pub words_each : words_suit inputs changes l ≡ true → (l.before ≡ inputs) × (l.after ≡ changes)
  unfolding words_suit
  words_each e = (eqb-true _ _ (and_left (eqb l.before inputs) _ e), eqb-true _ _ (and_right (eqb l.before inputs) _ e))
