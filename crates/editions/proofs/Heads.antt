-- Questions 1 to 5: the cases of a loop over the pairs, and the ladder's cases in their order.
-- Assumes nothing.
use Prim.Native.Nat.{ℕ, ◌+◌, ◌-◌, ◌<◌, ◌≤◌}
use mathlib.Core.Path.{◌≡◌, sym, ◌∙◌}
use mathlib.Core.List.{List}
use mathlib.Core.Bool.{Bool, true, false, not, ◌&&◌}
use native.Mathlib.Omega.{arith}
use native.Mathlib.Numerals.{add-one}
use lib.ListN.{length, drop}
use lib.Dec.{eqb, leb}
use borrow.Author.Tests.{eq-eqb, ne_eqb, le-leb, lt-leb, not-true, not-false}
use Rattle.lists.specs.Ladder.{first_no, between}
use Rattle.lists.proofs.Choices.{bool_ext, between_low, between_yes, between_least_true, between_most_true}
use Rattle.lists.proofs.Ladders.{ask_yes, ask_no, all_asked}
use Rattle.lists.proofs.Tabled.{one_less}
use Rattle.numbers.specs.Numbers.{number_at}
use Rattle.editions.specs.File.{head_length, offset_of, length_of, record_head}
use Rattle.editions.specs.Limits.{most_inputs, most_gates}
use Rattle.editions.specs.Questions.{fills, head_questions}
use Rattle.editions.specs.declared.Edition.{Edition}

-- question 2, by what is left of the number held without what the edition adds
module _ (added held : ℕ) where
  pub held_low : held < added → false ≡ between (1 + added) (most_inputs + added) held
  held_low l = sym (between_low (1 + added) (most_inputs + added) held (omega arith))

  pub held_less : added ≤ held → {b : Bool} → b ≡ between 1 most_inputs (held - added) → b ≡ between (1 + added) (most_inputs + added) held
  held_less l e =
      e
      ∙ bool_ext (between 1 most_inputs (held - added)) (between (1 + added) (most_inputs + added) held)
      (λ y. between_yes (1 + added) (most_inputs + added) held (omega (arith, between_least_true 1 most_inputs (held - added) y)) (omega (arith, between_most_true 1 most_inputs (held - added) y)))
      (λ y. between_yes 1 most_inputs (held - added) (omega (arith, between_least_true (1 + added) (most_inputs + added) held y)) (omega (arith, between_most_true (1 + added) (most_inputs + added) held y)))

-- one pair of G, j passed
module _ (least : ℕ) (file : List ℕ) (g j end : ℕ) (l : j < g) {whole : Bool} (h : whole ≡ fills least file (g - j) j end) {start len : ℕ} (a : start ≡ offset_of file j) (b : len ≡ length_of file j) where
  step : whole ≡ eqb start end && (leb least len && fills least file (g - (j + 1)) (j + 1) (start + len))
  unfolding fills
  step = h ∙ rw (one_less g j l, ← a, ← b, add-one j)

  pub elsewhere : (start ≡ end → ⊥) → false ≡ whole
  elsewhere n = sym (step ∙ rw (ne_eqb _ _ n))

  pub short : start ≡ end → len < least → false ≡ whole
  short y n = sym (step ∙ rw (eq-eqb _ _ y, lt-leb _ _ n))

  pub next : start ≡ end → least ≤ len → whole ≡ fills least file (g - (j + 1)) (j + 1) (start + len)
  next y n = step ∙ rw (eq-eqb _ _ y, le-leb _ _ n)

pub last : (least : ℕ) (file : List ℕ) (g j end : ℕ) → g ≤ j → {whole : Bool} → whole ≡ fills least file (g - j) j end → eqb end (length file) ≡ whole
unfolding fills
last least file g j end l h = let e : g - j ≡ 0 = omega arith in sym (h ∙ rw e)

module _ (ed : Edition) where
  -- the ladder: each level passes one question more, and a "no" cites the level that it stands at
  module _ (file : List ℕ) where
    pub no_1 : length file < 4 → 1 ≡ first_no (head_questions ed file)
    unfolding head_questions
    no_1 n = sym (ask_no _ _ _ (lt-leb _ _ n))

    module _ (y1 : 4 ≤ length file) {i : ℕ} (a : i ≡ number_at file 0) {b2 : Bool} (e2 : b2 ≡ between (1 + ed.added) (most_inputs + ed.added) i) where
      past_1 : first_no (head_questions ed file) ≡ first_no (drop 1 (head_questions ed file))
      unfolding head_questions
      past_1 = ask_yes _ _ _ (le-leb _ _ y1)

      test_2 : between (1 + ed.added) (most_inputs + ed.added) (number_at file 0) ≡ b2
      test_2 = rw (← a) (sym e2)

      pub no_2 : not b2 ≡ true → 2 ≡ first_no (head_questions ed file)
      unfolding head_questions
      no_2 n = sym (past_1 ∙ ask_no _ _ _ (test_2 ∙ not-true b2 n))

      module _ (y2 : not b2 ≡ false) {g : ℕ} (b : g ≡ number_at file 2) {b3 : Bool} (e3 : b3 ≡ between 0 most_gates g) where
        past_2 : first_no (head_questions ed file) ≡ first_no (drop 2 (head_questions ed file))
        unfolding head_questions
        past_2 = past_1 ∙ ask_yes _ _ _ (test_2 ∙ not-false b2 y2)

        test_3 : between 0 most_gates (number_at file 2) ≡ b3
        test_3 = rw (← b) (sym e3)

        pub no_3 : not b3 ≡ true → 3 ≡ first_no (head_questions ed file)
        unfolding head_questions
        no_3 n = sym (past_2 ∙ ask_no _ _ _ (test_3 ∙ not-true b3 n))

        module _ (y3 : not b3 ≡ false) where
          past_3 : first_no (head_questions ed file) ≡ first_no (drop 3 (head_questions ed file))
          unfolding head_questions
          past_3 = past_2 ∙ ask_yes _ _ _ (test_3 ∙ not-false b3 y3)

          pub no_4 : length file < head_length g → 4 ≡ first_no (head_questions ed file)
          unfolding head_questions
          no_4 n = sym (past_3 ∙ ask_no _ _ _ (rw (← b) (lt-leb _ _ n)))

          module _ (y4 : head_length g ≤ length file) {least : ℕ} (h : least ≡ record_head ed) {b5 : Bool} (e5 : b5 ≡ fills least file g 0 (head_length g)) where
            past_4 : first_no (head_questions ed file) ≡ first_no (drop 4 (head_questions ed file))
            unfolding head_questions
            past_4 = past_3 ∙ ask_yes _ _ _ (rw (← b) (le-leb _ _ y4))

            test_5 : fills (record_head ed) file (number_at file 2) 0 (head_length (number_at file 2)) ≡ b5
            test_5 = rw (← b, ← h) (sym e5)

            pub no_5 : not b5 ≡ true → 5 ≡ first_no (head_questions ed file)
            unfolding head_questions
            no_5 n = sym (past_4 ∙ ask_no _ _ _ (test_5 ∙ not-true b5 n))

            pub none_5 : not b5 ≡ false → 0 ≡ first_no (head_questions ed file)
            unfolding head_questions
            none_5 n = sym (past_4 ∙ ask_yes _ _ _ (test_5 ∙ not-false b5 n) ∙ all_asked)
