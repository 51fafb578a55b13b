-- Questions 14 to 16, as they are asked, and what Level and Count answer after them. The times start at 0 and rise, so the
-- last frame not later than a time is the one before the first later frame.
-- Assumes nothing.
use Prim.Native.Nat.{ℕ, ◌+◌, ◌-◌, ◌≤◌, ◌<◌}
use mathlib.Core.Path.{◌≡◌, refl, sym, ap, ◌∙◌}
use mathlib.Core.Bool.{Bool, true, false, not}
use mathlib.Core.List.{List, [], ◌∷◌, map}
use native.Mathlib.Omega.{arith}
use lib.Dec.{eqb, ltb}
use lib.ListN.{length, drop}
use borrow.Author.Tests.{eqb-true, eq-eqb, ne_eqb, le-ltb, lt-ltb, le-leb, lt-leb, not-true, not-false}
use Rattle.lists.specs.Ladder.{◌or_else◌, first_no, accepted, refused}
use Rattle.lists.specs.Front.{leading}
use Rattle.lists.proofs.Choices.{and_left, and_right, between_low, between_yes, between_most_true}
use Rattle.lists.proofs.Ladders.{numbered, asked, ask_yes, ask_no, all_asked, unless_none, unless_some}
use Rattle.method.specs.Times.{start_and_rise}
use Rattle.method.specs.Indices.{last_frame}
use Rattle.method.specs.Look.{changes}
use Rattle.method.specs.Words.{lanes, lane}
use Rattle.method.proofs.Rising.{test_starts}
use Rattle.method.proofs.Lasting.{last_leading, last_within}
use Rattle.method.specs.Limits.{most_net_frames}
use Rattle.looks.specs.declared.Sight as code
use Rattle.looks.specs.Sight.{sight_at, sight, sight_on_paper}
use Rattle.looks.specs.Look.{parts_suit, look_questions, level_of, count_of}

-- ---- the questions

module _ (times values : List ℕ) (L : ℕ) where
  pub look_numbered : numbered (look_questions times values L) ≡ true
  unfolding look_questions
  look_numbered = refl

  fault_14 : parts_suit times values ≡ false → 14 ≡ first_no (look_questions times values L)
  unfolding look_questions
  fault_14 n = sym (ask_no (parts_suit times values) 14 _ n)

  pub unequal_no : (length times ≡ length values → ⊥) → 14 ≡ first_no (look_questions times values L)
  unequal_no n = fault_14 (rw (ne_eqb _ _ n))

  module _ (y1 : length times ≡ length values) where
    pub empty_no : length times ≡ 0 → 14 ≡ first_no (look_questions times values L)
    empty_no n = fault_14 (rw (eq-eqb _ _ y1) (between_low 1 most_net_frames (length times) (omega arith)))

    module _ (y2 : length times ≡ 0 → ⊥) where
      pub many_no : most_net_frames < length times → 14 ≡ first_no (look_questions times values L)
      many_no n = fault_14 (rw (eq-eqb _ _ y1, le-leb 1 (length times) (omega arith), lt-leb _ _ n))

      module _ (y3 : length times ≤ most_net_frames) where
        suit : parts_suit times values ≡ true
        suit = rw (eq-eqb _ _ y1) (between_yes 1 most_net_frames (length times) (omega arith) y3)

        module _ {r : Bool} (e : r ≡ start_and_rise times) where
          pub rise_no : not r ≡ true → 15 ≡ first_no (look_questions times values L)
          unfolding look_questions
          rise_no n = sym (ask_yes (parts_suit times values) 14 _ suit ∙ ask_no (start_and_rise times) 15 _ (sym e ∙ not-true r n))

          module _ (y4 : not r ≡ false) where
            last : first_no (look_questions times values L) ≡ first_no ((ltb L lanes or_else 16) ∷ [])
            unfolding look_questions
            last = ask_yes (parts_suit times values) 14 _ suit ∙ ask_yes (start_and_rise times) 15 _ (sym e ∙ not-false r y4)

            pub lane_no : 63 < L → 16 ≡ first_no (look_questions times values L)
            lane_no n = sym (last ∙ ask_no (ltb L lanes) 16 [] (le-ltb _ _ n))

            pub all_yes : L ≤ 63 → 0 ≡ first_no (look_questions times values L)
            all_yes y = sym (last ∙ ask_yes (ltb L lanes) 16 [] (lt-ltb L lanes (omega arith)) ∙ all_asked)

-- ---- what a look without a "no" may rely on

pub record Sound (times values : List ℕ) : Type 0 where
  pub same : length times ≡ length values
  pub few : length times ≤ most_net_frames
  pub rises : start_and_rise times ≡ true

sound : (times values : List ℕ) (L : ℕ) → first_no (look_questions times values L) ≡ 0 → Sound times values
unfolding look_questions
sound times values L e =
    let a = asked (parts_suit times values) 14 _ (λ z. omega arith) e in
    let b = asked (start_and_rise times) 15 _ (λ z. omega arith) a.1 in
    record {
      same = eqb-true _ _ (and_left (eqb (length times) (length values)) _ a.0);
      few = between_most_true 1 most_net_frames (length times) (and_right (eqb (length times) (length values)) _ a.0);
      rises = b.0;
    }

-- ---- Level and Count

module _ (times values : List ℕ) (L : ℕ) {r : ℕ} (f : r ≡ first_no (look_questions times values L)) where
  pub answered : r ≡ 0 → Sound times values
  answered z = sound times values L (sym f ∙ z)

  pub level_no : (t : ℕ) → (r ≡ 0 → ⊥) → refused r ≡ level_of times values L t
  unfolding level_of
  level_no t n = rw (← f) (sym (unless_some r _ n))

  pub count_no : (r ≡ 0 → ⊥) → refused r ≡ count_of times values L
  unfolding count_of
  count_no n = rw (← f) (sym (unless_some r _ n))

  module _ (z : r ≡ 0) where
    pub count_yes : {n : ℕ} → n ≡ changes (map (lane L) values) → accepted n ≡ count_of times values L
    unfolding count_of
    count_yes {n} e = rw (← f, ← e) (sym (unless_none r n z))

    -- where the frame is the last one not later than t
    pub level_yes : (t : ℕ) {frame : ℕ} → frame ≡ last_frame times t → (s : code.Sight) → sight_on_paper s ≡ sight_at times (map (lane L) values) frame
        → accepted (sight_on_paper s) ≡ level_of times values L t
    unfolding level_of sight
    level_yes t e s q = rw (← f) (ap accepted (q ∙ ap (sight_at times (map (lane L) values)) e) ∙ sym (unless_none r _ z))

-- ---- the frame

module _ (times : List ℕ) (t : ℕ) (rises : start_and_rise times ≡ true) {later : ℕ} (e : later ≡ 1 + leading t (drop 1 times)) where
  pub found : later - 1 ≡ last_frame times t
  found = omega (arith, e, last_leading times t (test_starts times rises))

  pub found_within : later - 1 < length times
  found_within = omega (arith, found, last_within times t (test_starts times rises))
