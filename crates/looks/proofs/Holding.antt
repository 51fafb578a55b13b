-- A level holds from its frame's begin to its end: at each time between them the frame is the last one not later, so the level is
-- that of the frame; and a time of the net that lies there is the frame's own.
-- Assumes nothing.
use Prim.Native.Nat.{ℕ, zero, suc, ◌≤◌, ◌<◌}
use mathlib.Core.Path.{◌≡◌, refl, sym, ap, ◌∙◌}
use mathlib.Core.Logic.{inl, inr}
use mathlib.Core.Bool.{Bool, true, false, false≢true, or-true}
use mathlib.Core.List.{List, [], ◌∷◌}
use native.Mathlib.Omega.{arith}
use lib.Dec.{eqb}
use lib.ListN.{length, get_or, drop, drop_of_length-le}
use lib.Seq.{drop-cons}
use borrow.Author.Tests.{eq-eqb, eqb-true}
use Rattle.lists.proofs.Choices.{either, order, or_cases}
use Rattle.method.specs.Times.{among}
use Rattle.method.specs.Indices.{last_frame}
use Rattle.method.specs.Look.{level}
use Rattle.method.proofs.Rising.{Starts, time_later}
use Rattle.method.proofs.Lasting.{last_within, last_is, last_reached, last_next}
use Rattle.looks.specs.Sight.{End, at, never, end_by, sight, sight_at}
use Rattle.looks.specs.Holds.{Before, EndsAt, Holds}

-- ---- the times of the frames

-- a frame's time is among the times, and each of these is a frame's
frame_among : (ts : List ℕ) (k : ℕ) → k < length ts → among (get_or ts k 0) ts ≡ true
frame_among [] k h = absurd (omega arith)
frame_among (t ∷ ts) zero h = rw (eq-eqb t t refl)
frame_among (t ∷ ts) (suc k) h = rw (frame_among ts k (omega arith)) (or-true (eqb (get_or ts k 0) t))

among_frame : (x : ℕ) (ts : List ℕ) → among x ts ≡ true → (k : ℕ) × (k < length ts) × (get_or ts k 0 ≡ x)
among_frame x [] e = absurd (false≢true e)
among_frame x (t ∷ ts) e =
    elim (or_cases (eqb x t) (among x ts) e) [
      | inl q ↦ (0, omega arith, sym (eqb-true x t q))
      | inr q ↦ let r = among_frame x ts q in (suc r.0, omega (arith, r.1), r.2)
    ]

module _ (ts : List ℕ) (starts : Starts ts) where
  -- at a frame's own time it is the last one not later
  own_frame : (k : ℕ) → k < length ts → last_frame ts (get_or ts k 0) ≡ k
  own_frame k h = last_is ts (get_or ts k 0) starts k h (omega arith) (time_later ts starts k (suc k) (omega arith))

  pub own_sight : (levels : List Bool) (k : ℕ) → k < length ts → sight ts levels (get_or ts k 0) ≡ sight_at ts levels k
  unfolding sight
  own_sight levels k h = ap (sight_at ts levels) (own_frame k h)

  -- ---- frame k

  module _ (k : ℕ) (h : k < length ts) where
    abbrev end : End
    end = end_by (drop (suc k) ts)

    -- before its end the next frame has not begun
    before_next : (u : ℕ) → Before u end → suc k < length ts → u < get_or ts (suc k) 0
    unfolding end_by
    before_next u b l = rw (drop-cons ts (suc k) 0 l) at b

    -- what is so of "never" where frame k is the last, and else of the next frame's time, is so of its end
    of_end : (P : End → Type 0) → P never → (suc k < length ts → P (at (get_or ts (suc k) 0))) → P end
    unfolding end_by
    of_end P last next =
        elim (order (length ts) (suc k)) [
          | inl l ↦ rw (drop_of_length-le ts l) last
          | inr l ↦ rw (drop-cons ts (suc k) 0 l) (next l)
        ]

    -- from its begin until before its end it is the last one not later
    frame_stays : (u : ℕ) → get_or ts k 0 ≤ u → Before u end → last_frame ts u ≡ k
    frame_stays u a b = last_is ts u starts k h a (before_next u b)

    none_among : (u : ℕ) → get_or ts k 0 < u → Before u end → among u ts ≡ false
    none_among u a b =
        elim (either (among u ts)) [
          | inl q ↦ let r = among_frame u ts q in
              let j : r.0 ≡ k = sym (own_frame r.0 r.1) ∙ ap (last_frame ts) r.2 ∙ frame_stays u (omega arith) b in
              absurd (omega (arith, a, r.2, ap (λ (i : ℕ). get_or ts i 0) j))
          | inr q ↦ q
        ]

  -- ---- the frame at time t

  pub holds : (levels : List Bool) (wave : ℕ → Bool) → ((u : ℕ) → level ts levels u ≡ wave u) → (t : ℕ) → Holds (λ (u : ℕ). among u ts) wave t (sight ts levels t)
  unfolding sight sight_at
  holds levels wave same t =
      let k : ℕ = last_frame ts t in
      let h : k < length ts = last_within ts t starts in
      record {
        begun = last_reached ts t starts;
        lasts = of_end k h (Before t) tt (last_next ts t starts);
        begins_potential = frame_among ts k h;
        ends_potential = of_end k h (EndsAt (λ (u : ℕ). among u ts)) tt (frame_among ts (suc k));
        none_between = none_among k h;
        level_stays = λ u a b. sym (same u) ∙ ap (λ (j : ℕ). get_or levels j false) (frame_stays k h u a b);
      }
