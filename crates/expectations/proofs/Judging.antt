-- What the tests of Mark's own functions say: how many nets a list of expectations needs, what an expectation says that it suits,
-- and whether a frame breaks it.
-- Assumes nothing.
use Prim.Native.Nat.{ℕ, ◌+◌, ◌≤◌, ◌<◌, max}
use mathlib.Core.Path.{◌≡◌, sym, ap, ap₂, ◌∙◌}
use mathlib.Core.Logic.{inl, inr}
use mathlib.Core.Bool.{Bool, true, false, cond, ◌&&◌, beq, and-true, and-false}
use mathlib.Core.List.{List, [], ◌∷◌, map}
use native.Mathlib.Omega.{arith}
use native.Mathlib.Numerals.{add-one}
use lib.Dec.{ltb, leb, eqb}
use borrow.Author.Tests.{ltb-true, leb-true, le-leb, lt-leb}
use Rattle.lists.specs.Every.{Every}
use Rattle.lists.proofs.Each.{every_true}
use Rattle.lists.proofs.Choices.{order, and_left, and_right}
use Rattle.method.specs.Words.{lanes, lane}
use Rattle.method.specs.Layout.{part_of}
use Rattle.method.specs.declared.Time.{Time}
use Rattle.looks.specs.declared.Sight as code
use Rattle.looks.specs.Sight.{sight_at, end_on_paper, sight_on_paper}
use Rattle.expectations.specs.declared.Expectation.{Expectation}
use Rattle.expectations.specs.Suits.{suits, list_suits}
use Rattle.expectations.specs.Steps.{no_circuit, nets_for, nets_needed, broken_by, breaks_at}
use Rattle.std.specs.Prelude.{Some, None}

-- ---- how many nets a circuit must have for a list of expectations

-- a circuit that has as many passes question 12
both_by : (n nets : ℕ) → nets < no_circuit → (b : Bool) → ltb n nets && b ≡ leb (cond b (n + 1) no_circuit) nets
both_by n nets h true = and-true (ltb n nets) ∙ ap (λ (m : ℕ). leb m nets) (sym (add-one n))
both_by n nets h false = and-false (ltb n nets) ∙ sym (lt-leb no_circuit nets h)

suits_by : (nets : ℕ) → nets < no_circuit → (e : Expectation) → suits nets e ≡ leb (nets_for e) nets
unfolding suits nets_for
suits_by nets h e = both_by e.net.0 nets h (ltb e.lane lanes && (leb e.from.0 e.to.0 && leb e.level 1))

both_least : (a b n : ℕ) → leb a n && leb b n ≡ leb (max a b) n
both_least a b n =
    elim (order a n) [
      | inl h ↦ rw (le-leb a n h)
          (elim (order b n) [ inl k ↦ le-leb b n k ∙ sym (le-leb (max a b) n (omega arith)) | inr k ↦ lt-leb b n k ∙ sym (lt-leb (max a b) n (omega arith)) ])
      | inr h ↦ rw (lt-leb a n h) (sym (lt-leb (max a b) n (omega arith)))
    ]

pub list_suits_by : (nets : ℕ) → nets < no_circuit → (list : List Expectation) → list_suits nets list ≡ leb (nets_needed list) nets
unfolding list_suits nets_needed
list_suits_by nets h [] = sym (le-leb 0 nets (omega arith))
list_suits_by nets h (e ∷ list) = ap₂ ◌&&◌ (suits_by nets h e) (list_suits_by nets h list) ∙ both_least (nets_for e) (nets_needed list) nets

-- ---- an expectation suits

-- what it says that it does
module _ (nets : ℕ) (e : Expectation) (y : suits nets e ≡ true) where
  pub net_below : e.net.0 < nets
  unfolding suits
  net_below = ltb-true e.net.0 nets (and_left (ltb e.net.0 nets) _ y)

  past_net : ltb e.lane lanes && (leb e.from.0 e.to.0 && leb e.level 1) ≡ true
  unfolding suits
  past_net = and_right (ltb e.net.0 nets) _ y

  pub lane_below : e.lane < lanes
  lane_below = ltb-true e.lane lanes (and_left (ltb e.lane lanes) _ past_net)

  pub span_is : e.from.0 ≤ e.to.0
  span_is = leb-true e.from.0 e.to.0 (and_left (leb e.from.0 e.to.0) _ (and_right (ltb e.lane lanes) _ past_net))

-- every one of a list that suits
pub each_suits : (nets : ℕ) (list : List Expectation) → list_suits nets list ≡ true → Every (λ (e : Expectation). suits nets e ≡ true) list
unfolding list_suits
each_suits nets list y = every_true (suits nets) list y

-- ---- a frame breaks an expectation

-- where this is seen of frame k of its net
module _ (d t v : List ℕ) (e : Expectation) (k : ℕ) {ts vs : List ℕ} (p : ts ≡ part_of d t e.net.0) (q : vs ≡ part_of d v e.net.0)
    (seen : code.Sight) (s : sight_on_paper seen ≡ sight_at ts (map (lane e.lane) vs) k) where
  by_sight : broken_by e (sight_on_paper seen) ≡ breaks_at d t v e k
  unfolding breaks_at
  by_sight = rw (← p, ← q, s)

  -- its level is the expected one
  pub breaks_not : beq seen.level (eqb e.level 1) ≡ true → false ≡ breaks_at d t v e k
  unfolding broken_by sight_on_paper
  breaks_not y = rw (← by_sight, y)

  module _ (n : beq seen.level (eqb e.level 1) ≡ false) where
    -- it begins after the span
    pub breaks_late : e.to.0 < seen.began.0 → false ≡ breaks_at d t v e k
    unfolding broken_by sight_on_paper
    breaks_late h = rw (← by_sight, n, lt-leb seen.began.0 e.to.0 h)

    module _ (h : seen.began.0 ≤ e.to.0) where
      -- the next begins after the span's start, or not
      pub breaks_next : {next : Time} → seen.until ≡ Some next → ltb e.from.0 next.0 ≡ breaks_at d t v e k
      unfolding broken_by sight_on_paper end_on_paper
      breaks_next u = rw (← by_sight, n, le-leb seen.began.0 e.to.0 h, u)

      -- it has no end
      pub breaks_never : seen.until ≡ None → true ≡ breaks_at d t v e k
      unfolding broken_by sight_on_paper end_on_paper
      breaks_never u = rw (← by_sight, n, le-leb seen.began.0 e.to.0 h, u)
