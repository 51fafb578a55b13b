-- Each frame of a net beside the next: whether its times start at 0 and rise, and how often a lane changes.
-- Assumes nothing.
use Prim.Native.Nat.{ℕ, zero, suc, ◌+◌, ◌-◌, ◌<◌, ◌≤◌}
use mathlib.Core.Path.{◌≡◌, refl, sym, ◌∙◌}
use mathlib.Core.Bool.{Bool, true, false, not, beq, and-false}
use mathlib.Core.List.{List, [], ◌∷◌, map}
use native.Mathlib.Omega.{arith}
use native.Mathlib.Nat.{add-zero}
use native.Mathlib.Numerals.{add-one}
use lib.Bits.{bit_xor}
use lib.Dec.{ltb}
use lib.ListN.{length, get_or, drop, drop_of_length-le}
use lib.Seq.{drop-cons}
use mir.Val.{bool_byte}
use borrow.Author.Tests.{eq-eqb, not-true, not-false}
use Rattle.std.proofs.Common.{Some}
use Rattle.std.specs.List.{slice_get, IsAllAdjacentAnswer}
use Rattle.method.specs.Times.{rise_above, start_and_rise}
use Rattle.method.specs.Look.{changes_after, changes}
use Rattle.method.specs.Words.{lane}
use Rattle.method.proofs.Bits.{xor_lane}

-- ---- question 15

-- each time is below the next, or one is not: so the later ones rise above the first, or not
all_rise : (t : ℕ) (ts : List ℕ) → ((k d : ℕ) → k + 1 < length (t ∷ ts) → true ≡ ltb (get_or (t ∷ ts) k d) (get_or (t ∷ ts) (k + 1) d)) → true ≡ rise_above t ts
all_rise t [] h = refl
all_rise t (u ∷ us) h = rw (← h 0 0 (omega arith)) (all_rise u us (λ k d l. rw add-one (rw add-one at (h (suc k) d (omega arith)))))

one_falls : (t : ℕ) (ts : List ℕ) (k : ℕ) → k + 1 < length (t ∷ ts) → ((d : ℕ) → false ≡ ltb (get_or (t ∷ ts) k d) (get_or (t ∷ ts) (k + 1) d)) → false ≡ rise_above t ts
one_falls t [] k l h = absurd (omega arith)
one_falls t (u ∷ us) zero l h = rw (← h 0)
one_falls t (u ∷ us) (suc k) l h = rw (← one_falls u us k (omega arith) (λ d. rw add-one (rw add-one at (h d)))) (sym (and-false (ltb t u)))

pub pairs_rise : (times : List ℕ) → slice_get times 0 ≡ Some 0 → (r : Bool) → IsAllAdjacentAnswer (λ (x y : ℕ) (b : Bool). b ≡ ltb x y) times r → r ≡ start_and_rise times
pairs_rise [] e r h = cc
pairs_rise (t ∷ ts) e true h = let z : t ≡ 0 = cc in rw (eq-eqb t 0 z) (all_rise t ts h)
pairs_rise (t ∷ ts) e false h = let z : t ≡ 0 = cc in rw (eq-eqb t 0 z) (one_falls t ts h.0 h.1 h.2)

-- ---- the changes of a lane

-- the frame before the next one is this one
back : (k : ℕ) → (k + 1) - 1 ≡ k
back k = omega arith

pub changes_start : (L : ℕ) (values : List ℕ) → changes (map (lane L) values) ≡ 0 + changes_after (lane L (get_or values 0 0)) (map (lane L) (drop 1 values))
changes_start L [] = refl
changes_start L (v ∷ vs) = omega arith

-- at frame k, with n changes before it
module _ (L : ℕ) (values : List ℕ) (n k : ℕ) {w : ℕ} (h : w ≡ n + changes_after (lane L (get_or values (k - 1) 0)) (map (lane L) (drop k values))) where
  -- whether the bit is another than the one before is a number to add
  turn : k < length values → (bit : Bool) → not (beq (lane L (get_or values k 0)) (lane L (get_or values (k - 1) 0))) ≡ bit → {m : ℕ} → m ≡ n + bool_byte bit
      → w ≡ m + changes_after (lane L (get_or values ((k + 1) - 1) 0)) (map (lane L) (drop (k + 1) values))
  turn l true d q = h ∙ rw (back k, add-one k, drop-cons values k 0 l, not-true (beq (lane L (get_or values k 0)) (lane L (get_or values (k - 1) 0))) d) (omega arith)
  turn l false d q = h ∙ rw (back k, add-one k, drop-cons values k 0 l, not-false (beq (lane L (get_or values k 0)) (lane L (get_or values (k - 1) 0))) d) (omega arith)

  pub changes_turn : k < length values → {bit : Bool} → bit ≡ lane L (bit_xor (get_or values k 0) (get_or values (k - 1) 0)) → {m : ℕ} → m ≡ n + bool_byte bit
      → w ≡ m + changes_after (lane L (get_or values ((k + 1) - 1) 0)) (map (lane L) (drop (k + 1) values))
  changes_turn l {bit} e = turn l bit (sym (e ∙ xor_lane L (get_or values k 0) (get_or values (k - 1) 0)))

  pub changes_end : length values ≤ k → n ≡ w
  changes_end l = sym (h ∙ rw (drop_of_length-le values l, add-zero))

-- a bit adds 1 at most
pub bit_most : (bit : Bool) → bool_byte bit ≤ 1
bit_most true = omega arith
bit_most false = omega arith
