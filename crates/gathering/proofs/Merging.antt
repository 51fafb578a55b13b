-- The times of two fan-ins merged: at each turn the earlier of the two next ones, or both where they are the same. What comes
-- of it rises and has the members of both.
-- Assumes nothing.
use Prim.Native.Nat.{ℕ, zero, suc, min, ◌+◌, ◌-◌, ◌≤◌, ◌<◌}
use mathlib.Core.Path.{◌≡◌, refl, sym, ap, ap₂, ◌∙◌}
use mathlib.Core.Logic.{inl, inr}
use mathlib.Core.Bool.{cond, or_comm}
use mathlib.Core.List.{List, [], ◌∷◌, ◌++◌, flat_map, append-nil}
use native.Mathlib.Omega.{arith}
use native.Mathlib.Numerals.{add-one}
use lib.Dec.{leb}
use lib.ListN.{length, get_or, take, drop, set, length-map, length-drop, drop_of_length-le}
use lib.Seq.{drop-cons, drop-drop, take-suc-set, append_snoc, length-take-le}
use borrow.Author.Tests.{lt-ltb, le-ltb, eq-eqb, le-leb, lt-leb}
use Rattle.std.proofs.Math.Nat.{min-eq_left, min-eq_right}
use Rattle.lists.proofs.Choices.{order, less, same, more, tri}
use Rattle.method.specs.Times.{insert_once, rising, shifted, gate_times, among}
use Rattle.method.proofs.Rising.{Rise, Starts, Above, rise_lower, rise_ext, above_append, rising_rise, rising_among, among_append}
use Rattle.gathering.specs.Steps.{Added, Put, plus}
use Rattle.gathering.proofs.Gathered.{one_in}

-- ---- a list that rises already

insert_once_front : (x : ℕ) (ts : List ℕ) → Rise x ts → insert_once x ts ≡ x ∷ ts
insert_once_front x [] r = refl
insert_once_front x (t ∷ ts) r = rw (lt-ltb x t r.0)

rising_self : (p : ℕ) (ts : List ℕ) → Rise p ts → rising ts ≡ ts
rising_self p [] r = refl
rising_self p (t ∷ ts) r = rw (rising_self t ts r.1) (insert_once_front t ts r.1)

plus_rise : (d p : ℕ) (ts : List ℕ) → Rise p ts → Rise (p + d) (plus d ts)
plus_rise d p [] r = tt
plus_rise d p (t ∷ ts) r = (omega (arith, r.0), plus_rise d t ts r.1)

plus_above : (d p q : ℕ) (ts : List ℕ) → p ≤ q → Rise q ts → Above (p + d) (plus d ts)
plus_above d p q [] h r = tt
plus_above d p q (t ∷ ts) h r = (omega (arith, r.0), plus_above d p t ts (omega (arith, r.0)) r.1)

-- from a later frame on
rise_from_lem : (p : ℕ) (ts : List ℕ) → Rise p ts → (k : ℕ) → Rise 0 (drop k ts)
rise_from_lem p ts r zero = rise_lower ts (omega arith) r
rise_from_lem p [] r (suc k) = tt
rise_from_lem p (t ∷ ts) r (suc k) = rise_from_lem t ts r.1 k

later_rise : (ss : List ℕ) → Starts ss → (k : ℕ) → 1 ≤ k → Rise 0 (drop k ss)
later_rise [] s k h = absurd s
later_rise (t ∷ ss) s zero h = absurd (omega arith)
later_rise (t ∷ ss) s (suc k) h = rise_from_lem t ss s.1 k

-- ---- both lists, plus d, in one

module _ (d : ℕ) where
  unfoldable pub union : List ℕ → List ℕ → List ℕ
  union xs ys = rising (plus d xs ++ plus d ys)

  union_above : (p : ℕ) (xs ys : List ℕ) → Rise p xs → Rise p ys → Above (p + d) (plus d xs ++ plus d ys)
  union_above p xs ys r s = above_append (p + d) (plus d xs) (plus d ys) (plus_above d p p xs (omega arith) r) (plus_above d p p ys (omega arith) s)

  union_swap : (p : ℕ) (xs ys : List ℕ) → Rise p xs → Rise p ys → union xs ys ≡ union ys xs
  unfolding union
  union_swap p xs ys r s =
      rise_ext (p + d) (rising (plus d xs ++ plus d ys)) (rising (plus d ys ++ plus d xs))
      (rising_rise (p + d) (plus d xs ++ plus d ys) (union_above p xs ys r s)) (rising_rise (p + d) (plus d ys ++ plus d xs) (union_above p ys xs s r))
      (λ z.
      rising_among z (plus d xs ++ plus d ys) ∙ among_append z (plus d xs) (plus d ys) ∙ or_comm (among z (plus d xs)) (among z (plus d ys))
      ∙ sym (rising_among z (plus d ys ++ plus d xs) ∙ among_append z (plus d ys) (plus d xs)))

  union_first : (a : ℕ) (xs ys : List ℕ) → Rise a xs → Rise a ys → union (a ∷ xs) ys ≡ (a + d) ∷ union xs ys
  unfolding union
  union_first a xs ys r s = insert_once_front (a + d) (rising (plus d xs ++ plus d ys)) (rising_rise (a + d) (plus d xs ++ plus d ys) (union_above a xs ys r s))

  union_both : (p a : ℕ) (xs ys : List ℕ) → p < a → Rise a xs → Rise a ys → union (a ∷ xs) (a ∷ ys) ≡ (a + d) ∷ union xs ys
  unfolding union
  union_both p a xs ys h r s =
      let inner : union xs (a ∷ ys) ≡ (a + d) ∷ union xs ys =
      union_swap p xs (a ∷ ys) (rise_lower xs (omega arith) r) (h, s) ∙ union_first a ys xs s r ∙ ap (λ (l : List ℕ). (a + d) ∷ l) (union_swap a ys xs s r) in
      rw inner (rw (le-ltb (a + d) (a + d) (omega arith), eq-eqb (a + d) (a + d) refl))

  -- the earlier of the two first ones comes first, and is passed
  union_step : (p a b : ℕ) (xs ys : List ℕ) → Rise p (a ∷ xs) → Rise p (b ∷ ys)
      → union (a ∷ xs) (b ∷ ys) ≡ (min a b + d) ∷ union (drop (cond (leb a b) 1 0) (a ∷ xs)) (drop (cond (leb b a) 1 0) (b ∷ ys))
  union_step p a b xs ys r s =
      elim (tri a b) [
        | less h ↦ rw (min-eq_left {n = a} {m = b} (omega arith), le-leb a b (omega arith), lt-leb b a h) (union_first a xs (b ∷ ys) r.1 (h, s.1))
        | same h ↦ rw (min-eq_left {n = a} {m = b} (omega arith), le-leb a b (omega arith), le-leb b a (omega arith))
            (let s' : Rise a ys = rw h s.1 in rw (← h) (union_both p a xs ys r.0 r.1 s'))
        | more h ↦ rw (min-eq_right {n = b} {m = a} (omega arith), lt-leb a b h, le-leb b a (omega arith))
            (union_swap p (a ∷ xs) (b ∷ ys) r s ∙ union_first b ys (a ∷ xs) s.1 (h, r.1) ∙ ap (λ (l : List ℕ). (b + d) ∷ l) (union_swap b ys (a ∷ xs) s.1 (h, r.1)))
      ]

  union_left : (xs ys : List ℕ) → Rise 0 xs → ys ≡ [] → union xs ys ≡ plus d xs
  unfolding union
  union_left xs ys r e = rw (e, append-nil) (rising_self (0 + d) (plus d xs) (plus_rise d 0 xs r))

  union_right : (xs ys : List ℕ) → Rise 0 ys → xs ≡ [] → union xs ys ≡ plus d ys
  unfolding union
  union_right xs ys r e = rw e (rising_self (0 + d) (plus d ys) (plus_rise d 0 ys r))

-- ---- one turn passes one frame, or one of each

pub by_one : (a b : ℕ) → cond (leb a b) 1 0 ≤ 1
by_one a b = elim (order a b) [ inl h ↦ rw (le-leb a b h) (omega arith) | inr h ↦ rw (lt-leb a b h) (omega arith) ]

pub by_some : (a b : ℕ) → 1 ≤ cond (leb a b) 1 0 + cond (leb b a) 1 0
by_some a b = elim (order a b) [ inl h ↦ rw (le-leb a b h) (omega arith) | inr h ↦ rw (lt-leb a b h, le-leb b a (omega arith)) (omega arith) ]

-- ---- the turns of the merge: n are put, the frames i and j are next

shifted_plus : (d p : ℕ) (ss : List ℕ) → Rise p ss → shifted d ss ≡ plus d ss
shifted_plus d p [] r = refl
shifted_plus d p (zero ∷ ss) r = absurd (omega (arith, r.0))
shifted_plus d p (suc s ∷ ss) r = ap (λ (l : List ℕ). (suc s + d) ∷ l) (shifted_plus d (suc s) ss r.1)

shifted_later : (d : ℕ) (ss : List ℕ) → Starts ss → shifted d ss ≡ plus d (drop 1 ss)
shifted_later d [] s = absurd s
shifted_later d (t ∷ ss) s = rw s.0 (shifted_plus d t ss s.1)

module _ (d : ℕ) (xs ys : List ℕ) (x : Starts xs) (y : Starts ys) where
  pub merge_none : (row : List ℕ) → 0 < length row → gate_times d (xs ∷ ys ∷ []) ≡ take 1 (set row 0 0) ++ union d (drop 1 xs) (drop 1 ys)
  unfolding gate_times union flat_map
  merge_none row h =
      let both : flat_map (shifted d) (xs ∷ ys ∷ []) ≡ plus d (drop 1 xs) ++ plus d (drop 1 ys) = rw (append-nil, shifted_later d xs x, shifted_later d ys y) in
      rw (← one_in row h) (ap (λ (l : List ℕ). 0 ∷ rising l) both)

  module _ (n i j : ℕ) (row : List ℕ) {w : List ℕ} (h : w ≡ take n row ++ union d (drop i xs) (drop j ys)) (from-i : 1 ≤ i) (from-j : 1 ≤ j) where
    pub merge_on : i < length xs → j < length ys → n < length row → {v i' j' : ℕ}
        → v ≡ min (get_or xs i 0) (get_or ys j 0) + d → i' ≡ cond (leb (get_or xs i 0) (get_or ys j 0)) 1 0 → j' ≡ cond (leb (get_or ys j 0) (get_or xs i 0)) 1 0
        → w ≡ take (n + 1) (set row n v) ++ union d (drop (i + i') xs) (drop (j + j') ys)
    merge_on a b c {v} {i'} {j'} p q r =
        let xi : drop i xs ≡ get_or xs i 0 ∷ drop (suc i) xs = drop-cons xs i 0 a in
        let yj : drop j ys ≡ get_or ys j 0 ∷ drop (suc j) ys = drop-cons ys j 0 b in
        let first : union d (drop i xs) (drop j ys) ≡ v ∷ union d (drop (i + i') xs) (drop (j + j') ys) =
        ap₂ (union d) xi yj
        ∙ union_step d 0 (get_or xs i 0) (get_or ys j 0) (drop (suc i) xs) (drop (suc j) ys) (rw xi at (later_rise xs x i from-i)) (rw yj at (later_rise ys y j from-j))
        ∙ rw (← p, ← q, ← r, ← xi, ← yj, drop-drop i' i xs, drop-drop j' j ys) in
        h ∙ ap (λ (l : List ℕ). take n row ++ l) first ∙ sym (rw (add-one n, take-suc-set row n v c) (append_snoc (take n row) v (union d (drop (i + i') xs) (drop (j + j') ys))))

    -- one of the two is through
    pub merge_left : length ys ≤ j → w ≡ take n row ++ plus d (drop i xs)
    merge_left l = h ∙ rw (union_left d (drop i xs) (drop j ys) (later_rise xs x i from-i) (drop_of_length-le ys l))

    pub merge_right : length xs ≤ i → w ≡ take n row ++ plus d (drop j ys)
    merge_right l = h ∙ rw (union_right d (drop i xs) (drop j ys) (later_rise ys y j from-j) (drop_of_length-le xs l))

-- ---- the rest of one of them is added

pub added : {row row' ts w : List ℕ} {n r most : ℕ} → Added row row' n ts r → w ≡ take n row ++ ts → r ≤ length row' → r ≤ most → Put row' w most r
added {row} {row'} {ts} {w} {n} {r} {most} a h fits few =
    let is : take r row' ≡ w = a.is ∙ sym h in
    record { is = is; size = rw (← is) (length-take-le r row' fits); few = few }

module _ (d : ℕ) (ss : List ℕ) (n k : ℕ) (row : List ℕ) {w : List ℕ} (h : w ≡ take n row ++ plus d (drop k ss)) where
  pub rest_on : k < length ss → n < length row → w ≡ take (n + 1) (set row n (get_or ss k 0 + d)) ++ plus d (drop (k + 1) ss)
  rest_on a b =
      h ∙ rw (drop-cons ss k 0 a, add-one k, add-one n, take-suc-set row n (get_or ss k 0 + d) b) (sym (append_snoc (take n row) (get_or ss k 0 + d) (plus d (drop (suc k) ss))))

  pub rest_end : length ss ≤ k → take n row ≡ w
  rest_end l = sym (h ∙ rw (drop_of_length-le ss l, append-nil))

pub rest_length : (d : ℕ) (ss : List ℕ) (k : ℕ) → length (plus d (drop k ss)) ≡ length ss - k
rest_length d ss k = length-map (drop k ss) (λ (s : ℕ). s + d) ∙ length-drop k ss
