-- The times that a gate's loops gather are its potential times: both rise, and they have the same members.
-- Assumes nothing.
use Prim.Native.Nat.{ℕ, zero, suc, ◌+◌, ◌≤◌, ◌<◌}
use mathlib.Core.Path.{◌≡◌, refl, sym, ap, ◌∙◌}
use mathlib.Core.Bool.{◌||◌, or_assoc, or-false}
use mathlib.Core.List.{List, [], ◌∷◌, flat_map}
use native.Mathlib.Omega.{arith}
use native.Mathlib.Numerals.{add-one}
use lib.Dec.{eqb}
use lib.ListN.{length, get_or, take, drop, set, drop_of_length-le}
use lib.Seq.{drop-cons}
use borrow.Author.Tests.{le-ltb, ne_eqb}
use Rattle.lists.proofs.Choices.{or_swap}
use Rattle.method.specs.Times.{insert_once, rising, shifted, gate_times, among}
use Rattle.method.proofs.Rising.{Rise, Starts, starts_above, rise_ext, insert_once_rise, insert_once_among, Above, among_append, rising_rise, rising_among, all_shifted_above}
use Rattle.gathering.specs.Steps.{into}

-- the later times of each of these nets, plus d, inserted one after the other
unfoldable pub gather : ℕ → List (List ℕ) → List ℕ → List ℕ
gather d [] ts = ts
gather d (ss ∷ rows) ts = gather d rows (into d (drop 1 ss) ts)

-- ---- the turns of the loops

module _ (ss : List ℕ) (d k : ℕ) (ts : List ℕ) {w : List ℕ} (h : w ≡ into d (drop k ss) ts) where
  pub into_on : k < length ss → w ≡ into d (drop (k + 1) ss) (insert_once (get_or ss k 0 + d) ts)
  unfolding into
  into_on b = h ∙ rw (drop-cons ss k 0 b, add-one k)

  pub into_end : length ss ≤ k → ts ≡ w
  unfolding into
  into_end b = sym (h ∙ rw (drop_of_length-le ss b))

module _ (rows : List (List ℕ)) (d e : ℕ) (ts : List ℕ) {w : List ℕ} (h : w ≡ gather d (drop e rows) ts) where
  pub gather_on : {ss : List ℕ} → drop e rows ≡ ss ∷ drop (e + 1) rows → {ts' : List ℕ} → ts' ≡ into d (drop 1 ss) ts → w ≡ gather d (drop (e + 1) rows) ts'
  unfolding gather
  gather_on n g = h ∙ rw (n, g)

  pub gather_end : length rows ≤ e → ts ≡ w
  unfolding gather
  gather_end b = sym (h ∙ rw (drop_of_length-le rows b))

-- a row of one
pub one_in : (row : List ℕ) → 0 < length row → 0 ∷ [] ≡ take 1 (set row 0 0)
one_in [] h = absurd (omega arith)
one_in (x ∷ xs) h = refl

-- ---- one fan-in

into_zero : (d : ℕ) (ss ts : List ℕ) → Above 0 ss → into d ss (0 ∷ ts) ≡ 0 ∷ into d ss ts
unfolding into
into_zero d [] ts a = refl
into_zero d (s ∷ ss) ts a = rw (le-ltb (s + d) 0 (omega arith), ne_eqb (s + d) 0 (omega arith)) (into_zero d ss (insert_once (s + d) ts) a.1)

into_rise : (d : ℕ) (ss ts : List ℕ) → Above 0 ss → Rise 0 ts → Rise 0 (into d ss ts)
unfolding into
into_rise d [] ts a r = r
into_rise d (s ∷ ss) ts a r = into_rise d ss (insert_once (s + d) ts) a.1 (insert_once_rise 0 (s + d) ts (omega arith) r)

into_among : (x d : ℕ) (ss ts : List ℕ) → Above 0 ss → among x (into d ss ts) ≡ among x (shifted d ss) || among x ts
unfolding into
into_among x d [] ts a = refl
into_among x d (zero ∷ ss) ts a = absurd (omega arith)
into_among x d (suc s ∷ ss) ts a =
    into_among x d ss (insert_once (suc s + d) ts) a.1
    ∙ rw (insert_once_among x (suc s + d) ts)
    (or_swap (among x (shifted d ss)) (eqb x (suc s + d)) (among x ts) ∙ sym (or_assoc (eqb x (suc s + d)) (among x (shifted d ss)) (among x ts)))

-- ---- all fan-ins

abbrev AllStart : List (List ℕ) → Type 0
AllStart rows = (e : ℕ) → e < length rows → Starts (get_or rows e [])

gather_zero : (d : ℕ) (rows : List (List ℕ)) (ts : List ℕ) → AllStart rows → gather d rows (0 ∷ ts) ≡ 0 ∷ gather d rows ts
unfolding gather
gather_zero d [] ts a = refl
gather_zero d (ss ∷ rows) ts a = rw (into_zero d (drop 1 ss) ts (starts_above ss (a 0 (omega arith)))) (gather_zero d rows (into d (drop 1 ss) ts) (λ e h. a (suc e) (omega arith)))

gather_rise : (d : ℕ) (rows : List (List ℕ)) (ts : List ℕ) → AllStart rows → Rise 0 ts → Rise 0 (gather d rows ts)
unfolding gather
gather_rise d [] ts a r = r
gather_rise d (ss ∷ rows) ts a r = gather_rise d rows (into d (drop 1 ss) ts) (λ e h. a (suc e) (omega arith)) (into_rise d (drop 1 ss) ts (starts_above ss (a 0 (omega arith))) r)

shifted_start : (d : ℕ) (ss : List ℕ) → Starts ss → shifted d ss ≡ shifted d (drop 1 ss)
shifted_start d [] h = absurd h
shifted_start d (t ∷ ss) h = rw h.0

gather_among : (x d : ℕ) (rows : List (List ℕ)) (ts : List ℕ) → AllStart rows → among x (gather d rows ts) ≡ among x (flat_map (shifted d) rows) || among x ts
unfolding gather flat_map
gather_among x d [] ts a = refl
gather_among x d (ss ∷ rows) ts a =
    let later = flat_map (shifted d) rows in
    gather_among x d rows (into d (drop 1 ss) ts) (λ e h. a (suc e) (omega arith))
    ∙ rw (into_among x d (drop 1 ss) ts (starts_above ss (a 0 (omega arith))), among_append x (shifted d ss) later, shifted_start d ss (a 0 (omega arith)))
    (or_swap (among x later) (among x (shifted d (drop 1 ss))) (among x ts) ∙ sym (or_assoc (among x (shifted d (drop 1 ss))) (among x later) (among x ts)))

pub gathered : (d : ℕ) (rows : List (List ℕ)) → AllStart rows → gather d rows (0 ∷ []) ≡ gate_times d rows
unfolding gate_times
gathered d rows a =
    let later = flat_map (shifted d) rows in
    gather_zero d rows [] a
    ∙ ap (λ (l : List ℕ). 0 ∷ l)
    (rise_ext 0 (gather d rows []) (rising later) (gather_rise d rows [] a tt) (rising_rise 0 later (all_shifted_above d rows))
    (λ x. gather_among x d rows [] a ∙ or-false (among x later) ∙ sym (rising_among x later)))
