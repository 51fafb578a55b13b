-- The charges added up: what a turn knows of the loop over a net's frames, and of the loop over a lent list of loads. Each has a
-- total, which with the charges of what is left makes the whole.
-- Assumes nothing.
use Prim.Native.Nat.{ℕ, suc, ◌+◌, ◌≤◌, ◌<◌}
use mathlib.Core.Path.{◌≡◌, refl, sym, ap, ◌∙◌}
use mathlib.Core.Logic.{inl, inr}
use mathlib.Core.Bool.{Bool, true, false, beq}
use mathlib.Core.List.{List, [], ◌∷◌, ◌++◌, map}
use native.Mathlib.Omega.{arith}
use native.Mathlib.Numerals.{add-one}
use Rattle.std.proofs.lemmas.Grind.{get_or_after_one, get_or_default_zero}
use lib.ListN.{length, get_or, drop, drop_of_length-le, length-drop}
use lib.Seq.{drop-cons, drop-length}
use lib.Ieee.{Float, binary64, add, of_bits, of_int}
use borrow.Author.Tests.{le-leb, lt-leb}
use Rattle.lists.proofs.Choices.{either}
use Rattle.method.specs.Words.{lane}
use Rattle.method.specs.Layout.{part_of}
use Rattle.charge_loads.specs.declared.Load.{Load}
use Rattle.charge_loads.specs.Charges.{change_charge, charges_after, charges, charges_from, added, drawn_by_nets}
use Rattle.charge_loads.specs.Steps.{drawn_at, net_part}
use Rattle.charge_loads.proofs.Listed.{no_load}

-- ---- a frame

module _ (load : Load) (before level : Bool) (total : Float) where
  pub no_change : beq level before ≡ true → total ≡ drawn_at load before level total
  unfolding drawn_at
  no_change e = rw e

  pub change : beq level before ≡ false → {q : Float} → q ≡ change_charge load level → add binary64 total q ≡ drawn_at load before level total
  unfolding drawn_at
  change e f = rw (e, f)

added_frame : (load : Load) (v w : Bool) (ws : List Bool) (total : Float) → added (charges_after load v (w ∷ ws)) total ≡ added (charges_after load w ws) (drawn_at load v w total)
unfolding charges_after added drawn_at
added_frame load v w ws total = elim (either (beq w v)) [ inl e ↦ rw e | inr e ↦ rw e ]

-- ---- the frames of a net: a total, with what is drawn from frame k on, the frame before being at this level

abbrev pub Left : Load → ℕ → List ℕ → ℕ → Bool → Float → Float
Left load L values k before sum = added (charges_after load before (map (lane L) (drop k values))) sum

-- frame 0 is no change
first_apart : (load : Load) (L : ℕ) (values : List ℕ) → charges load (map (lane L) values) ≡ charges_after load (lane L (get_or values 0 0)) (map (lane L) (drop 1 values))
unfolding charges charges_after
first_apart load L [] = refl
first_apart load L (v ∷ vs) = refl

module _ (load : Load) (L : ℕ) (values : List ℕ) where
  pub frames_start : (total : Float) {first : ℕ} {before : Bool} → first ≡ get_or values 0 0 → before ≡ lane L first → added (charges load (map (lane L) values)) total ≡ Left load L values 1 before total
  frames_start total e f = rw (f, e) (ap (λ (qs : List Float). added qs total) (first_apart load L values))

  module _ (k : ℕ) (before : Bool) (sum : Float) {whole : Float} (h : whole ≡ Left load L values k before sum) where
    pub frames_on : k < length values → {level : Bool} {next : Float} → level ≡ lane L (get_or values k 0) → next ≡ drawn_at load before level sum → whole ≡ Left load L values (k + 1) level next
    frames_on l {level} v n =
        h ∙ ap (λ (rest : List ℕ). added (charges_after load before (map (lane L) rest)) sum) (drop-cons values k 0 l)
        ∙ added_frame load before (lane L (get_or values k 0)) (map (lane L) (drop (suc k) values)) sum ∙ rw (add-one k, n, v)

    pub frames_end : length values ≤ k → sum ≡ whole
    unfolding charges_after added
    frames_end l = sym (h ∙ rw (drop_of_length-le values l))

-- frame n behind frame 0, and the end of those behind it
module _ (values : List ℕ) (n : ℕ) where
  pub later_more : n < length (drop 1 values) → n + 1 < length values
  later_more h = omega (arith, h, length-drop 1 values)

  pub later_at : {word : ℕ} → (n < length (drop 1 values)) × (word ≡ get_or (drop 1 values) n word) → word ≡ get_or values (n + 1) 0
  later_at {word} t = t.1 ∙ get_or_after_one values n word ∙ rw (let q : 1 + n ≡ n + 1 = omega arith in q) (get_or_default_zero values (n + 1) word (later_more t.0))

  pub later_end : n ≡ length (drop 1 values) → length values ≤ n + 1
  later_end e = omega (arith, e, length-drop 1 values)

-- ---- a net's part of the values

module _ (load : Load) (L : ℕ) (directory values : List ℕ) (i : ℕ) (total : Float) where
  pub past_nets : 65535 < i → total ≡ added (charges load (map (lane L) (net_part directory values i))) total
  unfolding net_part charges added
  past_nets l = rw (lt-leb i 65535 l)

  pub of_net : i ≤ 65535 → {part : List ℕ} → part ≡ part_of directory values i → {r : Float} → r ≡ added (charges load (map (lane L) part)) total
      → r ≡ added (charges load (map (lane L) (net_part directory values i))) total
  unfolding net_part
  of_net l e f = f ∙ rw (e, le-leb i 65535 l)

-- ---- the nets from i on

added_append : (ps qs : List Float) (total : Float) → added (ps ++ qs) total ≡ added qs (added ps total)
unfolding added
added_append [] qs total = refl
added_append (p ∷ ps) qs total = added_append ps qs (add binary64 total p)

module _ (levels : ℕ → List Bool) (list : List Load) where
  abbrev pub total_from : ℕ → Float → Float
  total_from i total = added (charges_from levels i (drop i list)) total

  pub total_start : drawn_by_nets levels list ≡ total_from 0 (of_bits binary64 0)
  unfolding drawn_by_nets of_bits of_int
  total_start = refl

  pub total_end : (i : ℕ) (total : Float) → i ≡ length list → total_from i total ≡ total
  unfolding charges_from added
  total_end i total e = ap (λ (j : ℕ). added (charges_from levels i (drop j list)) total) e ∙ ap (λ (xs : List Load). added (charges_from levels i xs) total) (drop-length list)

  pub total_on : (i : ℕ) (total next : Float) → i < length list → next ≡ added (charges (get_or list i no_load) (levels i)) total → total_from (i + 1) next ≡ total_from i total
  unfolding charges_from
  total_on i total next l e =
      rw (add-one i, drop-cons list i no_load l, e) (sym (added_append (charges (get_or list i no_load) (levels i)) (charges_from levels (suc i) (drop (suc i) list)) total))
