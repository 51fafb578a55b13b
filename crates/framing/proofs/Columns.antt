-- Fan-in indices stored column by column, a column a fan-in, are stored row by row, a row a frame.
-- Assumes nothing.
use Prim.Native.Nat.{ℕ, suc, ◌+◌, ◌*◌, ◌≤◌, ◌<◌}
use mathlib.Core.Path.{◌≡◌, refl, sym, ap, ap₂, ◌∙◌}
use mathlib.Core.List.{List, [], ◌∷◌, map, flat_map}
use native.Mathlib.Omega.{arith}
use native.Mathlib.Nat.{add-zero, add-suc}
use native.Mathlib.Numerals.{add-one}
use lib.ListN.{length, get_or, drop, set, length-map, drop_of_length-le}
use lib.Seq.{sets, drop-cons, set_comm}
use Rattle.lists.proofs.Storing.{sets_append}
use Rattle.method.specs.Indices.{fanin_index}
use Rattle.method.specs.Frames.{fanin_row}
use Rattle.framing.specs.Steps.{column}

-- ---- one column

-- what is stored before it may be stored after it
column_set : (area : List ℕ) (at width : ℕ) (vs : List ℕ) (p v : ℕ) → p < at → column (set area p v) at width vs ≡ set (column area at width vs) p v
unfolding column
column_set area at width [] p v h = refl
column_set area at width (x ∷ xs) p v h = rw (set_comm area p at v x (λ e. omega arith)) (column_set (set area at x) (at + width) width xs p v (omega arith))

column_sets : (area : List ℕ) (at width : ℕ) (vs : List ℕ) (p : ℕ) (us : List ℕ) → p + length us ≤ at → column (sets area p us) at width vs ≡ sets (column area at width vs) p us
column_sets area at width vs p [] h = refl
column_sets area at width vs p (u ∷ us) h =
    column_sets (set area p u) at width vs (suc p) us (omega arith) ∙ ap (λ (l : List ℕ). sets l (suc p) us) (column_set area at width vs p u (omega arith))

-- the indices at the times from frame k on are still to be stored
module _ (ts : List ℕ) (d at width : ℕ) (ss : List ℕ) (k : ℕ) (f : List ℕ) {w : List ℕ} (h : w ≡ column f (at + k * width) width (map (fanin_index d ss) (drop k ts))) where
  pub column_on : k < length ts → {v : ℕ} → v ≡ fanin_index d ss (get_or ts k 0) → w ≡ column (set f (at + k * width) v) (at + (k + 1) * width) width (map (fanin_index d ss) (drop (k + 1) ts))
  unfolding column
  column_on l q =
      let on : at + (k + 1) * width ≡ at + k * width + width = omega arith in
      h ∙ rw (on, drop-cons ts k 0 l, add-one k, q)

  pub column_end : length ts ≤ k → f ≡ w
  unfolding column
  column_end l = sym (h ∙ rw (drop_of_length-le ts l))

-- the same of two fan-ins, whose indices lie side by side
module _ (ts : List ℕ) (d at : ℕ) (one other : List ℕ) (k : ℕ) (f : List ℕ) {w : List ℕ} (h : w ≡ sets f (at + 2 * k) (flat_map (fanin_row d (one ∷ other ∷ [])) (drop k ts))) where
  pub pairs_on : k < length ts → {v u : ℕ} → v ≡ fanin_index d one (get_or ts k 0) → u ≡ fanin_index d other (get_or ts k 0) → w ≡ sets (set (set f (at + 2 * k) v) (at + 2 * k + 1) u) (at + 2 * (k + 1)) (flat_map (fanin_row d (one ∷ other ∷ [])) (drop (k + 1) ts))
  unfolding flat_map
  pairs_on l q r =
      let one : at + 2 * k + 1 ≡ suc (at + 2 * k) = omega arith in
      let two : at + 2 * (k + 1) ≡ suc (suc (at + 2 * k)) = omega arith in
      h ∙ rw (drop-cons ts k 0 l, one, two, add-one k, q, r)

  pub pairs_end : length ts ≤ k → f ≡ w
  unfolding flat_map
  pairs_end l = sym (h ∙ rw (drop_of_length-le ts l))

-- ---- all columns, side by side

module _ (d width : ℕ) where
  unfoldable pub columns : List ℕ → List ℕ → ℕ → List (List ℕ) → List ℕ
  columns ts area at [] = area
  columns ts area at (s ∷ ss) = columns ts (column area at width (map (fanin_index d s) ts)) (suc at) ss

  -- the first entries of all columns are the first row
  columns_row : (t : ℕ) (ts area : List ℕ) (at : ℕ) (ss : List (List ℕ)) → length ss ≤ width → columns (t ∷ ts) area at ss ≡ columns ts (sets area at (fanin_row d ss t)) (at + width) ss
  unfolding columns column
  columns_row t ts area at [] h = refl
  columns_row t ts area at (s ∷ ss) h =
      columns_row t ts (column (set area at (fanin_index d s t)) (at + width) width (map (fanin_index d s) ts)) (suc at) ss (omega arith)
      ∙ ap₂ (λ (l : List ℕ) (n : ℕ). columns ts l n ss)
      (sym (column_sets (set area at (fanin_index d s t)) (at + width) width (map (fanin_index d s) ts) (suc at) (fanin_row d ss t) (omega (arith, length-map ss (λ (x : List ℕ). fanin_index d x t)))))
      (let q : suc at + width ≡ suc (at + width) = omega arith in q)

  columns_none : (area : List ℕ) (at : ℕ) (ss : List (List ℕ)) → columns [] area at ss ≡ area
  unfolding columns column
  columns_none area at [] = refl
  columns_none area at (s ∷ ss) = columns_none area (suc at) ss

  columns_rows : (ts area : List ℕ) (at : ℕ) (ss : List (List ℕ)) → length ss ≡ width → columns ts area at ss ≡ sets area at (flat_map (fanin_row d ss) ts)
  unfolding flat_map
  columns_rows [] area at ss e = columns_none area at ss
  columns_rows (t ∷ ts) area at ss e =
      columns_row t ts area at ss (omega arith)
      ∙ columns_rows ts (sets area at (fanin_row d ss t)) (at + width) ss e
      ∙ sym (sets_append area at (fanin_row d ss t) (flat_map (fanin_row d ss) ts) ∙ rw (length-map ss (λ (x : List ℕ). fanin_index d x t) ∙ e))

-- the columns of the fan-ins from e on are still to be stored
module _ (ts : List ℕ) (ss : List (List ℕ)) (d width first e : ℕ) (f : List ℕ) {w : List ℕ} (h : w ≡ columns d width ts f (first + e) (drop e ss)) where
  pub columns_on : {s : List ℕ} → drop e ss ≡ s ∷ drop (e + 1) ss → {f' : List ℕ} → f' ≡ column f (first + e) width (map (fanin_index d s) ts) → w ≡ columns d width ts f' (first + (e + 1)) (drop (e + 1) ss)
  unfolding columns
  columns_on n g = h ∙ rw (n, g, add-one e, add-suc first e)

  pub columns_end : length ss ≤ e → f ≡ w
  unfolding columns
  columns_end l = sym (h ∙ rw (drop_of_length-le ss l))

pub columns_all : (ts : List ℕ) (ss : List (List ℕ)) (d width : ℕ) (f : List ℕ) (first : ℕ) → length ss ≡ width → sets f first (flat_map (fanin_row d ss) ts) ≡ columns d width ts f (first + 0) (drop 0 ss)
columns_all ts ss d width f first e = rw add-zero (sym (columns_rows d width ts f first ss e))
