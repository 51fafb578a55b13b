-- What is lent from an array in a local: its first k elements, for a lifetime, and the slices that are lent with them.
--     shorter, shorter_mut     what a `&κ [T]` and a `&κ mut [T]` own serves at a lifetime that ends no later; a `&mut`
--                              keeps its name. Of the T of a `&κ [T]` it asks the laws of what a `&` to it holds
--     apart, together          an array in a local is its elements, and back
--     cuts, glues              the elements are the first k and the rest, and back
-- The array has n elements of a type R of one MIR type, whose machine values are a function of the denotation: any plain
-- data. Assumes `Logic`.
use mathlib.Core.Path.{◌≡◌, refl, sym}
use Prim.Native.Nat.{ℕ, ◌≤◌}
use mathlib.Core.List.{List, [], ◌∷◌, ◌++◌}
use lib.ListN.{length, take, drop as drop-list, take-append-drop, length-take}
use native.Mathlib.Omega.{arith}
use seplogic.Ra.Ura.{Ura}
use base.Fraction.{full_share}
use mir.Syntax.{named, ty_array}
use mir.Val.{Val}
use base.Logic.{ent, sep}
use base.Fml.{Lft, Fml, Incl, fsep, fat, fbor, fhide}
use types.Logic.{Logic, sem}
use types.Kit.{‵, ◌⊛◌, ◌$◌, ◌∵◌, !, qed, by, move, keep, drop, use1, use2, split, rewrite, fsplit, fjoin, fpick, fpack, feq_i, done}
use types.SemTy.{cells, Arr, Body}
use types.Share.{arr_parts}
use types.Hole.{Holey}
use denote.RattleType.{RattleType, RowLaws}
use denote.Laws.{Is, Tells, shows}
use denote.Memory.{lone, cell_at, part_at, part_of, shares, mem as mem_of}
use denote.Array.{Array, array_vals, Array-Tells}
use denote.ArrayMemory.{Single, Array-apart, Array-whole}
use denote.Index.{row, whole_in, whole_out}
use denote.Ref.{Bor, MutBor}
use denote.SharingLaws.{shortens}
use denote.Slice.{ShrSlice, MutSlice, elements_shared, elements_shr_laws}
use denote.Steps.{only}
use denote.Struct.Steps.{spelt}
use borrow.Table.Elements.{at as placed, cut_app, join_app}

-- ---- the array in the local l: whole, its first k elements, and the rest
module _ (R : RattleType) where
  abbrev pub Whole : ℕ → List R.Denot → ℕ → Fml
  Whole n xs l = (arr_parts (shares R) n).part full_share xs l 0

  abbrev pub First : ℕ → List R.Denot → ℕ → Fml
  First k xs l = (arr_parts (shares R) (length (take k xs))).part full_share (take k xs) l 0

  abbrev pub Rest : ℕ → List R.Denot → ℕ → Fml
  Rest k xs l = cells (mem_of R) (drop-list k xs) l (placed 0 (mem_of R).size (length (take k xs)))

pub taken : {X : Type 0} (n k : ℕ) (xs : List X) → length xs ≡ n → k ≤ n → length (take k xs) ≡ k
taken n k xs len fit = omega (arith, length-take k xs, len, fit)

module _ {M : Type 1} {𝓤 : Ura M} (𝓛 : Logic 𝓤) where
  -- what a `&κ [T]` or a `&κ mut [T]` owns serves at a lifetime that ends no later
  open 𝓛 use {H}

  pub shorter : (R : RattleType) → RowLaws R → (κ κ' : Lft) → Incl κ' κ → (x : Bor (List R.Denot)) (us : List Val) → ent 𝓤 (sem 𝓛 ((ShrSlice (named 0) κ R).own_val x us)) (sem 𝓛 ((ShrSlice (named 0) κ' R).own_val x us))
  shorter R L κ κ' inc x us =
      qed 𝓛 (‵ ((ShrSlice (named 0) κ R).own_val x us) ∷ []) ∵ fsplit ! $ move ! (1 ∷ []) $
      use1 𝓛 (‵ (fhide (elements_shared R x.now x.ref_ptr.0 x.ref_ptr.1 κ'))) (shortens 𝓛 (elements_shared R x.now x.ref_ptr.0 x.ref_ptr.1) (elements_shr_laws R L x.now x.ref_ptr.0 x.ref_ptr.1) κ κ' inc) $
      move ! (1 ∷ 0 ∷ []) $ fjoin ! $ done !

  pub shorter_mut : (R : RattleType) (κ κ' : Lft) → Incl κ' κ → (x : MutBor (List R.Denot)) (us : List Val) → ent 𝓤 (sem 𝓛 ((MutSlice (named 0) κ R).own_val x us)) (sem 𝓛 ((MutSlice (named 0) κ' R).own_val x us))
  shorter_mut R κ κ' inc x us =
      qed 𝓛 (‵ ((MutSlice (named 0) κ R).own_val x us) ∷ []) ∵ fsplit ! $ move ! (1 ∷ []) $ fsplit ! $ move ! (1 ∷ []) $
      use1 𝓛 (‵ (fbor κ' (Body (Arr (Holey (mem_of R)) (length x.now)) x.ref_ptr.0 x.ref_ptr.1 x.ghost_name))) (𝓛.bors.bor_shorten κ κ' (Body (Arr (Holey (mem_of R)) (length x.now)) x.ref_ptr.0 x.ref_ptr.1 x.ghost_name) inc) $
      move ! (1 ∷ 0 ∷ []) $ fjoin ! $ move ! (1 ∷ 0 ∷ []) $ fjoin ! $ done !

  module _ (R : RattleType) (n : ℕ) where
    -- an array in a local, as its elements, and back
    module _ (vals : R.Denot → List Val) (tells : Tells R (Is R) vals) where
      pub apart : Single R.mir → (xs : List R.Denot) (l : ℕ) → ent 𝓤 (sep 𝓤 (H.at full_share (ty_array (lone R.mir) n) l 0 (only (array_vals vals xs))) (sem 𝓛 ((Array R n).own_val xs (array_vals vals xs)))) (sem 𝓛 (Whole R n xs l))
      unfolding part_of
      apart one xs l =
          qed 𝓛 (‵ (fat full_share (ty_array (lone R.mir) n) l 0 (only (array_vals vals xs))) ∷ ‵ ((Array R n).own_val xs (array_vals vals xs)) ∷ []) ∵
          use1 𝓛 (‵ (cell_at full_share (Array R n).mir (array_vals vals xs) l 0)) (𝓛.laws.at_raw full_share (ty_array (lone R.mir) n) l 0 (only (array_vals vals xs))) $ fjoin ! $
          fpack ! (List Val) (λ vs. fsep (cell_at full_share (Array R n).mir vs l 0) ((Array R n).own_val xs vs)) (array_vals vals xs) $ by ! (Array-apart 𝓛 R full_share one n xs l 0)

      pub together : (xs : List R.Denot) (l : ℕ) → ent 𝓤 (sem 𝓛 (Whole R n xs l)) (H.at full_share (ty_array (lone R.mir) n) l 0 (only (array_vals vals xs)))
      unfolding part_of
      together xs l =
          qed 𝓛 (‵ (Whole R n xs l) ∷ []) ∵ use1 𝓛 (‵ (part_at (Array R n) full_share xs l 0)) (Array-whole 𝓛 R full_share n xs l 0) $ fpick ! (λ vs. fsplit ! $
          spelt ! (Array R n) (Is (Array R n)) (shows 𝓛 (Array R n)) (array_vals vals) (Array-Tells R vals tells n) full_share xs vs l 0 $ keep ! (0 ∷ []) $ by ! (𝓛.laws.raw_at full_share (ty_array (lone R.mir) n) l 0 (only (array_vals vals xs))))

    -- the elements are cut behind the first k, and put together again
    pub cuts : (k : ℕ) (xs : List R.Denot) (l : ℕ) → ent 𝓤 (sem 𝓛 (Whole R n xs l)) (sep 𝓤 (sem 𝓛 (First R k xs l)) (sem 𝓛 (Rest R k xs l)))
    cuts k xs l =
        qed 𝓛 (‵ (Whole R n xs l) ∷ []) ∵ fsplit ! $ drop ! $ use1 𝓛 (‵ (cells (mem_of R) xs l 0)) (whole_in 𝓛 R xs l 0) $
        rewrite ! 0 (λ (ys : List R.Denot). ‵ (cells (mem_of R) ys l 0)) (sym (take-append-drop k xs)) refl $
        use1 𝓛 (‵ (cells (mem_of R) (take k xs) l 0) ⊛ ‵ (Rest R k xs l)) (cut_app 𝓛 (mem_of R) (take k xs) (drop-list k xs) l 0) $ split ! $
        use1 𝓛 (‵ (row R full_share (take k xs) l 0)) (whole_out 𝓛 R (take k xs) l 0) $ feq_i ! ℕ (length (take k xs)) (length (take k xs)) refl $ fjoin ! $ done !

    pub glues : (k : ℕ) (xs : List R.Denot) (l : ℕ) → length xs ≡ n → ent 𝓤 (sep 𝓤 (sem 𝓛 (First R k xs l)) (sem 𝓛 (Rest R k xs l))) (sem 𝓛 (Whole R n xs l))
    glues k xs l len =
        qed 𝓛 (‵ (First R k xs l) ∷ ‵ (Rest R k xs l) ∷ []) ∵ fsplit ! $ drop ! $ use1 𝓛 (‵ (cells (mem_of R) (take k xs) l 0)) (whole_in 𝓛 R (take k xs) l 0) $
        use2 𝓛 (‵ (cells (mem_of R) (take k xs ++ drop-list k xs) l 0)) (join_app 𝓛 (mem_of R) (take k xs) (drop-list k xs) l 0) $
        rewrite ! 0 (λ (ys : List R.Denot). ‵ (cells (mem_of R) ys l 0)) (take-append-drop k xs) refl $
        use1 𝓛 (‵ (row R full_share xs l 0)) (whole_out 𝓛 R xs l 0) $ feq_i ! ℕ (length xs) n len $ fjoin ! $ done !
