-- A `&κ mut [T]` that is not written again is shared for all the time that it has left: it becomes a `&κ [T]` on the same
-- elements, its own name ends at them, and the token stays.
--     shares_slice     own (the `&κ mut [T]` ((b, o), γ, ys)) ∗ [κ]_q  ⊢ ⇛ (own (the `&κ [T]` ((b, o), ys)) ∗ finally γ ys ∗
--                      [κ]_q)
-- It is `Borrow/Rule/Slice/Handed.antt`'s `sl_Share` over `Denote/Slice.antt`'s types. No new lifetime is made, so one
-- call with the shared slice needs no `lft_new`. Of T it asks the laws of what a `&` to it holds, and that it is shared out
-- (`Denote/Shares.antt`).
-- Assumes `Logic`.
use Prim.Native.Nat.{ℕ}
use mathlib.Core.List.{List, [], ◌∷◌}
use lib.ListN.{length}
use seplogic.Ra.Ura.{Ura}
use mir.Syntax.{Lifetime, erased}
use mir.Val.{Val}
use base.Logic.{ent, sep}
use base.Fml.{Lft, GName, Share, flft}
use types.Logic.{Logic, sem}
use types.Kit.{‵, ◌⊛◌, later, ◌$◌, ◌∵◌, !, qed, use2, split, fsplit, fjoin, await, updating, now as at_once, done}
use denote.RattleType.{RattleType, RowLaws}
use denote.Shadow.{pure_l, pure_i}
use denote.Ref.{Bor, MutBor}
use denote.Shares.{Shares}
use denote.Slice.{MutSlice, ShrSlice, room, finally, shr_slice_at, mut_slice_at}
use borrow.Table.Owned as owned
use borrow.Rule.Slice.Handed.{sl_Share}

module _ (R : RattleType) (κ : Lft) (q : Share) (γ : GName) (b o : ℕ) where
  abbrev at_list : List R.Denot → MutBor (List R.Denot)
  at_list ys = record { ref_ptr = (b, o); ghost_name = γ; now = ys }

  abbrev seen : List R.Denot → Bor (List R.Denot)
  seen ys = record { ref_ptr = (b, o); now = ys }

  module _ {M : Type 1} {𝓤 : Ura M} (𝓛 : Logic 𝓤) (ℓ ℓ' : Lifetime) (L : RowLaws R) (out : Shares 𝓛 R κ) (ys : List R.Denot) (us : List Val) where
    open 𝓛 use {H, A}

    pub shares_slice : ent 𝓤 (sep 𝓤 (sem 𝓛 ((MutSlice ℓ κ R).own_val (at_list ys) us)) (A.lft κ q))
        (H.⇛ (sep 𝓤 (sem 𝓛 ((ShrSlice ℓ' κ R).own_val (seen ys) us)) (sep 𝓤 (sem 𝓛 (finally R γ ys)) (A.lft κ q))))
    shares_slice =
        qed 𝓛 (‵ ((MutSlice ℓ κ R).own_val (at_list ys) us) ∷ ‵ (flft κ q) ∷ []) ∵ updating ! $ fsplit ! $ pure_l ! (mut_slice_at R (at_list ys) us) (λ p.
        pure_i ! (room R (length ys)) (tt, tt) p.1 $ fjoin ! $
        use2 𝓛 (later (‵ ((owned.ShrSlice erased κ R).own_val (seen ys)) ⊛ (‵ (finally R γ ys) ⊛ ‵ (flft κ q)))) (sl_Share 𝓛 R b o γ ys L κ q out) $ await ! tt $ split ! $
        -- [what a `&κ [T]` owns but for its machine value; how the name ends, with the token]
        fsplit ! $ pure_l ! (room R (length ys)) (λ g. pure_i ! (shr_slice_at R (seen ys) us) (tt, (tt, tt)) (p.0, g) $ fjoin ! $ at_once ! $ done !))
