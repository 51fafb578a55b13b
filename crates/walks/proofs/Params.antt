-- The parameters of a function, described once in a list, and what a walk has of such a list as one entry of its context:
-- so one parameter more that is only passed on is one more in the list.
--     Param            a `&'a [T]`, with the laws of what a `&` to T holds, a `&'a mut [T]`, or plain data. 'a is the first
--                      lifetime
--     rows, spells, tells, lawfuls     their types, their machine values, and the laws of these
--     Before, beside, front, past      a tuple that begins with their values, as a call's arguments
--     EndsBefore, ends_beside, ends_front, ends_past     one that begins with what is bound for them at exit
--     owning, lefts    what each owns, and what is said of what is bound for it at exit
--     seps             such a list in front of another formula, as a contract has it
--     parts_off, puts_before       the list is parted from what follows, as one entry, and put before it again
--     shorter_all      what they own serves at a lifetime that ends no later
-- Assumes `Logic` in `lawfuls` and the last three.
use mathlib.Core.Path.{sym, subst}
use Prim.Native.Nat.{ℕ}
use mathlib.Core.List.{List, [], ◌∷◌}
use lib.Dec.{eqb_refl}
use seplogic.Ra.Ura.{Ura}
use mir.Syntax.{Width, named}
use mir.Val.{Val, bytes}
use base.Logic.{ent, sep, emp, id⊢, emp∗, snd∗}
use base.Fml.{Lft, Fml, Incl, ftrue, fsep}
use types.Logic.{Logic, sem}
use types.Kit.{Item, Goal, Step, step, cut, ‵, ◌⊛◌, ◌$◌, ◌∵◌, !, qed, move, use1, use2, split, fsplit, fjoin, done}
use denote.RattleType.{RattleType, RowLaws, Denots}
use denote.Laws.{Typed, Is, Ises, Tells, Spells, Tellss, Lawful, Lawfuls}
use denote.Exit.{yes, Last, left}
use denote.Plain.{UInt, uint_vals, uint_Tells}
use denote.Slice.{ShrSlice, MutSlice, shr_slice_vals, mut_slice_vals, shr_slice_Tells, mut_slice_Tells, shr_slice_Lawful, mut_slice_Lawful}
use Rattle.walks.proofs.Lent.{shorter, shorter_mut}

pub data Param : Type 2 where
  shared : (R : RattleType) → RowLaws R → Param
  area : RattleType → Param
  value : (R : RattleType) (vals : R.Denot → List Val) → Tells R (Is R) vals → ((x : R.Denot) (vs : List Val) → Is R x vs → Typed R.mir vs) → Param

pub number_typed : (w : Width) (n : ℕ) (vs : List Val) → Is (UInt w) n vs → Typed (UInt w).mir vs
number_typed w n vs is = subst (Typed (UInt w).mir) (sym is.0) ((eqb_refl (bytes w), record { fits = is.1 }), tt)

abbrev pub number : Width → Param
number w = value (UInt w) (uint_vals w) (uint_Tells w) (number_typed w)

-- ---- their types
abbrev row : Lft → Param → RattleType
row κ (shared R L) = ShrSlice (named 0) κ R
row κ (area R) = MutSlice (named 0) κ R
row κ (value R vals tl ty) = R

abbrev pub rows : Lft → List Param → List RattleType
rows κ [] = []
rows κ (p ∷ ps) = row κ p ∷ rows κ ps

-- ---- their machine values
abbrev spell : (κ : Lft) (p : Param) → (row κ p).Denot → List Val
spell κ (shared R L) = shr_slice_vals
spell κ (area R) = mut_slice_vals
spell κ (value R vals tl ty) = vals

abbrev pub spells : (κ : Lft) (ps : List Param) → Spells (rows κ ps)
spells κ [] = tt
spells κ (p ∷ ps) = (spell κ p, spells κ ps)

tell : (κ : Lft) (p : Param) → Tells (row κ p) (Is (row κ p)) (spell κ p)
tell κ (shared R L) = shr_slice_Tells (named 0) κ R
tell κ (area R) = mut_slice_Tells (named 0) κ R
tell κ (value R vals tl ty) = tl

pub tells : (κ : Lft) (ps : List Param) → Tellss (rows κ ps) (Ises (rows κ ps)) (spells κ ps)
tells κ [] = tt
tells κ (p ∷ ps) = (tell κ p, tells κ ps)

module _ {M : Type 1} {𝓤 : Ura M} (𝓛 : Logic 𝓤) where
  lawful : (κ : Lft) (p : Param) → Lawful 𝓛 (row κ p)
  lawful κ (shared R L) = shr_slice_Lawful 𝓛 (named 0) κ R
  lawful κ (area R) = mut_slice_Lawful 𝓛 (named 0) κ R
  lawful κ (value R vals tl ty) = record { typed = ty }

  pub lawfuls : (κ : Lft) (ps : List Param) → Lawfuls 𝓛 (rows κ ps)
  lawfuls κ [] = tt
  lawfuls κ (p ∷ ps) = (lawful κ p, lawfuls κ ps)

-- ---- a tuple that begins with their values, or with their machine values, or with what is bound for them at exit
abbrev pub Before : List RattleType → Type 0 → Type 0
Before [] X = X
Before (R ∷ Rs) X = R.Denot × Before Rs X

abbrev pub beside : (Rs : List RattleType) {X : Type 0} → Denots Rs → X → Before Rs X
beside [] a x = x
beside (R ∷ Rs) a x = (a.0, beside Rs a.1 x)

abbrev pub front : (Rs : List RattleType) (X : Type 0) → Before Rs X → Denots Rs
front [] X a = tt
front (R ∷ Rs) X a = (a.0, front Rs X a.1)

abbrev pub past : (Rs : List RattleType) (X : Type 0) → Before Rs X → X
past [] X a = a
past (R ∷ Rs) X a = past Rs X a.1

-- ---- what they own, and what is said of their last values, in front of P
abbrev pub seps : List Fml → Fml → Fml
seps [] P = P
seps (F ∷ Fs) P = fsep F (seps Fs P)

abbrev pub owning : (κ : Lft) (ps : List Param) → Denots (rows κ ps) → List Fml
owning κ [] a = []
owning κ (p ∷ ps) a = (row κ p).own_val a.0 (spell κ p a.0) ∷ owning κ ps a.1

abbrev pub Ends : (Rs : List RattleType) → Denots Rs → Type 0
Ends [] a = Unit {0}
Ends (R ∷ Rs) a = Last (R.exit yes) a.0 × Ends Rs a.1

abbrev pub EndsBefore : (Rs : List RattleType) → Denots Rs → Type 0 → Type 0
EndsBefore [] a X = X
EndsBefore (R ∷ Rs) a X = Last (R.exit yes) a.0 × EndsBefore Rs a.1 X

abbrev pub ends_front : (Rs : List RattleType) (a : Denots Rs) (X : Type 0) → EndsBefore Rs a X → Ends Rs a
ends_front [] a X ws = tt
ends_front (R ∷ Rs) a X ws = (ws.0, ends_front Rs a.1 X ws.1)

abbrev pub ends_past : (Rs : List RattleType) (a : Denots Rs) (X : Type 0) → EndsBefore Rs a X → X
ends_past [] a X ws = ws
ends_past (R ∷ Rs) a X ws = ends_past Rs a.1 X ws.1

abbrev pub ends_beside : (Rs : List RattleType) (a : Denots Rs) {X : Type 0} → Ends Rs a → X → EndsBefore Rs a X
ends_beside [] a ws x = x
ends_beside (R ∷ Rs) a ws x = (ws.0, ends_beside Rs a.1 ws.1 x)

abbrev pub lefts : (Rs : List RattleType) (a : Denots Rs) → Ends Rs a → List Fml
lefts [] a ws = []
lefts (R ∷ Rs) a ws = left (R.exit yes) a.0 ws.0 ∷ lefts Rs a.1 ws.1

module _ {M : Type 1} {𝓤 : Ura M} (𝓛 : Logic 𝓤) where
  apart : (Fs : List Fml) (P : Fml) → ent 𝓤 (sem 𝓛 (seps Fs P)) (sep 𝓤 (sem 𝓛 (seps Fs ftrue)) (sem 𝓛 P))
  apart [] P = emp∗ 𝓤 (sem 𝓛 P)
  apart (F ∷ Fs) P = qed 𝓛 (‵ (fsep F (seps Fs P)) ∷ []) ∵ fsplit ! $ move ! (1 ∷ []) $ use1 𝓛 (‵ (seps Fs ftrue) ⊛ ‵ P) (apart Fs P) $ split ! $ move ! (2 ∷ 0 ∷ []) $ fjoin ! $ done !

  joined : (Fs : List Fml) (P : Fml) → ent 𝓤 (sep 𝓤 (sem 𝓛 (seps Fs ftrue)) (sem 𝓛 P)) (sem 𝓛 (seps Fs P))
  joined [] P = snd∗ 𝓤 (emp 𝓤) (sem 𝓛 P)
  joined (F ∷ Fs) P = qed 𝓛 (‵ (fsep F (seps Fs ftrue)) ∷ ‵ P ∷ []) ∵ fsplit ! $ move ! (1 ∷ 2 ∷ []) $ use2 𝓛 (‵ (seps Fs P)) (joined Fs P) $ move ! (1 ∷ 0 ∷ []) $ fjoin ! $ done !

  module _ (κ κ' : Lft) (sooner : Incl κ' κ) where
    -- the same values, at κ'
    abbrev pub at_row : (p : Param) → (row κ p).Denot → (row κ' p).Denot
    at_row (shared R L) x = x
    at_row (area R) x = x
    at_row (value R vals tl ty) x = x

    abbrev pub at_rows : (ps : List Param) → Denots (rows κ ps) → Denots (rows κ' ps)
    at_rows [] a = tt
    at_rows (p ∷ ps) a = (at_row p a.0, at_rows ps a.1)

    one_shorter : (p : Param) (x : (row κ p).Denot) → ent 𝓤 (sem 𝓛 ((row κ p).own_val x (spell κ p x))) (sem 𝓛 ((row κ' p).own_val (at_row p x) (spell κ' p (at_row p x))))
    one_shorter (shared R L) x = shorter 𝓛 R L κ κ' sooner x (shr_slice_vals x)
    one_shorter (area R) x = shorter_mut 𝓛 R κ κ' sooner x (mut_slice_vals x)
    one_shorter (value R vals tl ty) x = id⊢ 𝓤 _

    pub shorter_all : (ps : List Param) (a : Denots (rows κ ps)) → ent 𝓤 (sem 𝓛 (seps (owning κ ps a) ftrue)) (sem 𝓛 (seps (owning κ' ps (at_rows ps a)) ftrue))
    shorter_all [] a = id⊢ 𝓤 (emp 𝓤)
    shorter_all (p ∷ ps) a =
        qed 𝓛 (‵ (fsep ((row κ p).own_val a.0 (spell κ p a.0)) (seps (owning κ ps a.1) ftrue)) ∷ []) ∵ fsplit ! $
        use1 𝓛 (‵ ((row κ' p).own_val (at_row p a.0) (spell κ' p (at_row p a.0)))) (one_shorter p a.0) $ move ! (1 ∷ []) $
        use1 𝓛 (‵ (seps (owning κ' ps (at_rows ps a.1)) ftrue)) (shorter_all ps a.1) $ move ! (1 ∷ 0 ∷ []) $ fjoin ! $ done !

module _ {M : Type 1} {𝓤 : Ura M} {K : Type 0} (𝓛 : Logic 𝓤) {Γ : List (Item 𝓤)} {G : Goal 𝓤 𝓛.H} where
  pub parts_off : (Fs : List Fml) {P : Fml} → Step K 𝓛 (‵ (seps Fs ftrue) ∷ ‵ P ∷ Γ) G (‵ (seps Fs P) ∷ Γ) G
  parts_off Fs {P} = step (λ s. use1 𝓛 (‵ (seps Fs ftrue) ⊛ ‵ P) (apart 𝓛 Fs P) $ cut ((‵ (seps Fs ftrue) ⊛ ‵ P) ∷ []) (‵ (seps Fs ftrue) ∷ ‵ P ∷ []) Γ (id⊢ 𝓤 _) $ s)

  pub puts_before : (Fs : List Fml) {P : Fml} → Step K 𝓛 (‵ (seps Fs P) ∷ Γ) G (‵ (seps Fs ftrue) ∷ ‵ P ∷ Γ) G
  puts_before Fs {P} = step (λ s. use2 𝓛 (‵ (seps Fs P)) (joined 𝓛 Fs P) $ s)
