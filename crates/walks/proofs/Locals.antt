-- The locals of a function as one entry of a walk's context, its last: so the number of a local is the only position, and
-- that is read off the code.
--     Cell             what is known of a local: it has a value, it has room, or its cell was taken out
--     Locals E cs      the cells of the locals E, and that each dies with the function; cs says what is known of each, and
--                      behind the end of cs all have room
--     begins           a function is entered: its arguments are stored, and the rest has room
--     leaves, leaves_within    it returns what local 0 has, whatever the others have
--     var, vars        a local is read as an operand, and all operands are read that are locals
--     in_local         a local's cell within the entry, for `sub` and `look_in` of the logic's `Types/Part`
--     sets, receives   an assignment to a local; a call's result is stored in one, with the value that it is known to be
--     lends_on         `&*s` or `&mut *s` of a slice in a local: the pointer, and the struct of that and the count
--     takes_out, puts_back     the cell of a local is taken out, to be lent, and put back
-- Where a rule asks for `refl`, it is what the context's last entry and the locals are, which computes.
-- Assumes `Logic`.
use mathlib.Core.Path.{◌≡◌, refl, sym, ap, subst, ◌∙◌}
use Prim.Native.Nat.{ℕ, zero, suc, ◌+◌}
use mathlib.Core.Bool.{Bool, true, false, not}
use mathlib.Core.Option.{some}
use mathlib.Core.List.{List, [], ◌∷◌, ◌++◌}
use lib.Dec.{T}
use lib.ListN.{get_or}
use seplogic.Ra.Ura.{Ura}
use base.Fraction.{full_share}
use mir.Syntax.{Lifetime, Mutability, Ty, w64, ty_ref, ty_enum, ttnil, Opd as Operand, copy, int, int_neg, int_big, float, opd_true, opd_false, opd_unit, ptr_const, size_of, align_of, num_of, fn_addr, vtable, place, Body, seq, assign, Rv as RValue, aggregate, addr_of, field, deref, return, Local, local, Fn}
use mir.Val.{Val, vunit, vptr, vint, vstruct, vcons, vnil, WT, has_ty}
use mir.Fields.{get_v, set_v}
use base.Logic.{SProp, ent, sep, wand, emp, id⊢, via, snd∗, emp∗, wand_i, all_i, guard}
use base.Fml.{Fml, ftrue, fsep, fat, froom, fdies}
use prog.Memory.{field_of}
use prog.Wp.{Env, Calls, Loops, WpFn, alloc, pass, params, release, at_return, returns as returned}
use types.Logic.{Logic, sem}
use types.Kit.{Item, ‵, raw, ◌⊛◌, mean, ⋆, nth, del, put, pull, unpull, fill, push, pop, ++⊢, Post, at_ret, post, Goal, prop, runs, lands, aim, Seq, Step, step, ◌$◌, ◌∵◌, !, qed, by, move, keep, use1, use2, split, join, fsplit, fjoin, frame, each, assume, learn, given, check, rewrite, done}
use types.Run.{Reads, Writes, Opd, Opds, Rv, from, stop, hop, fld, load, addr, no_more, and_then, assigns, land, returns_within, well_typed}
use types.Part.{Part, agg, sub, look_in}
use denote.Slice.{slice_ty, slice_val}
use denote.Steps.{nothing}

pub data Cell : Type 0 where
  away : Cell
  empty : Cell
  has : Val → Cell

-- the type and the place of each local, as `Env` of the logic's `Prog/Wp`
abbrev pub Places : Type 0
Places = List (Ty × ℕ)

-- ---- the cells of a list of locals
abbrev pub first_of : List Cell → Cell
first_of [] = empty
first_of (c ∷ cs) = c

abbrev pub later_of : List Cell → List Cell
later_of [] = []
later_of (c ∷ cs) = cs

abbrev pub set : ℕ → Cell → List Cell → List Cell
set zero c cs = c ∷ later_of cs
set (suc i) c cs = first_of cs ∷ set i c (later_of cs)

abbrev pub having : List Val → List Cell
having [] = []
having (v ∷ vs) = has v ∷ having vs

-- of the local i: its type, its place, its cell. A number that is no local's has no cell
abbrev no_local : Ty × ℕ
no_local = (ty_enum [] ttnil, zero)

abbrev pub type_of : Places → ℕ → Ty
type_of E i = (get_or E i no_local).0

abbrev pub place_of : Places → ℕ → ℕ
place_of E i = (get_or E i no_local).1

abbrev pub cell_of : Places → List Cell → ℕ → Cell
cell_of [] cs i = away
cell_of (e ∷ E) cs zero = first_of cs
cell_of (e ∷ E) cs (suc i) = cell_of E (later_of cs) i

abbrev pub there : Cell → Bool
there away = false
there empty = true
there (has v) = true

abbrev if_there : Cell → Bool → Bool
if_there away b = false
if_there empty b = b
if_there (has v) b = b

abbrev pub all_there : Places → List Cell → Bool
all_there [] cs = true
all_there (e ∷ E) cs = if_there (first_of cs) (all_there E (later_of cs))

both : (c : Cell) (b : Bool) → T (if_there c b) → T (there c) × T b
both away b t = absurd t
both empty b t = (tt, t)
both (has v) b t = (tt, t)

not_away : {v : Val} → away ≡ has v → ⊥
not_away e = subst (λ (c : Cell). T (not (there c))) e tt

-- the local i has a slice, and j and k are to get its pointer at (b, o) and the slice: what i has before and after j got
-- it, what j has then, i's type, that j and k have room, and that what they get is of their types
abbrev lendable : Places → List Cell → (i j k b o n : ℕ) → Cell × Cell × Cell × Ty × Bool × Bool × Bool × Bool
lendable E cs i j k b o n = (
  cell_of E cs i,
  cell_of E (set j (has (vptr b o)) cs) i,
  cell_of E (set j (has (vptr b o)) cs) j,
  type_of E i,
  there (cell_of E cs j),
  there (cell_of E (set j (has (vptr b o)) cs) k),
  has_ty (type_of E j) (vptr b o),
  has_ty (type_of E k) (slice_val (b, o) n),
)

yes : {b : Bool} → b ≡ true → T b
yes e = subst T (sym e) tt

-- what is known of operands that are locals
abbrev value : Cell → Val
value away = vunit
value empty = vunit
value (has v) = v

abbrev if_has : Cell → Bool → Bool
if_has away b = false
if_has empty b = false
if_has (has v) b = b

abbrev read : Places → List Cell → Operand → Cell
read E cs (copy (place i [])) = cell_of E cs i
read E cs (copy (place i (s ∷ st))) = away
read E cs (int w n) = away
read E cs (int_neg w n) = away
read E cs (int_big w n) = away
read E cs (float f n) = away
read E cs opd_true = away
read E cs opd_false = away
read E cs opd_unit = away
read E cs (ptr_const n) = away
read E cs (size_of τ) = away
read E cs (align_of τ) = away
read E cs (num_of w τ) = away
read E cs (fn_addr f s) = away
read E cs (vtable τ s) = away

abbrev pub all_read : Places → List Cell → List Operand → Bool
all_read E cs [] = true
all_read E cs (x ∷ xs) = if_has (read E cs x) (all_read E cs xs)

abbrev pub values : Places → List Cell → List Operand → List Val
values E cs [] = []
values E cs (x ∷ xs) = value (read E cs x) ∷ values E cs xs

has_value : (c : Cell) (b : Bool) → T (if_has c b) → (c ≡ has (value c)) × T b
has_value away b t = absurd t
has_value empty b t = absurd t
has_value (has v) b t = (refl, t)

-- ---- what they are in memory
abbrev cell : Ty → ℕ → Cell → Fml
cell τ l away = ftrue
cell τ l empty = froom τ l zero
cell τ l (has v) = fat full_share τ l zero v

-- of the local i, with c for its cell
abbrev pub its : Places → ℕ → Cell → Fml
its E i c = cell (type_of E i) (place_of E i) c

pub Locals : Places → List Cell → Fml
Locals [] cs = ftrue
Locals (e ∷ E) cs = fsep (fsep (cell e.0 e.1 (first_of cs)) (fdies e.0 e.1)) (Locals E (later_of cs))

same_locals : (E : Places) (cs : List Cell) (i : ℕ) → Locals E (set i (cell_of E cs i) cs) ≡ Locals E cs
unfolding Locals
same_locals [] cs i = refl
same_locals (e ∷ E) cs zero = refl
same_locals (e ∷ E) cs (suc i) = ap (λ (F : Fml). fsep (fsep (cell e.0 e.1 (first_of cs)) (fdies e.0 e.1)) F) (same_locals E (later_of cs) i)

module _ {M : Type 1} {𝓤 : Ura M} (𝓛 : Logic 𝓤) where
  -- the cell of the local i is taken out, and put back with anything in it
  open 𝓛 use {H}

  takes : (E : Places) (cs : List Cell) (i : ℕ) → ent 𝓤 (sem 𝓛 (Locals E cs)) (sep 𝓤 (sem 𝓛 (its E i (cell_of E cs i))) (sem 𝓛 (Locals E (set i away cs))))
  unfolding Locals
  takes [] cs i = emp∗ 𝓤 (emp 𝓤)
  takes (e ∷ E) cs zero = qed 𝓛 (‵ (fsep (fsep (cell e.0 e.1 (first_of cs)) (fdies e.0 e.1)) (Locals E (later_of cs))) ∷ []) ∵ fsplit ! $ fsplit ! $ frame ! $ nothing ! $ fjoin ! $
      fjoin ! $ done !
  takes (e ∷ E) cs (suc i) =
      qed 𝓛 (‵ (fsep (fsep (cell e.0 e.1 (first_of cs)) (fdies e.0 e.1)) (Locals E (later_of cs))) ∷ []) ∵ fsplit ! $ move ! (1 ∷ []) $
      use1 𝓛 (‵ (its E i (cell_of E (later_of cs) i)) ⊛ ‵ (Locals E (set i away (later_of cs)))) (takes E (later_of cs) i) $ split ! $ frame ! $ move ! (1 ∷ 0 ∷ []) $ fjoin ! $ done !

  puts : (E : Places) (cs : List Cell) (i : ℕ) (c : Cell) → ent 𝓤 (sep 𝓤 (sem 𝓛 (its E i c)) (sem 𝓛 (Locals E (set i away cs)))) (sem 𝓛 (Locals E (set i c cs)))
  unfolding Locals
  puts [] cs i c = snd∗ 𝓤 (sem 𝓛 (cell (ty_enum [] ttnil) zero c)) (emp 𝓤)
  puts (e ∷ E) cs zero c = qed 𝓛 (‵ (cell e.0 e.1 c) ∷ ‵ (fsep (fsep ftrue (fdies e.0 e.1)) (Locals E (later_of cs))) ∷ []) ∵ move ! (1 ∷ []) $ fsplit ! $ fsplit ! $ move ! (3 ∷ 1 ∷ []) $
      fjoin ! $ move ! (0 ∷ 2 ∷ []) $ fjoin ! $ keep ! (0 ∷ []) $ done !
  puts (e ∷ E) cs (suc i) c =
      qed 𝓛 (‵ (its E i c) ∷ ‵ (fsep (fsep (cell e.0 e.1 (first_of cs)) (fdies e.0 e.1)) (Locals E (set i away (later_of cs)))) ∷ []) ∵ move ! (1 ∷ []) $ fsplit ! $ move ! (2 ∷ 1 ∷ []) $
      use2 𝓛 (‵ (Locals E (set i c (later_of cs)))) (puts E (later_of cs) i c) $ move ! (1 ∷ 0 ∷ []) $ fjoin ! $ done !

  -- what was not taken out is room, whatever it has
  is_room : (τ : Ty) (l : ℕ) (c : Cell) → T (there c) → ent 𝓤 (sem 𝓛 (cell τ l c)) (H.room τ l zero)
  is_room τ l away t = absurd t
  is_room τ l empty t = id⊢ 𝓤 _
  is_room τ l (has v) t = 𝓛.laws.at_room τ l zero v

  gives_room : (E : Places) (cs : List Cell) (i : ℕ) → T (there (cell_of E cs i)) → ent 𝓤 (sem 𝓛 (Locals E cs)) (sep 𝓤 (sem 𝓛 (its E i empty)) (sem 𝓛 (Locals E (set i away cs))))
  gives_room E cs i t =
      qed 𝓛 (‵ (Locals E cs) ∷ []) ∵ use1 𝓛 (‵ (its E i (cell_of E cs i)) ⊛ ‵ (Locals E (set i away cs))) (takes E cs i) $ split ! $
      use1 𝓛 (‵ (its E i empty)) (is_room (type_of E i) (place_of E i) (cell_of E cs i) t) $ done !

  gives_cell : (E : Places) (cs : List Cell) (i : ℕ) {v : Val} → cell_of E cs i ≡ has v → ent 𝓤 (sem 𝓛 (Locals E cs)) (sep 𝓤 (sem 𝓛 (its E i (has v))) (sem 𝓛 (Locals E (set i away cs))))
  gives_cell E cs i e = subst (λ (c : Cell). ent 𝓤 (sem 𝓛 (Locals E cs)) (sep 𝓤 (sem 𝓛 (its E i c)) (sem 𝓛 (Locals E (set i away cs))))) e (takes E cs i)

  typed_of : (E : Places) (cs : List Cell) (i : ℕ) {v : Val} → cell_of E cs i ≡ has v → ent 𝓤 (sem 𝓛 (Locals E cs)) (guard 𝓤 (T (has_ty (type_of E i) v) × WT v) (sem 𝓛 (Locals E cs)))
  typed_of E cs i {v} e =
      qed 𝓛 (‵ (Locals E cs) ∷ []) ∵ use1 𝓛 (‵ (its E i (has v)) ⊛ ‵ (Locals E (set i away cs))) (gives_cell E cs i e) $ split ! $ well_typed ! (λ wt. check ! wt $
      use2 𝓛 (‵ (Locals E (set i (has v) cs))) (puts E cs i (has v)) $ rewrite ! 0 (λ (c : Cell). ‵ (Locals E (set i c cs))) (sym e) refl $
      use1 𝓛 (‵ (Locals E cs)) (subst (λ (F : Fml). ent 𝓤 (sem 𝓛 (Locals E (set i (cell_of E cs i) cs))) (sem 𝓛 F)) (same_locals E cs i) (id⊢ 𝓤 _)) $ done !)

  -- all are freed
  all_freed : (E : Places) (cs : List Cell) → T (all_there E cs) → (X P : SProp 𝓤) → ent 𝓤 X P → ent 𝓤 (sep 𝓤 (sem 𝓛 (Locals E cs)) X) (release 𝓤 H E P)
  unfolding Locals
  all_freed [] cs t X P h = via 𝓤 X (snd∗ 𝓤 (emp 𝓤) X) h
  all_freed (e ∷ E) cs t X P h =
      qed 𝓛 (‵ (fsep (fsep (cell e.0 e.1 (first_of cs)) (fdies e.0 e.1)) (Locals E (later_of cs))) ∷ raw X ∷ []) ∵ fsplit ! $ fsplit ! $
      use1 𝓛 (‵ (froom e.0 e.1 zero)) (is_room e.0 e.1 (first_of cs) (both (first_of cs) (all_there E (later_of cs)) t).0) $ join ! $ frame ! $
      by ! (all_freed E (later_of cs) (both (first_of cs) (all_there E (later_of cs)) t).1 X P h)

-- ---- a function is entered. Its locals are at l 0, l 1, …
abbrev pub locals_at : List Local → (ℕ → ℕ) → Places
locals_at [] l = []
locals_at (local τ h ∷ ls) l = (τ, l zero) ∷ locals_at ls (λ i. l (suc i))

abbrev in_front : ℕ → (ℕ → ℕ) → ℕ → ℕ
in_front b l zero = b
in_front b l (suc i) = l i

-- the arguments are of the types of the locals
abbrev pub Fitting : List Local → List Val → Type 0
Fitting ls [] = Unit {0}
Fitting [] (v ∷ vs) = ⊥
Fitting (local τ h ∷ ls) (v ∷ vs) = (T (has_ty τ v) × WT v) × Fitting ls vs

abbrev pub none : List Local → Bool
none [] = true
none (r ∷ ls) = false

abbrev pub behind_result : List Local → List Local
behind_result [] = []
behind_result (r ∷ ls) = ls

module _ {M : Type 1} {𝓤 : Ura M} (𝓛 : Logic 𝓤) where
  open 𝓛 use {H}

  all_made : (ls : List Local) (P : SProp 𝓤) (K : Places → SProp 𝓤) → ((l : ℕ → ℕ) → ent 𝓤 (sep 𝓤 (sem 𝓛 (Locals (locals_at ls l) [])) P) (K (locals_at ls l))) → ent 𝓤 P (alloc 𝓤 H ls K)
  unfolding Locals
  all_made [] P K k = via 𝓤 (sep 𝓤 (emp 𝓤) P) (emp∗ 𝓤 P) (k (λ i. zero))
  all_made (local τ h ∷ ls) P K k = all_i 𝓤 (λ (b : ℕ). wand 𝓤 (sep 𝓤 (H.room τ b zero) (H.dies τ b)) (alloc 𝓤 H ls (λ E. K ((τ, b) ∷ E)))) (λ b.
      wand_i 𝓤 P (sep 𝓤 (H.room τ b zero) (H.dies τ b)) (alloc 𝓤 H ls (λ E. K ((τ, b) ∷ E)))
      (all_made ls (sep 𝓤 P (sep 𝓤 (H.room τ b zero) (H.dies τ b))) (λ E. K ((τ, b) ∷ E)) (λ l.
      qed 𝓛 (‵ (Locals (locals_at ls l) []) ∷ (raw P ⊛ ‵ (froom τ b zero) ⊛ ‵ (fdies τ b)) ∷ []) ∵ move ! (1 ∷ []) $ split ! $ move ! (1 ∷ []) $ split ! $ fjoin ! $ move ! (0 ∷ 2 ∷ []) $ fjoin ! $
      by ! (k (in_front b l)))))

  all_passed : (ls : List Local) (l : ℕ → ℕ) (vs : List Val) → Fitting ls vs → (X P : SProp 𝓤) → ent 𝓤 (sep 𝓤 (sem 𝓛 (Locals (locals_at ls l) (having vs))) X) P
      → ent 𝓤 (sep 𝓤 (sem 𝓛 (Locals (locals_at ls l) [])) X) (pass 𝓤 H (locals_at ls l) vs P)
  unfolding Locals
  all_passed ls l [] fits X P h = h
  all_passed [] l (v ∷ vs) fits X P h = absurd fits
  all_passed (local τ h ∷ ls) l (v ∷ vs) fits X P k =
      qed 𝓛 (‵ (fsep (fsep (froom τ (l zero) zero) (fdies τ (l zero))) (Locals (locals_at ls (λ i. l (suc i))) [])) ∷ raw X ∷ []) ∵ check ! fits.0 $ fsplit ! $ fsplit ! $ frame ! $
      assume ! (‵ (fat full_share τ (l zero) zero v)) $
      -- [the cell; that it dies; the other locals; X]
      move ! (2 ∷ 0 ∷ 1 ∷ 3 ∷ []) $ by ! (all_passed ls (λ i. l (suc i)) vs fits.1 (sep 𝓤 (H.at full_share τ (l zero) zero v) (sep 𝓤 (H.dies τ (l zero)) X)) P (
      qed 𝓛 (‵ (Locals (locals_at ls (λ i. l (suc i))) (having vs)) ∷ ‵ (fat full_share τ (l zero) zero v) ∷ ‵ (fdies τ (l zero)) ∷ raw X ∷ []) ∵ move ! (1 ∷ 2 ∷ []) $ fjoin ! $ fjoin ! $ by ! k))

  entered : (ls : List Local) (vs : List Val) → Fitting (behind_result ls) vs → (X : SProp 𝓤) (K : Places → SProp 𝓤)
      → ((l : ℕ → ℕ) → ent 𝓤 (sep 𝓤 X (sem 𝓛 (Locals (locals_at ls l) (empty ∷ having vs)))) (K (locals_at ls l))) → T (not (none ls)) → ent 𝓤 X (alloc 𝓤 H ls (λ E. params 𝓤 H E vs (K E)))
  unfolding Locals
  entered [] vs fits X K k z = absurd z
  entered (local τ h ∷ ls) vs fits X K k z = all_made (local τ h ∷ ls) X (λ E. params 𝓤 H E vs (K E)) (λ l.
      qed 𝓛 (‵ (fsep (fsep (froom τ (l zero) zero) (fdies τ (l zero))) (Locals (locals_at ls (λ i. l (suc i))) [])) ∷ raw X ∷ []) ∵ fsplit ! $ move ! (1 ∷ 0 ∷ []) $ by ! (
      all_passed ls (λ i. l (suc i)) vs fits (sep 𝓤 (sep 𝓤 (H.room τ (l zero) zero) (H.dies τ (l zero))) X) (K (locals_at (local τ h ∷ ls) l)) (
      qed 𝓛 (‵ (Locals (locals_at ls (λ i. l (suc i))) (having vs)) ∷ (‵ (fsep (froom τ (l zero) zero) (fdies τ (l zero))) ⊛ raw X) ∷ []) ∵ move ! (1 ∷ []) $ split ! $ move ! (0 ∷ 2 ∷ []) $ fjoin ! $
      move ! (1 ∷ 0 ∷ []) $ by ! (k l))))

-- ---- the rules
module _ {M : Type 1} {𝓤 : Ura M} where
  abbrev end_from : Item 𝓤 → List (Item 𝓤) → ℕ
  end_from i [] = zero
  end_from i (j ∷ Γ) = suc (end_from j Γ)

  abbrev pub end : List (Item 𝓤) → ℕ
  end [] = zero
  end (i ∷ Γ) = end_from i Γ

module _ {M : Type 1} {𝓤 : Ura M} {𝓛 : Logic 𝓤} {K : Type 0} where
  open 𝓛 use {H}

  pub begins : K → {Γ : List (Item 𝓤)} (C : Calls 𝓤 H) (Λ : Loops 𝓤 H) (f : Fn) (vs : List Val) (Kf : Val → SProp 𝓤) → T (not (none f.locals)) → Fitting (behind_result f.locals) vs
      → ((l : ℕ → ℕ) → Seq K 𝓛 (Γ ++ (‵ (Locals (locals_at f.locals l) (empty ∷ having vs)) ∷ [])) (runs C Λ (locals_at f.locals l) f.body (at_ret (locals_at f.locals l) Kf)))
      → Seq K 𝓛 Γ (prop (WpFn 𝓤 H C Λ f vs Kf))
  unfolding WpFn
  begins t {Γ} C Λ f vs Kf z fits k = record {
    prf = entered 𝓛 f.locals vs fits (⋆ 𝓛 Γ) (λ E. aim 𝓤 H (runs C Λ E f.body (at_ret E Kf)))
        (λ l. via 𝓤 (⋆ 𝓛 (Γ ++ (‵ (Locals (locals_at f.locals l) (empty ∷ having vs)) ∷ []))) (++⊢ 𝓛 Γ (‵ (Locals (locals_at f.locals l) (empty ∷ having vs)) ∷ [])) (k l).prf) z;
  }

  pub in_local : K → (E : Places) (cs : List Cell) (i : ℕ) {v : Val} → cell_of E cs i ≡ has v → Part K 𝓛 (‵ (Locals E cs)) full_share (type_of E i) (place_of E i) zero v (λ u. ‵ (Locals E (set i (has u) cs)))
  in_local t E cs i {v} e = record {
    out = qed 𝓛 (‵ (Locals E cs) ∷ []) ∵ use1 𝓛 (‵ (its E i (has v)) ⊛ ‵ (Locals E (set i away cs))) (gives_cell 𝓛 E cs i e) $ split ! $ frame ! $
        each ! (λ (u : Val). wand 𝓤 (H.at full_share (type_of E i) (place_of E i) zero u) (sem 𝓛 (Locals E (set i (has u) cs)))) (λ u. assume {P = sem 𝓛 (Locals E (set i (has u) cs))} ! (‵ (its E i (has u))) $ by ! (puts 𝓛 E cs i (has u)));
    same = subst (λ (c : Cell). ◌≡◌ {A = Item 𝓤} (‵ (Locals E (set i c cs))) (‵ (Locals E cs))) e (let to : Fml → Item 𝓤 = λ F. ‵ F in ap to (same_locals E cs i));
  }

module _ {M : Type 1} {𝓤 : Ura M} (𝓛 : Logic 𝓤) (Γ : List (Item 𝓤)) (E : Places) where
  -- the last entry is the locals E, of which cs is known; the context with cs known instead; and without them
  abbrev pub Last : List Cell → Type 2
  Last cs = nth 𝓛 (end Γ) Γ ≡ ‵ (Locals E cs)

  abbrev pub knowing : List Cell → List (Item 𝓤)
  knowing cs = put 𝓛 (end Γ) (‵ (Locals E cs)) Γ

  out_of : (cs : List Cell) → Last cs → ent 𝓤 (⋆ 𝓛 Γ) (sep 𝓤 (sem 𝓛 (Locals E cs)) (⋆ 𝓛 (del 𝓛 (end Γ) Γ)))
  out_of cs e = subst (λ (j : Item 𝓤). ent 𝓤 (⋆ 𝓛 Γ) (sep 𝓤 (mean 𝓛 j) (⋆ 𝓛 (del 𝓛 (end Γ) Γ)))) e (pull 𝓛 (end Γ) Γ)

  back_to : (cs : List Cell) → Last cs → ent 𝓤 (sep 𝓤 (sem 𝓛 (Locals E cs)) (⋆ 𝓛 (del 𝓛 (end Γ) Γ))) (⋆ 𝓛 Γ)
  back_to cs e = subst (λ (j : Item 𝓤). ent 𝓤 (sep 𝓤 (mean 𝓛 j) (⋆ 𝓛 (del 𝓛 (end Γ) Γ))) (⋆ 𝓛 Γ)) e (unpull 𝓛 (end Γ) Γ)

module _ {M : Type 1} {𝓤 : Ura M} {𝓛 : Logic 𝓤} {K : Type 0} {Γ : List (Item 𝓤)} where
  open 𝓛 use {H}

  reads : K → (E : Places) (cs : List Cell) (i : ℕ) {v : Val} → Last 𝓛 Γ E cs → cell_of E cs i ≡ has v → Reads K 𝓛 Γ (type_of E i) (place_of E i) zero v
  reads t E cs i {v} l e = look_in t (end Γ) (subst (λ (j : Item 𝓤). Part K 𝓛 j full_share (type_of E i) (place_of E i) zero v (λ u. ‵ (Locals E (set i (has u) cs)))) (sym l) (in_local t E cs i e))

  writes : K → (E : Places) (cs : List Cell) (i : ℕ) {v : Val} → Last 𝓛 Γ E cs → T (there (cell_of E cs i)) → T (has_ty (type_of E i) v) × WT v
      → Writes K 𝓛 Γ (type_of E i) (place_of E i) zero v (knowing 𝓛 Γ E (set i (has v) cs))
  writes t E cs i {v} l z wt = record {
    go = λ P h. via 𝓤 (sep 𝓤 (sem 𝓛 (Locals E cs)) (⋆ 𝓛 (del 𝓛 (end Γ) Γ))) (out_of 𝓛 Γ E cs l) (
        qed 𝓛 (‵ (Locals E cs) ∷ raw (⋆ 𝓛 (del 𝓛 (end Γ) Γ)) ∷ []) ∵ check ! wt $ use1 𝓛 (‵ (its E i empty) ⊛ ‵ (Locals E (set i away cs))) (gives_room 𝓛 E cs i z) $ split ! $ frame ! $
        assume ! (‵ (its E i (has v))) $ use2 𝓛 (‵ (Locals E (set i (has v) cs))) (puts 𝓛 E cs i (has v)) $
        by ! (via 𝓤 (⋆ 𝓛 (knowing 𝓛 Γ E (set i (has v) cs))) (fill 𝓛 (end Γ) (‵ (Locals E (set i (has v) cs))) Γ) h));
  }

  -- a field of a slice that a local has: its pointer, its count
  slice_field : K → (E : Places) (cs : List Cell) (i f : ℕ) {ℓ : Lifetime} {m : Mutability} {τ σ : Ty} {d b o n : ℕ} → Last 𝓛 Γ E cs → cell_of E cs i ≡ has (slice_val (b, o) n)
      → type_of E i ≡ slice_ty (ty_ref ℓ m τ)
      → field_of (slice_ty (ty_ref ℓ m τ)) f ≡ some (σ, d) → Reads K 𝓛 Γ σ (place_of E i) (zero + d) (get_v (vcons (vptr b o) (vcons (vint w64 n) vnil)) f)
  slice_field t E cs i f {ℓ} {m} {τ} {σ} {d} {b} {o} {n} l e ty at = look_in t (end Γ) (subst (λ (j : Item 𝓤). Part K 𝓛 j full_share σ (place_of E i) (zero + d) (get_v (vcons (vptr b o) (vcons (vint w64 n) vnil)) f) (λ u. ‵ (Locals E (set i (has (vstruct (set_v (vcons (vptr b o) (vcons (vint w64 n) vnil)) f u))) cs)))) (sym l)
      (sub t f at (subst (λ (ρ : Ty). Part K 𝓛 (‵ (Locals E cs)) full_share ρ (place_of E i) zero (slice_val (b, o) n) (λ u. ‵ (Locals E (set i (has u) cs)))) ty (in_local t E cs i e))))

  -- what a local has is a value of its type
  knows : K → (E : Places) (cs : List Cell) (i : ℕ) {v : Val} {G : Goal 𝓤 H} → Last 𝓛 Γ E cs → cell_of E cs i ≡ has v → (T (has_ty (type_of E i) v) × WT v → Seq K 𝓛 Γ G) → Seq K 𝓛 Γ G
  knows t E cs i {v} {G} l e k = record {
    prf = via 𝓤 (sep 𝓤 (sem 𝓛 (Locals E cs)) (⋆ 𝓛 (del 𝓛 (end Γ) Γ))) (out_of 𝓛 Γ E cs l) (
        qed 𝓛 (‵ (Locals E cs) ∷ raw (⋆ 𝓛 (del 𝓛 (end Γ) Γ)) ∷ []) ∵ use1 𝓛 (given (T (has_ty (type_of E i) v) × WT v) (‵ (Locals E cs))) (typed_of 𝓛 E cs i e) $
        learn ! (λ wt. by ! (via 𝓤 (⋆ 𝓛 Γ) (back_to 𝓛 Γ E cs l) (k wt).prf)));
  }

module _ {M : Type 1} {𝓤 : Ura M} {𝓛 : Logic 𝓤} {K : Type 0} {Γ : List (Item 𝓤)} {E : Env 𝓤 𝓛.H} where
  -- ---- operands
  open 𝓛 use {H}

  pub var : K → (cs : List Cell) {i : ℕ} {v : Val} → Last 𝓛 Γ E cs → cell_of E cs i ≡ has v → Opd K 𝓛 Γ E (copy (place i [])) v
  var t cs {i} l e = load t (from t (stop t)) (reads t E cs i l e)

  one_read : K → (cs : List Cell) (x : Operand) {v : Val} → Last 𝓛 Γ E cs → read E cs x ≡ has v → Opd K 𝓛 Γ E x v
  one_read t cs (copy (place i [])) l e = var t cs l e
  one_read t cs (copy (place i (s ∷ st))) l e = absurd (not_away e)
  one_read t cs (int w n) l e = absurd (not_away e)
  one_read t cs (int_neg w n) l e = absurd (not_away e)
  one_read t cs (int_big w n) l e = absurd (not_away e)
  one_read t cs (float f n) l e = absurd (not_away e)
  one_read t cs opd_true l e = absurd (not_away e)
  one_read t cs opd_false l e = absurd (not_away e)
  one_read t cs opd_unit l e = absurd (not_away e)
  one_read t cs (ptr_const n) l e = absurd (not_away e)
  one_read t cs (size_of τ) l e = absurd (not_away e)
  one_read t cs (align_of τ) l e = absurd (not_away e)
  one_read t cs (num_of w τ) l e = absurd (not_away e)
  one_read t cs (fn_addr f s) l e = absurd (not_away e)
  one_read t cs (vtable τ s) l e = absurd (not_away e)

  each_read : K → (cs : List Cell) (xs : List Operand) → Last 𝓛 Γ E cs → T (all_read E cs xs) → Opds K 𝓛 Γ E xs (values E cs xs)
  each_read t cs [] l z = no_more t
  each_read t cs (x ∷ xs) l z = and_then t (one_read t cs x l (has_value (read E cs x) (all_read E cs xs) z).0) (each_read t cs xs l (has_value (read E cs x) (all_read E cs xs) z).1)

  pub vars : K → (cs : List Cell) {xs : List Operand} {vs : List Val} → Last 𝓛 Γ E cs → T (all_read E cs xs) → values E cs xs ≡ vs → Opds K 𝓛 Γ E xs vs
  vars t cs {xs} l z e = subst (Opds K 𝓛 Γ E xs) e (each_read t cs xs l z)

  module _ {C : Calls 𝓤 H} {Λ : Loops 𝓤 H} where
    -- ---- statements
    module _ {q : Post 𝓤 H} {rest : Body} where
      pub sets : K → (cs : List Cell) {i : ℕ} {rv : RValue} {v : Val} → Last 𝓛 Γ E cs → T (there (cell_of E cs i)) → Rv K 𝓛 Γ E rv v → T (has_ty (type_of E i) v) × WT v
          → Step K 𝓛 (knowing 𝓛 Γ E (set i (has v) cs)) (runs C Λ E rest q) Γ (runs C Λ E (seq (assign (place i []) rv) rest) q)
      sets t cs {i} l z r wt = assigns t r (from t (stop t)) (writes t E cs i l z wt)

      pub receives : K → (cs : List Cell) {i : ℕ} {u v : Val} → Last 𝓛 Γ E cs → T (there (cell_of E cs i)) → u ≡ v → T (has_ty (type_of E i) v) × WT v
          → Step K 𝓛 (knowing 𝓛 Γ E (set i (has v) cs)) (runs C Λ E rest q) Γ (lands C Λ E (place i []) u rest q)
      receives t cs {i} l z e wt = step (λ s. subst (λ (w : Val). Seq K 𝓛 Γ (lands C Λ E (place i []) w rest q)) (sym e) (land t (from t (stop t)) (writes t E cs i l z wt) $ s))

      -- the local i has the slice at (b, o) of n elements: j gets the pointer, and k the slice
      pub lends_on : K → (cs : List Cell) {i j k : ℕ} {ℓ : Lifetime} {m : Mutability} {τ τ' : Ty} {b o n : ℕ} → Last 𝓛 Γ E cs
          → Last 𝓛 (knowing 𝓛 Γ E (set j (has (vptr b o)) cs)) E (set j (has (vptr b o)) cs)
          → lendable E cs i j k b o n ≡ (has (slice_val (b, o) n), has (slice_val (b, o) n), has (vptr b o), slice_ty (ty_ref ℓ m τ), true, true, true, true)
          → Step K 𝓛 (knowing 𝓛 (knowing 𝓛 Γ E (set j (has (vptr b o)) cs)) E (set k (has (slice_val (b, o) n)) (set j (has (vptr b o)) cs))) (runs C Λ E rest q)
          Γ (runs C Λ E (seq (assign (place j []) (addr_of (place i (field 0 ∷ deref τ' ∷ [])))) (seq (assign (place k []) (aggregate (copy (place j []) ∷ copy (place i (field 1 ∷ [])) ∷ []))) rest)) q)
      lends_on t cs {i} {j} {k} {ℓ} {m} {τ} {τ'} {b} {o} {n} l l' e = step (λ s. knows t E cs i l (ap (λ x. x.0) e) (λ wt.
          assigns t (addr t (from t (fld t (ap (λ x. field_of x.3 0) e) (hop t (slice_field t E cs i 0 l (ap (λ x. x.0) e) (ap (λ x. x.3) e) refl) (stop t))))) (from t (stop t)) (writes t E cs j l (yes (ap (λ x. x.4) e)) (yes (ap (λ x. x.6) e), tt)) $
          assigns t (agg t (and_then t (load t (from t (stop t)) (reads t E (set j (has (vptr b o)) cs) j l' (ap (λ x. x.2) e)))
          (and_then t (load t (from t (fld t (ap (λ x. field_of x.3 1) e) (stop t))) (slice_field t E (set j (has (vptr b o)) cs) i 1 l' (ap (λ x. x.1) e) (ap (λ x. x.3) e) refl)) (no_more t))))
          (from t (stop t)) (writes t E (set j (has (vptr b o)) cs) k l' (yes (ap (λ x. x.5) e)) (yes (ap (λ x. x.7) e), wt.1)) $ s))

    -- ---- the end
    pub leaves_within : K → (cs : List Cell) (Kf : Val → SProp 𝓤) {q : Post 𝓤 H} {r : Val} → Last 𝓛 Γ E cs → T (all_there E cs) → post 𝓤 H q returned ≡ at_return 𝓤 H E Kf returned
        → cell_of E cs zero ≡ has r
        → Step K 𝓛 (del 𝓛 (end Γ) Γ) (prop (Kf r)) Γ (runs C Λ E return q)
    leaves_within t cs Kf {q} {r} l z to e = step (λ s. returns_within t Kf to (reads t E cs zero l e) $ record {
      prf = via 𝓤 (sep 𝓤 (sem 𝓛 (Locals E cs)) (⋆ 𝓛 (del 𝓛 (end Γ) Γ))) (out_of 𝓛 Γ E cs l) (all_freed 𝓛 E cs z (⋆ 𝓛 (del 𝓛 (end Γ) Γ)) (Kf r) s.prf);
    })

    pub leaves : K → (cs : List Cell) {Kf : Val → SProp 𝓤} {r : Val} → Last 𝓛 Γ E cs → T (all_there E cs) → cell_of E cs zero ≡ has r
        → Step K 𝓛 (del 𝓛 (end Γ) Γ) (prop (Kf r)) Γ (runs C Λ E return (at_ret E Kf))
    leaves t cs {Kf} l z e = leaves_within t cs Kf l z refl e

module _ {M : Type 1} {𝓤 : Ura M} {𝓛 : Logic 𝓤} {K : Type 0} {Γ : List (Item 𝓤)} {G : Goal 𝓤 𝓛.H} where
  open 𝓛 use {H}

  pub takes_out : K → (E : Places) (cs : List Cell) (i : ℕ) {v : Val} → Last 𝓛 Γ E cs → cell_of E cs i ≡ has v
      → Step K 𝓛 (‵ (its E i (has v)) ∷ knowing 𝓛 Γ E (set i away cs)) G Γ G
  takes_out t E cs i {v} l e = step (λ s. record {
    prf = via 𝓤 (sep 𝓤 (sem 𝓛 (Locals E cs)) (⋆ 𝓛 (del 𝓛 (end Γ) Γ))) (out_of 𝓛 Γ E cs l) (
        qed 𝓛 (‵ (Locals E cs) ∷ raw (⋆ 𝓛 (del 𝓛 (end Γ) Γ)) ∷ []) ∵ use1 𝓛 (‵ (its E i (has v)) ⊛ ‵ (Locals E (set i away cs))) (gives_cell 𝓛 E cs i e) $ split ! $ move ! (1 ∷ 2 ∷ []) $
        use2 𝓛 (raw (⋆ 𝓛 (knowing 𝓛 Γ E (set i away cs)))) (fill 𝓛 (end Γ) (‵ (Locals E (set i away cs))) Γ) $ move ! (1 ∷ 0 ∷ []) $
        by ! (via 𝓤 (⋆ 𝓛 (‵ (its E i (has v)) ∷ knowing 𝓛 Γ E (set i away cs))) (push 𝓛 (‵ (its E i (has v))) (knowing 𝓛 Γ E (set i away cs))) s.prf));
  })

  pub puts_back : K → (E : Places) (cs : List Cell) (i : ℕ) {τ : Ty} {b : ℕ} {v : Val} → Last 𝓛 Γ E cs → ◌≡◌ {A = Cell × Ty × ℕ} (cell_of E cs i, type_of E i, place_of E i) (away, τ, b)
      → Step K 𝓛 (knowing 𝓛 Γ E (set i (has v) cs)) G (‵ (fat full_share τ b zero v) ∷ Γ) G
  puts_back t E cs i {τ} {b} {v} l e = step (λ s. record {
    prf = via 𝓤 (sep 𝓤 (H.at full_share τ b zero v) (⋆ 𝓛 Γ)) (pop 𝓛 (‵ (fat full_share τ b zero v)) Γ) (
        qed 𝓛 (‵ (fat full_share τ b zero v) ∷ raw (⋆ 𝓛 Γ) ∷ []) ∵ move ! (1 ∷ []) $ use1 𝓛 (‵ (Locals E cs) ⊛ raw (⋆ 𝓛 (del 𝓛 (end Γ) Γ))) (out_of 𝓛 Γ E cs l) $ split ! $
        use1 𝓛 (‵ (Locals E (set i away cs))) (subst (λ (F : Fml). ent 𝓤 (sem 𝓛 (Locals E cs)) (sem 𝓛 F)) (sym (same_locals E cs i) ∙ ap (λ x. Locals E (set i x.0 cs)) e) (id⊢ 𝓤 _)) $
        move ! (2 ∷ 0 ∷ []) $ use2 𝓛 (‵ (Locals E (set i (has v) cs))) (subst (λ (x : Ty × ℕ). ent 𝓤 (sep 𝓤 (H.at full_share x.0 x.1 zero v) (sem 𝓛 (Locals E (set i away cs)))) (sem 𝓛 (Locals E (set i (has v) cs)))) (ap (λ x. (x.1, x.2)) e) (puts 𝓛 E cs i (has v))) $
        by ! (via 𝓤 (⋆ 𝓛 (knowing 𝓛 Γ E (set i (has v) cs))) (fill 𝓛 (end Γ) (‵ (Locals E (set i (has v) cs))) Γ) s.prf));
  })
