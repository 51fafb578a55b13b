-- Parity: an entry more turns it if it is 1; and at two entries it is "exactly one".
-- Assumes nothing.
use Prim.Native.Nat.{ℕ, suc, ◌%◌}
use mathlib.Core.Path.{◌≡◌, refl, ap, ◌∙◌}
use mathlib.Core.Logic.{inl, inr}
use mathlib.Core.Bool.{Bool, true, false, not, beq}
use mathlib.Core.List.{List, [], ◌∷◌, ◌++◌}
use native.Mathlib.Omega.{arith}
use lib.Dec.{eqb}
use Rattle.method.specs.declared.Kind.TheVariants.{Xor, Xnor}
use Rattle.method.specs.Kinds.{ones, odd, gate_fn}
use Rattle.method.specs.Parity.{TwoEntries}
use Rattle.method.proofs.Bits.{low_bit}

odd_suc : (n : ℕ) → odd (suc n) ≡ not (odd n)
odd_suc n =
    elim (low_bit n) [
      | inl p ↦ rw (p, let q : suc n % 2 ≡ 1 = omega arith in q)
      | inr p ↦ rw (p, let q : suc n % 2 ≡ 0 = omega arith in q)
    ]

not_differs : (a b : Bool) → not (not (beq a b)) ≡ not (beq (not a) b)
not_differs true true = refl
not_differs true false = refl
not_differs false true = refl
not_differs false false = refl

pub odd_one : (b : Bool) → odd (ones (b ∷ [])) ≡ b
odd_one true = refl
odd_one false = refl

pub odd_snoc : (bs : List Bool) (b : Bool) → odd (ones (bs ++ (b ∷ []))) ≡ not (beq (odd (ones bs)) b)
odd_snoc [] true = refl
odd_snoc [] false = refl
odd_snoc (true ∷ bs) b = odd_suc (ones (bs ++ (b ∷ []))) ∙ ap not (odd_snoc bs b) ∙ rw (odd_suc (ones bs)) (not_differs (odd (ones bs)) b)
odd_snoc (false ∷ bs) b = odd_snoc bs b

two_xor : (a b : Bool) → gate_fn Xor (a ∷ b ∷ []) ≡ eqb (ones (a ∷ b ∷ [])) 1
unfolding gate_fn
two_xor true true = refl
two_xor true false = refl
two_xor false true = refl
two_xor false false = refl

two_xnor : (a b : Bool) → gate_fn Xnor (a ∷ b ∷ []) ≡ not (eqb (ones (a ∷ b ∷ [])) 1)
unfolding gate_fn
two_xnor a b = ap not (two_xor a b)

pub two_entries : TwoEntries
two_entries = record { xor = two_xor; xnor = two_xnor }
