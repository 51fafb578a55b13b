-- The kind with a number.
-- Assumes nothing.
use Prim.Native.Nat.{ℕ, ◌<◌, ◌≤◌}
use mathlib.Core.Path.{◌≡◌, refl}
use lib.ListN.{length, get_or-eq_default}
use mathlib.Core.List.{[], ◌∷◌}
use native.Mathlib.Omega.{arith}
use mathlib.Core.Path.{sym}
use Rattle.method.specs.declared.Kind.{Kind}
use Rattle.method.specs.declared.Kind.TheVariants.{Buf, Not, And, Nand, Or, Nor, Xor, Xnor}
use Rattle.std.specs.Prelude.{Result, Ok, Err}
use Rattle.std.specs.Result.{result_unwrap_or}
use Rattle.method.specs.declared.NoKind.{NoKind}
use lib.Dec.{eqb}
use mathlib.Core.Logic.{◌⊎◌, inl, inr}
use mathlib.Core.Path.{ap}
use Rattle.lists.specs.Ladder.{between}
use Rattle.method.specs.Kinds.{kind_number, Numbered, takes, most_fanins}
use Rattle.method.proofs.Refused.{number_is}
use Rattle.editions.specs.File.{kind_of}
use Rattle.editions.proofs.Bytewise.{kind_number_lem, kind_most}

pub kind_is : (n : ℕ) (k : Kind) → n ≡ kind_number k → k ≡ kind_of n
kind_is n k e = rw (e, kind_number_lem k)

-- a number that is no kind's
pub kind_beyond : (n : ℕ) → 7 < n → Xnor ≡ kind_of n
unfolding kind_of
kind_beyond n l = sym (get_or-eq_default (Buf ∷ Not ∷ And ∷ Nand ∷ Or ∷ Nor ∷ Xor ∷ Xnor ∷ []) Xnor (omega arith))

pub kind_within : {n : ℕ} {r : Result Kind NoKind} → Numbered n r → {k : Kind} → r ≡ Ok k → n ≤ 7
kind_within h {k} e = rw (number_is h e) (kind_most k)

pub kind_or_last : (n : ℕ) (r : Result Kind NoKind) → Numbered n r → result_unwrap_or r Xnor ≡ kind_of n
kind_or_last n (Ok k) h = kind_is n k h
kind_or_last n (Err e) h = kind_beyond n h

-- BUF and NOT take one fan-in
pub takes_one : (k : Kind) (m : ℕ) → (k ≡ Buf) ⊎ (k ≡ Not) → eqb m 1 ≡ takes k m
unfolding takes
takes_one Buf m e = refl
takes_one Not m e = refl
takes_one And m e = elim e [ inl h ↦ cc | inr h ↦ cc ]
takes_one Nand m e = elim e [ inl h ↦ cc | inr h ↦ cc ]
takes_one Or m e = elim e [ inl h ↦ cc | inr h ↦ cc ]
takes_one Nor m e = elim e [ inl h ↦ cc | inr h ↦ cc ]
takes_one Xor m e = elim e [ inl h ↦ cc | inr h ↦ cc ]
takes_one Xnor m e = elim e [ inl h ↦ cc | inr h ↦ cc ]

-- the others take several
pub takes_several : (k : Kind) (m : ℕ) → (k ≡ Buf → ⊥) → (k ≡ Not → ⊥) → between 2 most_fanins m ≡ takes k m
unfolding takes
takes_several Buf m b n = absurd (b refl)
takes_several Not m b n = absurd (n refl)
takes_several And m b n = refl
takes_several Nand m b n = refl
takes_several Or m b n = refl
takes_several Nor m b n = refl
takes_several Xor m b n = refl
takes_several Xnor m b n = refl
