-- What a function over any type of numbers may rest on; and that the unsigned numbers keep it.
use Rattle.std.specs.Prelude.{ℕ, ◌≡◌, leb, Option, Some, ⊤}
use Rattle.std.specs.declared.cmp.Ordering.{Ordering}
use Rattle.std.specs.Ordering.{partial_le, nat_cmp}
use Rattle.std.proofs.Common.{arith}
use Rattle.std.proofs.lemmas.Bool.Decides.{nat_tests}

-- `zero` is what the byte 0 becomes, the code's order is that of the values, and a copy is the number itself
pub record NumberLaws {N : Type 0} (zero : N) (value : N → ℕ) (from : ℕ → N → Type 0) (order : N → N → Option Ordering) (copy : N → N → Type 0) (can_copy : N → Type 0) : Type 0 where
  pub from_0 : (n : N) → from 0 n → n ≡ zero
  pub by_value : (a b : N) → partial_le order a b ≡ leb (value a) (value b)
  pub same : (a b : N) → copy a b → b ≡ a
  pub can : (a : N) → can_copy a

pub number_laws : NumberLaws 0 (λ n. n) (λ a b. b ≡ a) (λ a b. Some (nat_cmp a b)) (λ a b. b ≡ a) (λ _. ⊤)
number_laws = record { from_0 = λ n e. e; by_value = λ a b. grind (arith, nat_tests); same = λ a b e. e; can = λ _. tt }
