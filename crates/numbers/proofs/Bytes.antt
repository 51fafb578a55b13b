-- Numbers in what is left of the bytes from a place on.
-- Assumes nothing.
use Prim.Native.Nat.{ℕ, ◌+◌, ◌-◌, ◌*◌}
use mathlib.Core.Path.{◌≡◌, ap, ◌∙◌}
use mathlib.Core.List.{List}
use native.Mathlib.Omega.{arith}
use lib.ListN.{length, get_or, take, drop, length-drop}
use lib.Seq.{get_or-drop, take_all}
use Rattle.numbers.specs.Numbers.{number_at, word_at}

number_drop : (bytes : List ℕ) (at k : ℕ) → number_at (drop at bytes) k ≡ number_at bytes (at + k)
unfolding number_at
number_drop bytes at k = rw (get_or-drop at bytes k 0, get_or-drop at bytes (k + 1) 0) (ap (λ (n : ℕ). get_or bytes (at + k) 0 + 256 * get_or bytes n 0) (omega arith))

pub word_here : (bytes rest : List ℕ) (at : ℕ) → rest ≡ drop at bytes → {w : ℕ}
    → w ≡ number_at rest 0 + 65536 * (number_at rest 2 + 65536 * (number_at rest 4 + 65536 * number_at rest 6)) → w ≡ word_at bytes at
unfolding word_at
word_here bytes rest at r e =
    e ∙ rw (r, number_drop bytes at 0, number_drop bytes at 2, number_drop bytes at 4, number_drop bytes at 6)
    (ap (λ (n : ℕ). number_at bytes n + 65536 * (number_at bytes (at + 2) + 65536 * (number_at bytes (at + 4) + 65536 * number_at bytes (at + 6)))) (omega arith))

-- a part that goes to the end is all that is left
pub rest_is : (bytes : List ℕ) (at : ℕ) → take (length bytes - at) (drop at bytes) ≡ drop at bytes
rest_is bytes at = take_all (length bytes - at) (drop at bytes) (omega (arith, length-drop at bytes))
