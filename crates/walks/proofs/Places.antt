-- Where the elements of a lent list lie in memory, for a walk over it: how many bytes one takes, and that the place of each fits into a
-- word.
-- Assumes nothing.
use Prim.Native.Nat.{ℕ, ◌*◌, ◌<◌, ◌^◌}
use native.Mathlib.Nat.{le_of_lt, lt_of_le_of_lt, lt_of_lt_of_le, mul-le-mul_right}
use lib.Dec.{lit≤}
use denote.RattleType.{RattleType}
use denote.Memory.{mem}
use denote.Slice.{Room}

abbrev pub size : RattleType → ℕ
size R = (mem R).size

pub place_fits : (R : RattleType) {n : ℕ} → Room R n → (i : ℕ) → i < n → i * size R < 2 ^ 64
place_fits R room i l = lt_of_lt_of_le (lt_of_le_of_lt (mul-le-mul_right (size R) (le_of_lt l)) room.1) (lit≤ tt)
