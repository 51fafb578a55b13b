-- `words::bit_of` meets its contract. Moved down by the lane's number a word has the lane's bit lowest; it has no bit in a lane
-- above 63.
use Prim.Native.Nat.{ℕ, ◌<◌, ◌^◌}
use mathlib.Core.Path.{◌≡◌}
use mathlib.Core.Bool.{false}
use native.Mathlib.Nat.{lt_of_lt_of_le, div-eq_of_lt}
use lib.Pow.{pow_mono}
use borrow.Author.Rules.{rules}
use Rattle.method.specs.Words.{lanes, lane}
use Rattle.words.proofs.bit_of.Goals as goal

no-bit : (L word : ℕ) → 63 < L → word < 2 ^ lanes → false ≡ lane L word
unfolding lane
no-bit L word h b = rw (div-eq_of_lt (lt_of_lt_of_le b (pow_mono h)))

pub returns-then-lane-gt63 : goal.returns-then-lane-gt63
returns-then-lane-gt63 c = no-bit _ _ c.if-lane-gt63.true (search rules)

pub returns : goal.returns
unfolding lane
returns c = search rules
