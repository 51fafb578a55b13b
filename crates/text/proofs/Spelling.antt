-- Numbers in decimal, a frame and a refusal, written piece by piece.
-- Assumes nothing.
use Prim.Native.Nat.{ℕ, ◌+◌, ◌%◌, ◌≤◌}
use mathlib.Core.Bool.{Bool, true, false}
use mathlib.Core.List.{List, [], ◌∷◌, ◌++◌, flatten, append_assoc}
use lib.ListN.{get_or}
use mir.Val.{bool_byte}
use Rattle.lists.specs.Tables.{tabulate_from, tabulate}
use Rattle.text.specs.Text.{glyph, digit_at, decimal, refused_word, blank, newline, equals, refusal, frame_text}
use Rattle.text.specs.Wrote.{Wrote}
use Rattle.text.proofs.Putting.{wrote_both, wrote_as, wrote_reached}

-- the digits of n at the powers of ten from a million down to ten
abbrev pub digit_by : ℕ → ℕ → List ℕ
digit_by n i = digit_at (get_or (1000000 ∷ 100000 ∷ 10000 ∷ 1000 ∷ 100 ∷ 10 ∷ []) i 0) n

-- a number is these, and the digit of the ones
pub number_put : {a b c : List ℕ} {at j k : ℕ} (n i : ℕ) → i ≤ 6 → 6 ≤ i → Wrote a at (flatten (tabulate i (digit_by n))) b j → Wrote b j (glyph (n % 10) ∷ []) c k → Wrote a at (decimal n) c k
unfolding decimal tabulate_from flatten
number_put n i l h tens ones =
    wrote_as _ (decimal n) (simp append_assoc) (wrote_both (wrote_reached (λ (m : ℕ). flatten (tabulate m (digit_by n))) i 6 l h tens) ones)

-- a level is the digit 0 or 1
pub frame_put : {o a b c d : List ℕ} {at i j k l : ℕ} (time : ℕ) (level : Bool) → Wrote o at (blank ∷ []) a i → Wrote a i (decimal time) b j → Wrote b j (equals ∷ []) c k
    → Wrote c k ((48 + bool_byte level) ∷ []) d l → Wrote o at (frame_text time level) d l
unfolding frame_text
frame_put time true w x y z = wrote_both w (wrote_both x (wrote_both y z))
frame_put time false w x y z = wrote_both w (wrote_both x (wrote_both y z))

pub refusal_put : {o a b c : List ℕ} {at i j k : ℕ} (n : ℕ) → Wrote o at (refused_word ++ (blank ∷ [])) a i → Wrote a i (decimal n) b j → Wrote b j (newline ∷ []) c k → Wrote o at (refusal n) c k
unfolding refusal
refusal_put n x y z = wrote_both x (wrote_both y z)
