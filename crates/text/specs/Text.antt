-- Text as bytes: numbers in decimal, a refusal, a frame.
use Rattle.std.specs.Prelude.{ℕ, zero, suc, ◌+◌, ◌-◌, ◌*◌, ◌/◌, ◌%◌, ◌^◌, ◌<◌, ◌≡◌, Bool, cond, List, [], ◌∷◌, ◌++◌, leb}

abbrev pub blank : ℕ
blank = 32

abbrev pub newline : ℕ
newline = 10

abbrev pub equals : ℕ
equals = 61

-- the character of a digit, 0 to 9
abbrev pub glyph : ℕ → ℕ
glyph digit = 48 + digit

-- the digit of n at a power of ten, where n reaches it: so there are no leading zeros
unfoldable pub digit_at : ℕ → ℕ → List ℕ
digit_at power n = cond (leb power n) (glyph (n / power % 10) ∷ []) []

-- the digits from the power k of ten down; that of the ones is always there
abbrev pub digits_from : ℕ → ℕ → List ℕ
digits_from zero n = glyph (n % 10) ∷ []
digits_from (suc k) n = digit_at (10 ^ suc k) n ++ digits_from k n

-- n in decimal, for n below 10,000,000: a net's number is at most 159, and a time of an accepted circuit at most 7,680,255,
-- which is 255 + 128 × 60,000
unfoldable pub decimal : ℕ → List ℕ
decimal n = digits_from 6 n

-- what digits say, read from the left, where `value` was read before them; below 10,000,000 that is n (`decimal_reads` in
-- `proofs/Reading`)
abbrev pub read_on : ℕ → List ℕ → ℕ
read_on value [] = value
read_on value (x ∷ xs) = read_on (10 * value + (x - 48)) xs

abbrev pub ReadsBack : Type 0
ReadsBack = (n : ℕ) → n < 10000000 → read_on 0 (decimal n) ≡ n

-- `refused`, a blank, the number, a newline
abbrev pub refused_word : List ℕ
refused_word = 114 ∷ 101 ∷ 102 ∷ 117 ∷ 115 ∷ 101 ∷ 100 ∷ []

unfoldable pub refusal : ℕ → List ℕ
refusal n = refused_word ++ blank ∷ (decimal n ++ newline ∷ [])

-- a frame: a blank and time=level
unfoldable pub frame_text : ℕ → Bool → List ℕ
frame_text time level = blank ∷ (decimal time ++ equals ∷ glyph (cond level 1 0) ∷ [])
