-- Numbers as bytes, little-endian: the lowest byte comes first. A place past the end of the bytes reads as 0.
use Rattle.std.specs.Prelude.{ℕ, ◌+◌, ◌*◌, List, get_or}

abbrev pub byte_at : List ℕ → ℕ → ℕ
byte_at bytes at = get_or bytes at 0

-- the two-byte number that starts at `at`
unfoldable pub number_at : List ℕ → ℕ → ℕ
number_at bytes at = byte_at bytes at + 256 * byte_at bytes (at + 1)

-- the word whose eight bytes start at `at`
unfoldable pub word_at : List ℕ → ℕ → ℕ
word_at bytes at =
    number_at bytes at
    + 65536 * (number_at bytes (at + 2) + 65536 * (number_at bytes (at + 4) + 65536 * number_at bytes (at + 6)))
