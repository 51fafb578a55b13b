-- Where the bytes of a gate lie in a file: what is read of it without a test.
use Rattle.std.specs.Prelude.{ℕ, ◌+◌, ◌*◌, ◌≤◌, List, length}
use Rattle.editions.specs.File.{offset_of, length_of}

-- gate j's pair is there, and its record, which has `least` bytes or more
pub record Lies (least : ℕ) (file : List ℕ) (j : ℕ) : Type 0 where
  pub pair : 8 + 4 * j ≤ length file
  pub long : least ≤ length_of file j
  pub inside : offset_of file j + length_of file j ≤ length file
