-- What a function that writes text promises.
use Rattle.std.specs.Prelude.{ℕ, ◌+◌, ◌-◌, min, ◌≡◌, List, length}
use Rattle.std.proofs.lemmas.List.Edits.{sets}

-- `text` was written to the buffer from place `at` on, as far as the buffer reaches; `end` is the place behind it
pub record Wrote (entry : List ℕ) (at : ℕ) (text exit : List ℕ) (end : ℕ) : Type 0 where
  pub is : exit ≡ sets entry at text
  pub up : end ≡ at + min (length text) (length entry - at)
