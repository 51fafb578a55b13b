-- What holds of the reader of editions in the present edition.
-- Assumes nothing.
use Prim.Native.Nat.{ℕ}
use mathlib.Core.Path.{◌≡◌, ◌∙◌}
use mathlib.Core.List.{List}
use mathlib.Core.Bool.{true}
use Rattle.lists.specs.Ladder.{Answer}
use Rattle.lists.proofs.Ladders.{numbered, quiet}
use Rattle.editions.specs.declared.Edition.{Edition}
use Rattle.editions.specs.Edition.{present}
use Rattle.editions.specs.declared.InputsAndGates.{InputsAndGates}
use Rattle.editions.specs.Questions.{questions, read_of}
use Rattle.editions.proofs.Gated as reader

module _ (file : List ℕ) {ed : Edition} (p : ed ≡ present) where
  pub read_present : {r : Answer InputsAndGates} → r ≡ read_of ed file → r ≡ read_of present file
  read_present e = e ∙ rw p

-- none of its questions clears the areas
pub questions_quiet : (file : List ℕ) → quiet (questions present file) ≡ true
questions_quiet file = reader.questions_quiet present file

pub questions_numbered : (file : List ℕ) → numbered (questions present file) ≡ true
questions_numbered file = reader.questions_numbered present file
