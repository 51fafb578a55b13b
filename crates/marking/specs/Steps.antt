-- What Mark's own functions promise each other. A reader of Mark's promise may skip this file.
use Rattle.std.specs.Prelude.{ℕ, Bool}
use Rattle.lists.specs.Ladder.{first_no}
use Rattle.method.specs.WordLists.{WordLists, lengths_of}
use Rattle.circuit.specs.Task.{Task}
use Rattle.engine.specs.Areas.{Areas}
use Rattle.engine.specs.Run.{run_left}
use Rattle.marking.specs.Questions.{asked_with}

-- the number of the first "no", or 0, with what stands in the areas then
pub record Asked : Type 0 where
  pub number : ℕ
  pub left : Areas

abbrev pub asked : ℕ → Areas → Asked
asked n a = record { number = n; left = a }

-- where `suit` answers question 12
unfoldable pub asked_of : Task → ℕ → WordLists → Areas → Bool → Asked
asked_of task limit w a suit =
    let n : ℕ = first_no (asked_with task limit (lengths_of w) a suit) in
    asked n (run_left n task w a)
