-- What the functions of this crate ask for and promise, gate by gate. No function here makes inertial indices or fan-in rows; that
-- the directory and the times are those of a plan is said with some such areas beside them.
use Rattle.std.specs.Prelude.{ℕ, ◌≡◌, true, false, List}
use Rattle.lists.specs.Ladder.{accepted}
use Rattle.method.specs.declared.Totals.{Totals}
use Rattle.method.specs.Changes.{changes_suit}
use Rattle.method.specs.Areas.{areas}
use Rattle.method.specs.Sums.{fits, totals_of}
use Rattle.circuit.specs.File.{inputs_of, gates_of}
use Rattle.circuit.specs.Questions.{read_of}
use Rattle.circuit.specs.Task.{Task, frames_in}
use Rattle.layout.specs.Steps.{frames_of, Given, Going}
use Rattle.std.specs.Prelude.{Option, Some, None}

-- an accepted file, and change times that suit it
pub record Asked (task : Task) : Type 0 where
  pub read : read_of task.file ≡ accepted (record { inputs = inputs_of task.file; gates = gates_of task.file })
  pub suits : changes_suit (inputs_of task.file) task.schedule ≡ true

-- the inputs and j gates are counted
pub record Counting (task : Task) (j : ℕ) (d t : List ℕ) (totals : Totals) : Type 0 where
  pub inertial : List ℕ
  pub fanins : List ℕ
  pub given : Given task (areas d t inertial fanins)
  pub going : Going task j (areas d t inertial fanins) totals

-- after n gates were tried: they are counted, or there are too many frames
pub record CountedTo (task : Task) (n : ℕ) (d t : List ℕ) (r : Option Totals) : Type 0 where
  pub planned : (totals : Totals) → r ≡ Some totals → Counting task n d t totals
  pub stopped : r ≡ None → fits (frames_of task n) ≡ false

-- all gates were tried: the totals are those of all nets, or there are too many frames
pub record Totalled (task : Task) (r : Option Totals) : Type 0 where
  pub fit : (t : Totals) → r ≡ Some t → fits (frames_in task) ≡ true
  pub totals : (t : Totals) → r ≡ Some t → t ≡ totals_of (frames_in task)
  pub stopped : r ≡ None → fits (frames_in task) ≡ false
