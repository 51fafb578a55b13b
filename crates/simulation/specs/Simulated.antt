-- What a run behind its questions asks for, and what it leaves: in the plan's areas what planning leaves, and the values.
use Rattle.std.specs.Prelude.{ℕ, ◌≤◌, ◌≡◌, true, List, length, Result}
use Rattle.lists.specs.Ladder.{first_no}
use Rattle.lists.specs.Outcome.{outcome, left_by}
use Rattle.lists.specs.Areas.{cleared, padded}
use Rattle.method.specs.Areas.{Areas}
use Rattle.method.specs.Layout.{all_times}
use Rattle.method.specs.Sums.{fits}
use Rattle.method.specs.WordLists.{WordLists, Lengths, words_suit}
use Rattle.circuit.specs.File.{inputs_of}
use Rattle.circuit.specs.Task.{Task, frames_in, all_packed_in}
use Rattle.layout.specs.Steps.{Given}
use Rattle.method.specs.declared.Totals.{Totals}
use Rattle.method.specs.declared.Refusal.{Refusal}
use Rattle.method.specs.Refusals.{on_paper}
use Rattle.limiting.specs.Questions.{last_questions}
use Rattle.limiting.specs.Planned.{within_of}

-- what filling the areas asks for, word lists of the right lengths, and a place in the values for each frame
pub record Ready (task : Task) (l : Lengths) (a : Areas) (v : List ℕ) : Type 0 where
  pub given : Given task a
  pub worded : words_suit (inputs_of task.file) (length task.schedule.times) l ≡ true
  pub words : fits (frames_in task) ≡ true → length (all_times (frames_in task)) ≤ length v

-- what stands in the values in the end, where the first "no" is n, or 0 for none: the packed values, and zeros behind them
abbrev pub values_left : ℕ → Task → WordLists → List ℕ → List ℕ
values_left n task w v = left_by n (padded (length v) (all_packed_in task w)) (cleared v) v

-- r is answered, and a and v have become a' and v'
pub record Simulated (task : Task) (limit : ℕ) (w : WordLists) (a : Areas) (v : List ℕ) (r : Result Totals Refusal) (a' : Areas) (v' : List ℕ) : Type 0 where
  pub plan : outcome (on_paper r) a' ≡ within_of task limit a
  pub values : v' ≡ values_left (first_no (last_questions limit (frames_in task))) task w v
