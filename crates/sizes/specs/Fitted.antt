-- What the fitted Run answers, and what it leaves in the areas: a Run that takes areas of just the sizes that the circuit needs.
use Rattle.std.specs.Prelude.{ℕ, ◌*◌, ◌≡◌, Bool, ◌&&◌, List, [], ◌∷◌, ◌++◌, length, eqb}
use Rattle.lists.specs.Ladder.{Question, ◌or_else◌, first_no, accepted, unless}
use Rattle.lists.specs.Outcome.{Outcome, outcome, left_unless}
use Rattle.method.specs.declared.Totals.{Totals}
use Rattle.method.specs.Changes.{changes_suit}
use Rattle.method.specs.Sums.{totals_of}
use Rattle.method.specs.WordLists.{WordLists, Lengths, lengths_of, words_suit}
use Rattle.circuit.specs.File.{inputs_of}
use Rattle.circuit.specs.Questions as reader
use Rattle.circuit.specs.Task.{Task, nets_in, frames_in}
use Rattle.limiting.specs.Questions.{last_questions}
use Rattle.engine.specs.Areas.{Areas}
use Rattle.engine.specs.Run.{filled}

-- 10: Are the areas of exactly these lengths: directory 2(I + G), times, inertial and values the frame total, fan-in the fan-in
-- total? That is 0 where there is no gate
unfoldable pub areas_fit : ℕ → Totals → Areas → Bool
areas_fit nets t a =
    eqb (length a.plan.directory) (2 * nets)
    && (eqb (length a.plan.times) t.frames
    && (eqb (length a.plan.inertial) t.frames
    && (eqb (length a.plan.fanins) t.fanins && eqb (length a.values) t.frames)))

-- the areas have the lengths that this task takes
abbrev pub just_fits : Task → Areas → Bool
just_fits task a = areas_fit (nets_in task) (totals_of (frames_in task)) a

-- its own questions: 11, 20, 13 and 22, then 10, which asks about the totals
abbrev pub own_questions : Task → ℕ → Lengths → Areas → List Question
own_questions task limit l a =
    (words_suit (inputs_of task.file) (length task.schedule.times) l or_else 11)
    ∷ (changes_suit (inputs_of task.file) task.schedule or_else 20)
    ∷ (last_questions limit (frames_in task) ++ ((just_fits task a or_else 10) ∷ []))

unfoldable pub fitted_questions : Task → ℕ → Lengths → Areas → List Question
fitted_questions task limit l a = reader.questions task.file ++ own_questions task limit l a

-- the fitted Run of a task with a limit and these words, and of areas with these contents: it answers what Run does and fills the
-- areas as Run does, to their own lengths; and none of its numbers writes
unfoldable pub fitted_of : Task → ℕ → WordLists → Areas → Outcome Totals Areas
fitted_of task limit w a =
    let n : ℕ = first_no (fitted_questions task limit (lengths_of w) a) in
    outcome (unless n (totals_of (frames_in task))) (left_unless n (filled task w a) a)

-- `left` is what an accepted fitted Run of the task with these words leaves: under some limit it answered totals, and its areas
-- held something
pub record LeftByFitted (task : Task) (w : WordLists) (left : Areas) : Type 0 where
  pub limit : ℕ
  pub totals : Totals
  pub entry : Areas
  pub ran : outcome (accepted totals) left ≡ fitted_of task limit w entry
