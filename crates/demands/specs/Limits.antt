-- One engine for every caller: within its limit a call is the call of the full course, whose limit is 2,048. Request P8
-- asks for it, and `one_engine` in `proofs/Limits` proves it.
use Rattle.std.specs.Prelude.{ℕ, ◌≤◌, ◌≡◌, List, [], length}
use Rattle.lists.specs.Ladder.{accepted}
use Rattle.lists.specs.Outcome.{Outcome, outcome}
use Rattle.method.specs.Limits.{most_total_frames}
use Rattle.method.specs.Frames.{Frames}
use Rattle.method.specs.Layout.{all_times}
use Rattle.method.specs.Areas as plan
use Rattle.method.specs.WordLists.{WordLists}
use Rattle.circuit.specs.Task.{Task, frames_in}
use Rattle.planner.specs.Plan.{plan_of}
use Rattle.engine.specs.Areas.{Areas}
use Rattle.engine.specs.Run.{run_of}
use Rattle.engine.specs.After.{level_in, count_in}
use Rattle.sizes.specs.Sizes.{size_of}
use Rattle.sizes.specs.Fitted.{fitted_of}
use Rattle.expectations.specs.declared.Expectation.{Expectation}
use Rattle.marking.specs.Mark.{mark_of}

-- a call accepts: it answers values
pub record Accepts {R S : Type 0} (o : Outcome R S) : Type 0 where
  pub values : R
  pub answers : o.answer ≡ accepted values

-- a call by its limit, where the nets have these frames
pub record AsFullCourse {R S : Type 0} (fs : List Frames) (call : ℕ → Outcome R S) (limit : ℕ) : Type 0 where
  -- where it accepts, its answer and its areas are those of 2,048
  pub same : Accepts (call limit) → call limit ≡ call most_total_frames
  -- and it accepts exactly if the limit is from 1 to 2,048, the call with 2,048 accepts, and the frame total is at most the
  -- limit
  pub only_if : Accepts (call limit)
      → (1 ≤ limit) × (limit ≤ most_total_frames) × Accepts (call most_total_frames) × (length (all_times fs) ≤ limit)
  pub whenever : 1 ≤ limit → limit ≤ most_total_frames → Accepts (call most_total_frames) → length (all_times fs) ≤ limit → Accepts (call limit)

-- what a call leaves that is lent no area
abbrev pub no_areas : List Areas
no_areas = []

-- the same level on every net, in every lane, at every time, and the same count, in these areas and in those
pub record SameLevels (a a' : Areas) : Type 0 where
  pub level : (n L t : ℕ) → level_in a n L t ≡ level_in a' n L t
  pub count : (n L : ℕ) → count_in a n L ≡ count_in a' n L

pub record OneEngine : Type 0 where
  pub plan : (task : Task) (limit : ℕ) (a : plan.Areas) → AsFullCourse (frames_in task) (λ (l : ℕ). plan_of task l a) limit
  pub run : (task : Task) (limit : ℕ) (w : WordLists) (a : Areas) → AsFullCourse (frames_in task) (λ (l : ℕ). run_of task l w a) limit
  pub mark : (task : Task) (limit : ℕ) (w : WordLists) (a : Areas) (list : List Expectation) → AsFullCourse (frames_in task) (λ (l : ℕ). mark_of task l w a list) limit
  -- Size is lent no area, so it leaves none
  pub size : (task : Task) (limit : ℕ) → AsFullCourse (frames_in task) (λ (l : ℕ). outcome (size_of task l) no_areas) limit
  pub fitted : (task : Task) (limit : ℕ) (w : WordLists) (a : Areas) → AsFullCourse (frames_in task) (λ (l : ℕ). fitted_of task l w a) limit
  pub fitted_levels : (task : Task) (limit : ℕ) (w : WordLists) (a : Areas) → Accepts (fitted_of task limit w a)
      → SameLevels (fitted_of task limit w a).left (fitted_of task most_total_frames w a).left
  pub run_levels : (task : Task) (limit : ℕ) (w : WordLists) (a : Areas) → Accepts (run_of task limit w a)
      → SameLevels (run_of task limit w a).left (run_of task most_total_frames w a).left
  pub mark_levels : (task : Task) (limit : ℕ) (w : WordLists) (a : Areas) (list : List Expectation) → Accepts (mark_of task limit w a list)
      → SameLevels (mark_of task limit w a list).left (mark_of task most_total_frames w a list).left
