-- What Size and the fitted Run have in common with Plan and Run. `same_sizes` in `proofs/Same` proves it.
use Rattle.std.specs.Prelude.{ℕ, ◌*◌, ◌≡◌, true, length, take}
use Rattle.lists.specs.Ladder.{accepted}
use Rattle.lists.specs.Outcome.{outcome}
use Rattle.method.specs.declared.Totals.{Totals}
use Rattle.method.specs.Areas as planner
use Rattle.method.specs.WordLists.{WordLists, lengths_of, words_suit}
use Rattle.circuit.specs.File.{inputs_of}
use Rattle.circuit.specs.Task.{Task, nets_in}
use Rattle.planner.specs.Questions.{areas_suit}
use Rattle.planner.specs.Plan.{plan_of}
use Rattle.engine.specs.Areas.{Areas, areas}
use Rattle.engine.specs.Questions as engine
use Rattle.engine.specs.Run.{run_of}
use Rattle.sizes.specs.Sizes.{size_of}
use Rattle.sizes.specs.Fitted.{areas_fit, just_fits, fitted_of}

-- the used parts of areas, where there are this many nets with these totals: of each area the front that a plan and its values
-- take
unfoldable pub used_parts : ℕ → Totals → Areas → Areas
used_parts nets t a =
    areas (take (2 * nets) a.plan.directory) (take t.frames a.plan.times) (take t.frames a.plan.inertial)
    (take t.fanins a.plan.fanins) (take t.frames a.values)

pub record SameSizes : Type 0 where
  -- Size's answer is Plan's wherever Plan's areas pass question 10, refusals included
  pub size_is_plan : (task : Task) (limit : ℕ) (a : planner.Areas) → areas_suit a ≡ true → size_of task limit ≡ (plan_of task limit a).answer
  -- the fitted Run's answer is Run's wherever the areas of each pass its question 10, refusals included
  pub fitted_is_run : (task : Task) (limit : ℕ) (w : WordLists) (a a' : Areas) → engine.areas_suit a ≡ true → just_fits task a' ≡ true
      → (fitted_of task limit w a').answer ≡ (run_of task limit w a).answer
  -- areas of the sizes that Size answers pass, so with word lists of the right lengths the fitted Run accepts, with these totals
  pub sized_fits : (task : Task) (limit : ℕ) (w : WordLists) (a : Areas) (t : Totals) → size_of task limit ≡ accepted t
      → words_suit (inputs_of task.file) (length task.schedule.times) (lengths_of w) ≡ true → areas_fit (nets_in task) t a ≡ true
      → (fitted_of task limit w a).answer ≡ accepted t
  -- where a Run and a fitted Run of one task with the same words accept, whatever their limits were and whatever stood in the
  -- areas, their totals are the same, and the fitted Run's areas are the used parts of the Run's
  pub used_parts_lem : (task : Task) (limit limit' : ℕ) (w : WordLists) (entry entry' left left' : Areas) (t t' : Totals)
      → outcome (accepted t) left ≡ run_of task limit w entry → outcome (accepted t') left' ≡ fitted_of task limit' w entry'
      → (t ≡ t') × (left' ≡ used_parts (nets_in task) t left)
