-- What holds of the areas that an accepted Run leaves, and of two of them. The only hypothesis is Run's promise: no bound on a
-- word, none on what the areas held before. `after_runs` in `proofs/After` proves it.
use Rattle.std.specs.Prelude.{ℕ, suc, ◌+◌, ◌<◌, ◌≤◌, ◌≡◌, ◌≢◌, Bool, true, List, map, length, get_or}
use Rattle.lists.specs.Ladder.{Answer, accepted}
use Rattle.lists.specs.Outcome.{outcome}
use Rattle.method.specs.Times.{among}
use Rattle.method.specs.Look.{changes}
use Rattle.method.specs.Words.{lanes, lane}
use Rattle.method.specs.Agreement.{changed_times}
use Rattle.method.specs.Lanes.{AgreeIn}
use Rattle.method.specs.Changes.{changes_suit}
use Rattle.method.specs.WordLists.{WordLists, lengths_of, words_suit}
use Rattle.circuit.specs.File.{inputs_of}
use Rattle.circuit.specs.Task.{Task, circuit_in, nets_in, times_in, potential_in, lane_values, machine_in, packed_in}
use Rattle.method.specs.declared.Totals.{Totals}
use Rattle.method.specs.Limits.{most_net_frames, most_total_frames}
use Rattle.method.specs.Layout.{first_frame, frame_count, part_of}
use Rattle.engine.specs.Areas.{Areas}
use Rattle.planner.specs.Plan.{plan_of}
use Rattle.engine.specs.Questions.{values_length}
use Rattle.engine.specs.Run.{run_of}
use Rattle.looks.specs.Sight.{Sight, sight_at}
use Rattle.looks.specs.Look.{level_of, level_part, count_of}
use Rattle.looks.specs.Holds.{Holds}

-- `left` is what an accepted Run of the task with these words leaves: under some limit it answered totals, and its areas held
-- something
pub record LeftByRun (task : Task) (w : WordLists) (left : Areas) : Type 0 where
  pub limit : ℕ
  pub totals : Totals
  pub entry : Areas
  pub ran : outcome (accepted totals) left ≡ run_of task limit w entry

-- net n's parts of the times and of the values, by its pair in the directory
abbrev pub times_of : Areas → ℕ → List ℕ
times_of a n = part_of a.plan.directory a.plan.times n

abbrev pub values_of : Areas → ℕ → List ℕ
values_of a n = part_of a.plan.directory a.values n

-- the last time at which a caller can look: 2^32 - 1
abbrev pub last_time : ℕ
last_time = 4294967295

-- what Level answers of net n in lane L at time t, from these parts; of that the level; and what Count answers of net n in
-- lane L
abbrev pub sight_in : Areas → ℕ → ℕ → ℕ → Answer Sight
sight_in a n L t = level_of (times_of a n) (values_of a n) L t

abbrev pub level_in : Areas → ℕ → ℕ → ℕ → Answer Bool
level_in a n L t = level_part (sight_in a n L t)

abbrev pub count_in : Areas → ℕ → ℕ → Answer ℕ
count_in a n L = count_of (times_of a n) (values_of a n) L

-- what is seen of frame k of net n in lane L, from these parts
abbrev pub frame_in : Areas → ℕ → ℕ → ℕ → Sight
frame_in a n L k = sight_at (times_of a n) (map (lane L) (values_of a n)) k

-- Level answers, and what it answers holds: the frame that it names holds time t, begins and ends at potential times of the net
-- with none between, and from its begin until before its end, or for ever, the machine's level is the one answered
pub record SightHolds (task : Task) (w : WordLists) (a : Areas) (n L t : ℕ) : Type 0 where
  pub seen : Sight
  pub answers : sight_in a n L t ≡ accepted seen
  pub holds : Holds (potential_in task n) (machine_in task w L n) t seen

-- net n's pair (o, c) in the directory: c is from 1 to 64, and o + c at most 2,048 and at most the length of the times and of the
-- values
pub record NetParts (a : Areas) (n : ℕ) : Type 0 where
  pub some_frame : 1 ≤ frame_count a.plan.directory n
  pub few_frames : frame_count a.plan.directory n ≤ most_net_frames
  pub inside : first_frame a.plan.directory n + frame_count a.plan.directory n ≤ most_total_frames
  pub in_times : first_frame a.plan.directory n + frame_count a.plan.directory n ≤ length a.plan.times
  pub in_values : first_frame a.plan.directory n + frame_count a.plan.directory n ≤ length a.values

pub record After (task : Task) (w : WordLists) (a : Areas) : Type 0 where
  -- the change times are such as question 20 lets pass
  pub changes_suit_lem : changes_suit (inputs_of task.file) task.schedule ≡ true
  -- net n's pair in the directory counts its frames, and its parts are their times and its packed values
  pub parts : (n : ℕ) → n < nets_in task → NetParts a n
  pub count_is : (n : ℕ) → n < nets_in task → frame_count a.plan.directory n ≡ length (times_in task n)
  pub times_are : (n : ℕ) → n < nets_in task → times_of a n ≡ times_in task n
  pub values_are : (n : ℕ) → n < nets_in task → values_of a n ≡ packed_in task w n
  -- Level answers on these parts, and what it answers is the machine's level, run for the lane's stimuli by themselves; at
  -- every time t, so at those from 0 to 2^32 - 1
  pub level_is_machine : (n L t : ℕ) → n < nets_in task → L < lanes → level_in a n L t ≡ accepted (machine_in task w L n t)
  -- and holds from the begin of the frame that Level names to its end
  pub sight_holds : (n L t : ℕ) → n < nets_in task → L < lanes → SightHolds task w a n L t
  -- what is seen of a frame by its number is what Level answers at the frame's own time
  pub frame_is_level : (n L k : ℕ) → n < nets_in task → L < lanes → k < frame_count a.plan.directory n
      → sight_in a n L (get_or (times_of a n) k 0) ≡ accepted (frame_in a n L k)
  -- Count answers the number of changes of the lane's own values, which is the number of times from 1 to 2^32 - 1 at
  -- which the machine's level differs from that one unit earlier
  pub count_is_own : (n L : ℕ) → n < nets_in task → L < lanes → count_in a n L ≡ accepted (changes (lane_values task w L n))
  pub count_is_machine : (n L : ℕ) → n < nets_in task → L < lanes → count_in a n L ≡ accepted (changed_times (machine_in task w L n) last_time)
  -- where Level's answers at t + 1 and at t differ, t + 1 is among the net's entries in the times area
  pub changes_at_times : (n L t : ℕ) → n < nets_in task → L < lanes
      → level_in a n L (suc t) ≢ level_in a n L t → among (suc t) (times_of a n) ≡ true
  -- and these entries are the net's potential times
  pub times_are_potential : (n t : ℕ) → n < nets_in task → among t (times_of a n) ≡ potential_in task n t

-- two accepted Runs of this task's circuit with its change times whose words agree in lane L, whatever the other lanes hold,
-- whatever limits they had and whatever stood in the areas
pub record Alike (task : Task) (L : ℕ) (a a' : Areas) : Type 0 where
  pub same_sight : (n t : ℕ) → n < nets_in task → sight_in a n L t ≡ sight_in a' n L t
  pub same_level : (n t : ℕ) → n < nets_in task → level_in a n L t ≡ level_in a' n L t
  pub same_count : (n : ℕ) → n < nets_in task → count_in a n L ≡ count_in a' n L

pub record AfterRun : Type 0 where
  pub after_run : (task : Task) (w : WordLists) (a : Areas) → LeftByRun task w a → After task w a
  pub runs_alike : (task task' : Task) (w w' : WordLists) (a a' : Areas) (L : ℕ) → L < lanes
      → LeftByRun task w a → LeftByRun task' w' a' → circuit_in task ≡ circuit_in task' → task.schedule ≡ task'.schedule
      → AgreeIn L (circuit_in task).inputs (length task.schedule.times) w w' → Alike task L a a'
  -- no pattern bit enters a number, a plan area or the totals: word lists of equal lengths give the same answer and the
  -- same four plan areas
  pub words_alike : (task : Task) (limit : ℕ) (w w' : WordLists) (a : Areas) → lengths_of w ≡ lengths_of w'
      → ((run_of task limit w a).answer ≡ (run_of task limit w' a).answer) × ((run_of task limit w a).left.plan ≡ (run_of task limit w' a).left.plan)
  -- Run's totals and plan areas are Plan's: where the values and the word lists have their lengths, Run answers what Plan
  -- answers of this task, this limit and these four areas, and leaves in them what Plan leaves
  pub plan_alike : (task : Task) (limit : ℕ) (w : WordLists) (a : Areas) → length a.values ≡ values_length → words_suit (inputs_of task.file) (length task.schedule.times) (lengths_of w) ≡ true
      → ((run_of task limit w a).answer ≡ (plan_of task limit a.plan).answer) × ((run_of task limit w a).left.plan ≡ (plan_of task limit a.plan).left)
