-- The conditions of purchase, sentence by sentence. The calls' contracts say that what `read`, `plan`, `run`, `size`,
-- `run_fitted`, `level`, `count`, `mark`, `newer` and `older` answer and leave is `read_of`, `plan_of`, `run_of`, `size_of`,
-- `fitted_of`, `level_of`, `count_of`, `mark_of`, `newer_of` and `older_of`; here stands what holds of these. `demands` in
-- `proofs/Demands` proves it.
use Rattle.std.specs.Prelude.{ℕ, suc, ◌<◌, ◌≤◌, ◌≡◌, ◌≢◌, true, List, map, length}
use Rattle.lists.specs.Ladder.{accepted}
use Rattle.lists.specs.Areas.{padded}
use Rattle.lists.specs.Outcome.{outcome}
use Rattle.lists.specs.Every.{Every}
use Rattle.method.specs.Stimulus.{Ordered}
use Rattle.method.specs.Times.{among}
use Rattle.method.specs.Look.{changes}
use Rattle.method.specs.Words.{lanes, lane}
use Rattle.method.specs.Netwise.{EveryNet, EveryGate}
use Rattle.method.specs.Agreement.{changed_times}
use Rattle.method.specs.Lanes.{AgreeIn}
use Rattle.method.specs.WordLists.{WordLists, lengths_of}
use Rattle.circuit.specs.File.{circuit_of}
use Rattle.circuit.specs.Questions as circuit
use Rattle.circuit.specs.Task.{Task, circuit_in, moments_in, nets_in, frames_in, potential_in, lane_values, machine_in, all_packed_in}
use Rattle.method.specs.declared.Totals.{Totals}
use Rattle.method.specs.Areas.{Areas as PlanAreas, all_cleared as plan_cleared}
use Rattle.method.specs.Layout.{laid}
use Rattle.planner.specs.Questions as planner
use Rattle.method.specs.Limits.{most_total_frames}
use Rattle.method.specs.Sums.{limited, totals_of}
use Rattle.planner.specs.Plan.{plan_of}
use Rattle.engine.specs.Areas.{Areas, all_cleared}
use Rattle.engine.specs.Questions as engine
use Rattle.engine.specs.Run.{filled, run_of}
use Rattle.looks.specs.Sight.{sight}
use Rattle.looks.specs.Look.{look_questions, level_of, count_of}
use Rattle.engine.specs.After.{LeftByRun, times_of, level_in, count_in, NetParts, last_time}
use Rattle.sizes.specs.Sizes.{size_questions, size_of}
use Rattle.sizes.specs.Fitted.{just_fits, fitted_questions, fitted_of, LeftByFitted}
use Rattle.expectations.specs.declared.Expectation.{Expectation}
use Rattle.expectations.specs.Suits.{list_suits}
use Rattle.marking.specs.Questions as marking
use Rattle.expectations.specs.Verdict.{Verdict, all_met, place}
use Rattle.marking.specs.Mark.{verdict, mark_of}
use Rattle.converter.specs.Convert.{newer_questions, newer_file, newer_of, older_questions, older_file, older_of}
use Rattle.demands.specs.Answers.{Answered, Leaves, LeavesUnless, SameRefusal, SameVerdict}
use Rattle.demands.specs.Runs.{Marked, Ran, HoldsPlan}
use Rattle.demands.specs.Marks.{Met, MetByMachine, Place}
use Rattle.editions.specs.declared.InputsAndGates.{InputsAndGates}

-- ---- demand 1

-- "A student or marker who hands in a file, word lists and memory areas of whatever content gets an answer or, exactly when
-- a question in document 01 fails, the number of the first that does, and finds in every area just what that paper lays
-- down for it."
pub record Demand1 : Type 0 where
  pub read : (file : List ℕ) → Answered (circuit.questions file) (circuit.inputs_and_gates_of file) (circuit.read_of file)
  pub plan : (task : Task) (limit : ℕ) (a : PlanAreas)
      → Answered (planner.questions task limit a) (totals_of (frames_in task)) (plan_of task limit a).answer
  pub plan_areas : (task : Task) (limit : ℕ) (a : PlanAreas)
      → Leaves (plan_of task limit a).answer (laid (frames_in task) a) (plan_cleared a) a (plan_of task limit a).left
  pub run : (task : Task) (limit : ℕ) (w : WordLists) (a : Areas)
      → Answered (engine.questions task limit (lengths_of w) a) (totals_of (frames_in task)) (run_of task limit w a).answer
  pub run_areas : (task : Task) (limit : ℕ) (w : WordLists) (a : Areas)
      → Leaves (run_of task limit w a).answer (filled task w a) (all_cleared a) a (run_of task limit w a).left
  pub size : (task : Task) (limit : ℕ) → Answered (size_questions task limit) (totals_of (frames_in task)) (size_of task limit)
  -- of the fitted Run no number writes
  pub fitted : (task : Task) (limit : ℕ) (w : WordLists) (a : Areas)
      → Answered (fitted_questions task limit (lengths_of w) a) (totals_of (frames_in task)) (fitted_of task limit w a).answer
  pub fitted_areas : (task : Task) (limit : ℕ) (w : WordLists) (a : Areas)
      → LeavesUnless (fitted_of task limit w a).answer (filled task w a) a (fitted_of task limit w a).left
  pub mark : (task : Task) (limit : ℕ) (w : WordLists) (a : Areas) (list : List Expectation)
      → Answered (marking.questions task limit (lengths_of w) a list) (verdict task w list) (mark_of task limit w a list).answer
  pub mark_areas : (task : Task) (limit : ℕ) (w : WordLists) (a : Areas) (list : List Expectation)
      → Leaves (mark_of task limit w a list).answer (filled task w a) (all_cleared a) a (mark_of task limit w a list).left
  -- where the list passes question 12, Mark leaves the areas as Run does
  pub mark_as_run : (task : Task) (limit : ℕ) (w : WordLists) (a : Areas) (list : List Expectation) → list_suits (nets_in task) list ≡ true
      → (mark_of task limit w a list).left ≡ (run_of task limit w a).left
  pub level : (times values : List ℕ) (L t : ℕ) → Answered (look_questions times values L) (sight times (map (lane L) values) t) (level_of times values L t)
  pub count : (times values : List ℕ) (L : ℕ) → Answered (look_questions times values L) (changes (map (lane L) values)) (count_of times values L)
  -- the converters, which no other call needs: a file in, an area out
  pub newer : (file area : List ℕ) → Answered (newer_questions file area) (length (newer_file file)) (newer_of file area).answer
  pub newer_area : (file area : List ℕ)
      → LeavesUnless (newer_of file area).answer (padded (length area) (newer_file file)) area (newer_of file area).left
  pub older : (file area : List ℕ) → Answered (older_questions file area) (length (older_file file)) (older_of file area).answer
  pub older_area : (file area : List ℕ)
      → LeavesUnless (older_of file area).answer (padded (length area) (older_file file)) area (older_of file area).left

-- ---- demand 2

-- "For each accepted circuit, the frame times, fan-in indices, inertial indices, packed values and change counts are those
-- of the potential-change-frame method of the published paper (source document 004), with the corrections that document 01
-- lists;"
pub record Demand2Method : Type 0 where
  -- of every accepted file's circuit the method's equations hold net by net, and none of them looks up a default
  pub every_net : (file : List ℕ) (s : InputsAndGates) → circuit.read_of file ≡ accepted s → EveryNet (circuit_of file) × EveryGate (circuit_of file)
  -- Plan and the calls that run accept only accepted files
  pub plan_read : (task : Task) (limit : ℕ) (entry left : PlanAreas) (totals : Totals)
      → outcome (accepted totals) left ≡ plan_of task limit entry → circuit.read_of task.file ≡ accepted (circuit.inputs_and_gates_of task.file)
  pub run_read : (task : Task) (w : WordLists) (left : Areas) → Ran task w left → circuit.read_of task.file ≡ accepted (circuit.inputs_and_gates_of task.file)
  -- with change times that strictly rise, from above 0
  pub plan_ordered : (task : Task) (limit : ℕ) (entry left : PlanAreas) (totals : Totals)
      → outcome (accepted totals) left ≡ plan_of task limit entry → Ordered (moments_in task)
  pub run_ordered : (task : Task) (w : WordLists) (left : Areas) → Ran task w left → Ordered (moments_in task)
  -- what they leave in the areas, each area at its own length
  pub plan : (task : Task) (limit : ℕ) (entry left : PlanAreas) (totals : Totals)
      → outcome (accepted totals) left ≡ plan_of task limit entry → HoldsPlan task left
  pub run_plan : (task : Task) (w : WordLists) (left : Areas) → Ran task w left → HoldsPlan task left.plan
  pub run_values : (task : Task) (w : WordLists) (left : Areas) → Ran task w left
      → left.values ≡ padded (length left.values) (all_packed_in task w)
  -- what Count answers is the number of changes of the lane's own values, and of the machine's level from 1 to 2^32 - 1
  pub counts : (task : Task) (w : WordLists) (left : Areas) → Ran task w left → (n L : ℕ) → n < nets_in task → L < lanes
      → count_in left n L ≡ accepted (changes (lane_values task w L n))
  pub counts_machine : (task : Task) (w : WordLists) (left : Areas) → Ran task w left → (n L : ℕ) → n < nets_in task → L < lanes
      → count_in left n L ≡ accepted (changed_times (machine_in task w L n) last_time)

-- the areas of an accepted Plan, Run, fitted Run or Mark have the lengths that question 10 asks for
pub record Demand2Lengths : Type 0 where
  pub plan : (task : Task) (limit : ℕ) (entry left : PlanAreas) (totals : Totals)
      → outcome (accepted totals) left ≡ plan_of task limit entry → planner.areas_suit left ≡ true
  pub run : (task : Task) (w : WordLists) (left : Areas) → LeftByRun task w left → engine.areas_suit left ≡ true
  pub fitted : (task : Task) (w : WordLists) (left : Areas) → LeftByFitted task w left → just_fits task left ≡ true
  pub mark : (task : Task) (w : WordLists) (list : List Expectation) (v : Verdict) (left : Areas) → Marked task w list v left → engine.areas_suit left ≡ true

-- Document 01 adds: "No pattern bit enters a number, a plan area or these totals." Word lists of equal lengths give the same
-- answer of Run and of the fitted Run; of Mark the same refusal, or two acceptances; and the same plan areas. Values of equal
-- lengths give of Level and of Count the same refusal, or two acceptances
pub record Demand2Patterns : Type 0 where
  pub run : (task : Task) (limit : ℕ) (w w' : WordLists) (a : Areas) → lengths_of w ≡ lengths_of w'
      → ((run_of task limit w a).answer ≡ (run_of task limit w' a).answer) × ((run_of task limit w a).left.plan ≡ (run_of task limit w' a).left.plan)
  pub fitted : (task : Task) (limit : ℕ) (w w' : WordLists) (a : Areas) → lengths_of w ≡ lengths_of w'
      → ((fitted_of task limit w a).answer ≡ (fitted_of task limit w' a).answer) × ((fitted_of task limit w a).left.plan ≡ (fitted_of task limit w' a).left.plan)
  pub mark : (task : Task) (limit : ℕ) (w w' : WordLists) (a : Areas) (list : List Expectation) → lengths_of w ≡ lengths_of w'
      → SameRefusal (mark_of task limit w a list).answer (mark_of task limit w' a list).answer
      × ((mark_of task limit w a list).left.plan ≡ (mark_of task limit w' a list).left.plan)
  pub level : (times values values' : List ℕ) (L t : ℕ) → length values ≡ length values' → SameRefusal (level_of times values L t) (level_of times values' L t)
  pub count : (times values values' : List ℕ) (L : ℕ) → length values ≡ length values' → SameRefusal (count_of times values L) (count_of times values' L)

-- "and a marking passes exactly if every expectation is met at each time it covers."
pub record Demand2Marking : Type 0 where
  pub passes : (task : Task) (w : WordLists) (list : List Expectation) (v : Verdict) (left : Areas) → Marked task w list v left
      → (v ≡ all_met → Every (Met left) list) × (Every (Met left) list → v ≡ all_met)
  -- the levels are the machine's
  pub passes_machine : (task : Task) (w : WordLists) (list : List Expectation) (v : Verdict) (left : Areas) → Marked task w list v left
      → (v ≡ all_met → Every (MetByMachine task w) list) × (Every (MetByMachine task w) list → v ≡ all_met)
  -- a marking that does not pass names the first expectation that is not met, and the frame that breaks it
  pub fails : (task : Task) (w : WordLists) (list : List Expectation) (i k : ℕ) (left : Areas)
      → Marked task w list (place i k) left → Place left list i k

-- ---- demand 3

-- "After whatever accepted run, on whatever net, in whichever of the 64 lanes and at whatever point in time from 0 to 65,535
-- you look, the level is that of the time-by-time machine in document 01, run for that lane's pattern pair by itself." Since
-- request P10 times reach to 2^32 - 1, 4,294,967,295
pub record Demand3Level : Type 0 where
  pub level : (task : Task) (w : WordLists) (left : Areas) → Ran task w left
      → (n L t : ℕ) → n < nets_in task → L < lanes → t ≤ last_time
      → level_in left n L t ≡ accepted (machine_in task w L n t)
  -- where one looks: the net's pair in the directory names 1 to 64 frames, which lie within the areas
  pub parts : (task : Task) (w : WordLists) (left : Areas) → Ran task w left → (n : ℕ) → n < nets_in task → NetParts left n

-- "From time 1 on it differs from the level one unit earlier only at a potential time of the net."
pub record Demand3Changes : Type 0 where
  pub changes : (task : Task) (w : WordLists) (left : Areas) → Ran task w left
      → (n L t : ℕ) → n < nets_in task → L < lanes → suc t ≤ last_time
      → level_in left n L (suc t) ≢ level_in left n L t → potential_in task n (suc t) ≡ true
  -- the net's entries in the times area are its potential times
  pub times : (task : Task) (w : WordLists) (left : Areas) → Ran task w left
      → (n t : ℕ) → n < nets_in task → among t (times_of left n) ≡ potential_in task n t

-- "Two accepted runs of one circuit whose words agree in a lane, whatever the other 63 lanes of each hold," and, since
-- request P8, whatever the limit of each was
pub record TwoRuns (L : ℕ) (task : Task) (w : WordLists) (left : Areas) (task' : Task) (w' : WordLists) (left' : Areas) : Type 0 where
  pub lane : L < lanes
  pub ran : Ran task w left
  pub ran' : Ran task' w' left'
  pub one_circuit : circuit_in task ≡ circuit_in task'
  -- request P5 adds: with equal change times; and each before word and each after word counts
  pub one_schedule : task.schedule ≡ task'.schedule
  pub words_agree : AgreeIn L (circuit_in task).inputs (length task.schedule.times) w w'

-- "are alike in that lane: the same level on every net at every time from 0 to 65,535, the same transition count of every net,
-- and the same marking." Since request P10 the times reach to 2^32 - 1. A marking is Mark's answer for a list that passes
-- question 12 and whose records all name that lane, under any limit that passes question 22 there; Mark is lent areas of the
-- right lengths and whatever content
pub record Demand3Alike : Type 0 where
  pub level : (L : ℕ) (task : Task) (w : WordLists) (left : Areas) (task' : Task) (w' : WordLists) (left' : Areas)
      → TwoRuns L task w left task' w' left'
      → (n t : ℕ) → n < nets_in task → t ≤ last_time → level_in left n L t ≡ level_in left' n L t
  pub count : (L : ℕ) (task : Task) (w : WordLists) (left : Areas) (task' : Task) (w' : WordLists) (left' : Areas)
      → TwoRuns L task w left task' w' left'
      → (n : ℕ) → n < nets_in task → count_in left n L ≡ count_in left' n L
  pub marking : (L : ℕ) (task : Task) (w : WordLists) (left : Areas) (task' : Task) (w' : WordLists) (left' : Areas)
      → TwoRuns L task w left task' w' left'
      → (list : List Expectation) → list_suits (nets_in task) list ≡ true → Every (λ (e : Expectation). e.lane ≡ L) list
      → (limit limit' : ℕ) → limited limit (frames_in task) ≡ true → limited limit' (frames_in task') ≡ true
      → (entry entry' : Areas) → engine.areas_suit entry ≡ true → engine.areas_suit entry' ≡ true
      → SameVerdict (mark_of task limit w entry list).answer (mark_of task' limit' w' entry' list).answer
  -- there is such a limit: 2,048
  pub some_limit : (task : Task) (w : WordLists) (left : Areas) → Ran task w left → limited most_total_frames (frames_in task) ≡ true

-- ---- all of them

pub record Demands : Type 0 where
  pub demand_1 : Demand1
  pub demand_2_method : Demand2Method
  pub demand_2_lengths : Demand2Lengths
  pub demand_2_patterns : Demand2Patterns
  pub demand_2_marking : Demand2Marking
  pub demand_3_level : Demand3Level
  pub demand_3_changes : Demand3Changes
  pub demand_3_alike : Demand3Alike
