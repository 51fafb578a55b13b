-- The pulse law, after every accepted run: what request P9 asks for. It is said of the areas as the run left them, and so of what
-- Level and Count answer from them. `pulse_law` in `proofs/Pulses` proves it.
use Rattle.std.specs.Prelude.{ℕ, suc, ◌+◌, ◌≤◌, ◌<◌, ◌≡◌, ◌≢◌, Bool, List, map, length}
use Rattle.lists.specs.Ladder.{accepted}
use Rattle.method.specs.Circuit.{gate_at}
use Rattle.method.specs.Traces.{raw_values}
use Rattle.method.specs.Look.{changes}
use Rattle.method.specs.Layout.{part_of}
use Rattle.method.specs.Rows.{rows_in}
use Rattle.method.specs.Words.{lanes, lane}
use Rattle.method.specs.WordLists.{WordLists}
use Rattle.method.specs.Pulses.{Pulses}
use Rattle.circuit.specs.Task.{Task, circuit_in}
use Rattle.words.specs.Filtered.{filtered_words}
use Rattle.engine.specs.Areas.{Areas}
use Rattle.engine.specs.After.{times_of, values_of, level_in, count_in, last_time}
use Rattle.demands.specs.Runs.{Ran}

-- gate j drives net I + j; its inertial delay di stands in the file
abbrev pub net_of : Task → ℕ → ℕ
net_of task j = (circuit_in task).inputs + j

abbrev pub inertial_delay : Task → ℕ → ℕ
inertial_delay task j = (gate_at (circuit_in task) j).inertial

-- net n's part of the inertial area, and in lane L its bits in the values area, frame by frame
abbrev pub inertial_of : Areas → ℕ → List ℕ
inertial_of a n = part_of a.plan.directory a.plan.inertial n

abbrev pub bits_of : Areas → ℕ → ℕ → List Bool
bits_of a L n = map (lane L) (values_of a n)

-- gate j's own raw values in lane L, frame by frame: its function of the bits that its fan-ins have in the values area, at the
-- frames that its rows in the fan-in area name
abbrev pub raw_in : Task → Areas → ℕ → ℕ → List Bool
raw_in task a L j = raw_values (gate_at (circuit_in task) j) (bits_of a L) (rows_in (circuit_in task) a.plan j)

-- "The textbook says that a gate passes no pulse as short as its inertial delay, and tutors want that established for every
-- accepted run."
pub record PulseLaw : Type 0 where
  -- on every gate's net and in every lane: the values in the areas are the gate's raw values, filtered; two kept changes are
  -- more than di apart; filtering again alters nothing; and the raw values change at least as often
  pub pulses : (task : Task) (w : WordLists) (left : Areas) → Ran task w left
      → (j L : ℕ) → j < length (circuit_in task).gates → L < lanes
      → Pulses (inertial_delay task j) (times_of left (net_of task j)) (inertial_of left (net_of task j)) (raw_in task left L j) (bits_of left L (net_of task j))
  -- by Level: two times at which the level differs from that one unit earlier are more than di apart
  pub levels_apart : (task : Task) (w : WordLists) (left : Areas) → Ran task w left
      → (j L t u : ℕ) → j < length (circuit_in task).gates → L < lanes → t < u → suc u ≤ last_time
      → level_in left (net_of task j) L (suc t) ≢ level_in left (net_of task j) L t
      → level_in left (net_of task j) L (suc u) ≢ level_in left (net_of task j) L u
      → suc t + inertial_delay task j < suc u
  -- by the filter on words: each word of the net has its inertial index, and handed both the filter leaves the words as they
  -- are, all 64 lanes
  pub index_each : (task : Task) (w : WordLists) (left : Areas) → Ran task w left
      → (j : ℕ) → j < length (circuit_in task).gates
      → length (inertial_of left (net_of task j)) ≡ length (values_of left (net_of task j))
  pub filter_alters_nothing : (task : Task) (w : WordLists) (left : Areas) → Ran task w left
      → (j : ℕ) → j < length (circuit_in task).gates
      → filtered_words (inertial_of left (net_of task j)) (values_of left (net_of task j)) ≡ values_of left (net_of task j)
  -- by Count: the number that it answers is at most that of the changes of the raw values
  pub count_most : (task : Task) (w : WordLists) (left : Areas) → Ran task w left
      → (j L count : ℕ) → j < length (circuit_in task).gates → L < lanes → count_in left (net_of task j) L ≡ accepted count
      → count ≤ changes (raw_in task left L j)
