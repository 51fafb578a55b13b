-- What the functions of this crate ask for and promise, gate by gate.
use Rattle.std.specs.Prelude.{ℕ, ◌+◌, ◌-◌, ◌*◌, ◌≤◌, ◌≡◌, true, false, List, length, Option, Some, None}
use Rattle.lists.specs.Ladder.{accepted}
use Rattle.method.specs.Frames.{Frames, frames}
use Rattle.method.specs.Stimulus.{Moments}
use Rattle.method.specs.Changes.{Schedule, changes_suit}
use Rattle.method.specs.First.{first_gates, inputs_only, Room, Inputs}
use Rattle.method.specs.Areas.{Areas, all_cleared}
use Rattle.method.specs.Layout.{laid}
use Rattle.method.specs.Limits.{most_net_frames, most_total_frames}
use Rattle.method.specs.Kinds.{most_fanins}
use Rattle.method.specs.Sums.{fits, totals_of}
use Rattle.method.specs.declared.Totals.{Totals}
use Rattle.circuit.specs.Limits.{most_inputs}
use Rattle.circuit.specs.File.{inputs_of, gates_of}
use Rattle.circuit.specs.Questions.{read_of}
use Rattle.circuit.specs.Task.{Task, circuit_in, moments_in, frames_in}
use Rattle.gathering.specs.Steps.{Put}

-- the frames of the inputs and the first j gates
abbrev pub frames_of : Task → ℕ → List Frames
frames_of task j = frames (first_gates j (circuit_in task)) (moments_in task)

-- an accepted file, change times that suit it, and areas that are long enough for as many of its gates as have not too many
-- frames
pub record Given (task : Task) (a : Areas) : Type 0 where
  pub read : read_of task.file ≡ accepted (record { inputs = inputs_of task.file; gates = gates_of task.file })
  pub suits : changes_suit (inputs_of task.file) task.schedule ≡ true
  pub room : (j : ℕ) → j ≤ gates_of task.file → fits (frames_of task j) ≡ true → Room (frames_of task j) a

-- change times that suit as many inputs as there are counts, and areas that are long enough for the inputs' frames
pub record Open (h : Schedule) (d t : List ℕ) : Type 0 where
  pub suits : changes_suit (length h.counts) h ≡ true
  pub few : length h.counts ≤ most_inputs
  pub directory : 2 * length h.counts ≤ length d
  pub times : length h.counts + length h.times ≤ length t

-- n inputs are planned, in areas of zeros
pub record Begun (m : Moments) (n : ℕ) (d t : List ℕ) (totals : Totals) : Type 0 where
  pub written : Inputs m d t n
  pub totals_are : totals ≡ totals_of (inputs_only m n)

-- the inputs and j gates are planned
pub record Going (task : Task) (j : ℕ) (a : Areas) (t : Totals) : Type 0 where
  pub is : a ≡ laid (frames_of task j) a
  pub totals : t ≡ totals_of (frames_of task j)
  pub fit : fits (frames_of task j) ≡ true

-- the times ts of a gate are counted against 64, and against what is left of 2,048 behind the first frames: r is their number,
-- and they stand at the front of the row; or there is none, and they are too many
pub record Counted (row ts : List ℕ) (first : ℕ) (r : Option ℕ) : Type 0 where
  pub front : (n : ℕ) → r ≡ Some n → Put row ts (1 + most_fanins * most_net_frames) n
  pub few : (n : ℕ) → r ≡ Some n → n ≤ most_net_frames
  pub left : (n : ℕ) → r ≡ Some n → n ≤ most_total_frames - first
  pub over : r ≡ None → length ts ≤ most_net_frames → length ts ≤ most_total_frames - first → ⊥

-- after n gates were tried: they are planned, or there are too many frames
pub record Reached (task : Task) (n : ℕ) (a : Areas) (r : Option Totals) : Type 0 where
  pub planned : (t : Totals) → r ≡ Some t → Going task n a t
  pub stopped : r ≡ None → fits (frames_of task n) ≡ false

-- all gates were tried: their frames fill the areas, or the areas are all zeros
pub record Filled (task : Task) (a a' : Areas) (r : Option Totals) : Type 0 where
  pub fit : (t : Totals) → r ≡ Some t → fits (frames_in task) ≡ true
  pub totals : (t : Totals) → r ≡ Some t → t ≡ totals_of (frames_in task)
  pub filled : (t : Totals) → r ≡ Some t → a' ≡ laid (frames_in task) a
  pub stopped : r ≡ None → fits (frames_in task) ≡ false
  pub emptied : r ≡ None → a' ≡ all_cleared a
