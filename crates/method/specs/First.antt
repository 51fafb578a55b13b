-- The inputs and the first gates of a circuit, for whoever lays out the frames gate by gate. A reader of the promises may
-- skip this file.
use Rattle.std.specs.Prelude.{ℕ, ◌*◌, ◌≤◌, List, ◌≡◌, length, take}
use Rattle.lists.specs.Areas.{padded}
use Rattle.lists.specs.Tables.{tabulate}
use Rattle.method.specs.Circuit.{Circuit}
use Rattle.method.specs.Stimulus.{Moments}
use Rattle.method.specs.Frames.{Frames, input_frames}
use Rattle.method.specs.Areas.{Areas}
use Rattle.method.specs.Layout.{all_times, all_fanins, pairs}

-- the inputs and the first j gates
abbrev pub first_gates : ℕ → Circuit → Circuit
first_gates j c = record { inputs = c.inputs; gates = take j c.gates }

-- the frames of n inputs
abbrev pub inputs_only : Moments → ℕ → List Frames
inputs_only m n = tabulate n (λ (i : ℕ). input_frames (m i))

-- the areas are long enough for the frames of these nets
pub record Room (fs : List Frames) (a : Areas) : Type 0 where
  pub directory : 2 * length fs ≤ length a.directory
  pub times : length (all_times fs) ≤ length a.times
  pub inertial : length (all_times fs) ≤ length a.inertial
  pub fanins : length (all_fanins fs) ≤ length a.fanins

-- n inputs are in the directory and in the times
pub record Inputs (m : Moments) (d t : List ℕ) (n : ℕ) : Type 0 where
  pub pairs_are : d ≡ padded (length d) (pairs 0 (inputs_only m n))
  pub times_are : t ≡ padded (length t) (all_times (inputs_only m n))
