-- What an accepted file gives the plan: the frames of its first gates.
-- Assumes nothing.
use Prim.Native.Nat.{ℕ, ◌+◌, ◌*◌, ◌≤◌, ◌<◌}
use mathlib.Core.Path.{◌≡◌, ◌∙◌}
use mathlib.Core.Bool.{true}
use mathlib.Core.List.{[], ◌∷◌, ◌++◌}
use native.Mathlib.Omega.{arith}
use native.Mathlib.Numerals.{add-one}
use lib.ListN.{length, get_or}
use lib.Seq.{length-take-le}
use Rattle.lists.specs.Ladder.{accepted}
use Rattle.method.specs.Circuit.{Circuit}
use Rattle.method.specs.Stimulus.{Moments}
use Rattle.method.specs.Changes.{last_change, changes_suit}
use Rattle.method.specs.Times.{among}
use Rattle.method.specs.Frames.{frames_at}
use Rattle.method.specs.First.{first_gates}
use Rattle.method.specs.Kinds.{most_fanins}
use Rattle.method.specs.Limits.{most_total_frames}
use Rattle.method.specs.Areas.{Areas}
use Rattle.method.specs.Layout.{all_times}
use Rattle.method.proofs.Fitting.{fits_total}
use Rattle.method.proofs.Planned.{ends_at}
use Rattle.circuit.specs.Limits.{most_inputs, most_gates, most_time, Within}
use Rattle.circuit.specs.File.{inputs_of, gates_of}
use Rattle.circuit.specs.Questions.{read_of}
use Rattle.circuit.specs.Task.{Task, circuit_in, moments_in}
use Rattle.circuit.proofs.Bounded.{time_low, within_first}
use Rattle.circuit.proofs.Parts.{gates_length, circuit_inputs, few, within, gate_entries}
use Rattle.layout.specs.Steps.{frames_of, Given}
use Rattle.method.proofs.Prefix.{next_frames, frames_next, frames_count, Sized, sized}

module _ (task : Task) (e : read_of task.file ≡ accepted (record { inputs = inputs_of task.file; gates = gates_of task.file })) where
  pub nets_sized : (j : ℕ) → j ≤ gates_of task.file → Sized (frames_of task j)
  nets_sized j h =
      sized (circuit_in task) (moments_in task)
      (λ k l. let m : k < gates_of task.file = omega (arith, gates_length task.file) in omega (arith, gate_entries task.file e k m, (within task.file e k m).entries_most))
      j (omega (arith, gates_length task.file))

  pub nets_count : (j : ℕ) → j ≤ gates_of task.file → length (frames_of task j) ≡ inputs_of task.file + j
  nets_count j h = frames_count (circuit_in task) (moments_in task) j (omega (arith, gates_length task.file)) ∙ rw (circuit_inputs task.file)

  pub nets_next : (j : ℕ) → j < gates_of task.file → frames_of task (j + 1) ≡ frames_of task j ++ (next_frames (circuit_in task) (moments_in task) j ∷ [])
  nets_next j h = rw (add-one j) (frames_next (circuit_in task) (moments_in task) j (omega (arith, gates_length task.file)))

-- areas that are long enough for any circuit within the limits are long enough for this one
pub given_long : (task : Task) (a : Areas) → read_of task.file ≡ accepted (record { inputs = inputs_of task.file; gates = gates_of task.file }) → changes_suit (inputs_of task.file) task.schedule ≡ true
    → 2 * (most_inputs + most_gates) ≤ length a.directory → most_total_frames ≤ length a.times → most_total_frames ≤ length a.inertial → most_fanins * most_total_frames ≤ length a.fanins → Given task a
given_long task a e s d t i f =
    let n = few task.file e in
    record {
      read = e;
      suits = s;
      room = λ j h fit.
          let total : length (all_times (frames_of task j)) ≤ most_total_frames = fits_total (frames_of task j) fit in
          record {
            directory = omega (arith, nets_count task e j h);
            times = omega arith;
            inertial = omega arith;
            fanins = omega (arith, (nets_sized task e j h).wide);
          };
    }

-- how late the frames of the first gates of a circuit within the limits get
pub frames_early : (c : Circuit) → Within c → (m : Moments) → ((i t : ℕ) → among t (m i) ≡ true → t ≤ last_change)
    → (j : ℕ) → j ≤ length c.gates → (n : ℕ) → n < c.inputs + j → (k : ℕ) → get_or (frames_at (first_gates j c) m n).times k 0 ≤ most_time
frames_early c w m early j h n l =
    ends_at most_time (frames_at (first_gates j c) m n).times
    (λ t e. time_low (first_gates j c) (within_first c j h w) m early n t (rw (length-take-le j c.gates h) l) e)
