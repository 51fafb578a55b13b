-- The frames of every net, as Plan lays them out. They come from the circuit and the inputs' change times alone.
use Rattle.std.specs.Prelude.{ℕ, List, [], ◌∷◌, map, get_or}
use Rattle.method.specs.Circuit.{Gate, Circuit}
use Rattle.method.specs.Nets.{nets}
use Rattle.method.specs.Stimulus.{Moments}
use Rattle.method.specs.Times.{input_times, gate_times}
use Rattle.method.specs.Indices.{fanin_index, inertial_indices}

-- of one net, frame by frame: its time, its inertial index, and its row of fan-in indices, one a fan-in
pub record Frames : Type 0 where
  pub times : List ℕ
  pub inertial : List ℕ
  pub rows : List (List ℕ)

-- inputs count as di = 0 and have no fan-ins
abbrev pub input_frames : List ℕ → Frames
input_frames changes = record { times = input_times changes; inertial = inertial_indices 0 (input_times changes); rows = [] }

-- the fan-in indices at a frame of time t
abbrev pub fanin_row : ℕ → List (List ℕ) → ℕ → List ℕ
fanin_row d fanin_times t = map (λ (ss : List ℕ). fanin_index d ss t) fanin_times

-- a gate whose fan-ins have these times, and which has itself the times ts
unfoldable pub frames_with : Gate → List (List ℕ) → List ℕ → Frames
frames_with g fanin_times ts =
    record { times = ts; inertial = inertial_indices g.inertial ts; rows = map (fanin_row g.delay fanin_times) ts }

-- a gate, from the frames of its fan-ins
unfoldable pub gate_frames : Gate → List Frames → Frames
gate_frames g fanins =
    let fanin_times : List (List ℕ) = map (λ (f : Frames). f.times) fanins in
    frames_with g fanin_times (gate_times g.delay fanin_times)

-- stands for a net that does not exist
abbrev pub no_frames : Frames
no_frames = record { times = 0 ∷ []; inertial = 0 ∷ []; rows = [] }

-- all nets of a circuit
unfoldable pub frames : Circuit → Moments → List Frames
frames c m = nets no_frames gate_frames (λ (i : ℕ). input_frames (m i)) c

-- net n
abbrev pub frames_at : Circuit → Moments → ℕ → Frames
frames_at c m n = get_or (frames c m) n no_frames
