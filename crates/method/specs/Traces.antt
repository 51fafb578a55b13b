-- The values of every net's frames in one lane, decided by that lane's own bits.
use Rattle.std.specs.Prelude.{ℕ, Bool, false, get_or}
use mathlib.Core.List.{List, [], ◌∷◌, map, zip_with}
use Rattle.method.specs.declared.Kind.{Kind}
use Rattle.method.specs.Kinds.{gate_fn}
use Rattle.method.specs.Circuit.{Gate, Circuit}
use Rattle.method.specs.Nets.{nets}
use Rattle.method.specs.Stimulus.{Change, Stimulus, Stimuli, change_times}
use Rattle.method.specs.Frames.{Frames, input_frames, gate_frames, no_frames}
use Rattle.method.specs.Filter.{filtered}

-- one net in one lane: its frames, and a value for each
pub record Trace : Type 0 where
  pub frames : Frames
  pub values : List Bool

-- the before-bit and the bit of each change, not filtered
abbrev pub input_trace : Stimulus → Trace
input_trace s = record { frames = input_frames (change_times s); values = s.before ∷ map (λ (c : Change). c.bit) s.changes }

-- the raw value of a frame: the gate's function of its fan-ins' values at the indexed frames
unfoldable pub raw_value : Kind → List (List Bool) → List ℕ → Bool
raw_value k fanin_values row = gate_fn k (zip_with (λ (i : ℕ) (vs : List Bool). get_or vs i false) row fanin_values)

-- the raw values of a gate whose frames have these rows; values_of gives each net's values
abbrev pub raw_values : Gate → (ℕ → List Bool) → List (List ℕ) → List Bool
raw_values g values_of rows = map (raw_value g.kind (map values_of g.fanins)) rows

-- a gate, from the traces of its fan-ins: its raw values, filtered
unfoldable pub gate_trace : Gate → List Trace → Trace
gate_trace g fanins =
    let own : Frames = gate_frames g (map (λ (f : Trace). f.frames) fanins) in
    let raw : List Bool = map (raw_value g.kind (map (λ (f : Trace). f.values) fanins)) own.rows in
    record { frames = own; values = filtered own.inertial raw }

-- stands for a net that does not exist
abbrev pub no_trace : Trace
no_trace = record { frames = no_frames; values = false ∷ [] }

-- all nets of a circuit
unfoldable pub traces : Circuit → Stimuli → List Trace
traces c s = nets no_trace gate_trace (λ (i : ℕ). input_trace (s i)) c

-- net n
abbrev pub trace_at : Circuit → Stimuli → ℕ → Trace
trace_at c s n = get_or (traces c s) n no_trace
