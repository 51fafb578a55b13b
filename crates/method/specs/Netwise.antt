-- The frames, the traces and the machine as equations by net number over the finished nets of a circuit.
-- So nothing hides behind `nets`, nor behind what stands for a net or a frame that does not exist.
-- `net_by_net` in `proofs/Netwise` proves it.
use Rattle.std.specs.Prelude.{ℕ, suc, ◌+◌, ◌-◌, ◌<◌, ◌≡◌, Bool, true, false, cond, List, [], ◌∷◌, map, length, get_or}
use Rattle.method.specs.Kinds.{gate_fn, takes}
use Rattle.method.specs.Circuit.{Circuit, gate_at, NoFeedback}
use Rattle.method.specs.Nets.{nets}
use Rattle.method.specs.Stimulus.{Change, Stimuli, Moments, moments_of, Ordered}
use Rattle.method.specs.Times.{gate_times}
use Rattle.method.specs.Indices.{fanin_index, inertial_indices}
use Rattle.method.specs.Frames.{Frames, input_frames, gate_frames, frames, frames_at}
use Rattle.method.specs.Filter.{filtered}
use Rattle.method.specs.Traces.{Trace, input_trace, gate_trace, traces, trace_at}
use Rattle.method.specs.Machine.{Wave, latest_bit, input_wave, gate_wave, settled, waves, machine}

-- ---- what the equations of gate j are about

module _ (c : Circuit) (j : ℕ) where
  -- the potential times of its fan-ins
  abbrev pub fanin_times_of : Moments → List (List ℕ)
  fanin_times_of m = map (λ (n : ℕ). (frames_at c m n).times) (gate_at c j).fanins

  module _ (s : Stimuli) where
    -- its raw value at a frame of time t: the function of its fan-ins' values at the indexed frames
    abbrev pub raw_of : ℕ → Bool
    raw_of t =
        gate_fn (gate_at c j).kind
        (map (λ (n : ℕ). get_or (trace_at c s n).values (fanin_index (gate_at c j).delay (frames_at c (moments_of s) n).times t) false) (gate_at c j).fanins)

    -- its raw(t) in the machine: the function of its fan-ins' out at t - d
    abbrev pub machine_raw : Wave
    machine_raw t = gate_fn (gate_at c j).kind (map (λ (m : ℕ). machine c s m (t - (gate_at c j).delay)) (gate_at c j).fanins)

-- ---- the nets: I inputs and G gates, and gate j drives net I + j

pub record EveryNet (c : Circuit) : Type 0 where
  -- there are exactly I + G nets
  pub frames_count : (m : Moments) → length (frames c m) ≡ c.inputs + length c.gates
  pub traces_count : (s : Stimuli) → length (traces c s) ≡ c.inputs + length c.gates
  pub waves_count : (s : Stimuli) → length (waves c s) ≡ c.inputs + length c.gates
  -- input i: its frames, its values, and its out in the machine
  pub input_times_lem : (m : Moments) (i : ℕ) → i < c.inputs → (frames_at c m i).times ≡ 0 ∷ m i
  pub input_inertial : (m : Moments) (i : ℕ) → i < c.inputs → (frames_at c m i).inertial ≡ inertial_indices 0 (0 ∷ m i)
  pub input_rows : (m : Moments) (i : ℕ) → i < c.inputs → (frames_at c m i).rows ≡ []
  pub input_values : (s : Stimuli) (i : ℕ) → i < c.inputs → (trace_at c s i).values ≡ (s i).before ∷ map (λ (x : Change). x.bit) (s i).changes
  pub input_level : (s : Stimuli) (i t : ℕ) → i < c.inputs → machine c s i t ≡ latest_bit (s i).before (s i).changes t
  -- each frame of a net has one value, and a fan-in index names a frame of the fan-in
  pub value_each : (s : Stimuli) (n : ℕ) → length (trace_at c s n).values ≡ length (frames_at c (moments_of s) n).times
  pub index_within : (m : Moments) → Ordered m → (d n t : ℕ) → fanin_index d (frames_at c m n).times t < length (frames_at c m n).times

-- of a circuit without feedback
pub record EveryGate (c : Circuit) : Type 0 where
  -- the frames of gate j: times, inertial indices, fan-in rows
  pub gate_times_lem : (m : Moments) (j : ℕ) → j < length c.gates → (frames_at c m (c.inputs + j)).times ≡ gate_times (gate_at c j).delay (fanin_times_of c j m)
  pub gate_inertial : (m : Moments) (j : ℕ) → j < length c.gates
      → (frames_at c m (c.inputs + j)).inertial ≡ inertial_indices (gate_at c j).inertial (frames_at c m (c.inputs + j)).times
  pub gate_rows : (m : Moments) (j : ℕ) → j < length c.gates
      → (frames_at c m (c.inputs + j)).rows
      ≡ map (λ (t : ℕ). map (λ (ss : List ℕ). fanin_index (gate_at c j).delay ss t) (fanin_times_of c j m)) (frames_at c m (c.inputs + j)).times
  -- its values: its raw values, filtered
  pub gate_values : (s : Stimuli) (j : ℕ) → j < length c.gates
      → (trace_at c s (c.inputs + j)).values
      ≡ filtered (frames_at c (moments_of s) (c.inputs + j)).inertial (map (raw_of c j s) (frames_at c (moments_of s) (c.inputs + j)).times)
  -- the machine's out(0) = raw(0), and out(t) = raw(t) if raw is equal at every time from t to t + di, else out(t - 1)
  pub gate_first : (s : Stimuli) (j : ℕ) → j < length c.gates → machine c s (c.inputs + j) 0 ≡ machine_raw c j s 0
  pub gate_later : (s : Stimuli) (j t : ℕ) → j < length c.gates
      → machine c s (c.inputs + j) (suc t)
      ≡ cond (settled (gate_at c j).inertial (machine_raw c j s) (suc t)) (machine_raw c j s (suc t)) (machine c s (c.inputs + j) t)
  -- whatever stands for a net that does not exist, the nets are the same
  pub any_frames : (m : Moments) (other : Frames) → nets other gate_frames (λ (i : ℕ). input_frames (m i)) c ≡ frames c m
  pub any_trace : (s : Stimuli) (other : Trace) → nets other gate_trace (λ (i : ℕ). input_trace (s i)) c ≡ traces c s
  pub any_wave : (s : Stimuli) (other : Wave) → nets other gate_wave (λ (i : ℕ). input_wave (s i)) c ≡ waves c s
  -- where the kind takes as many fan-ins as there are, there is the first one, which BUF and NOT read
  pub some_fanin : (j : ℕ) → takes (gate_at c j).kind (length (gate_at c j).fanins) ≡ true → 0 < length (gate_at c j).fanins

abbrev pub NetByNet : Type 0
NetByNet = (c : Circuit) → EveryNet c × (NoFeedback c → EveryGate c)
