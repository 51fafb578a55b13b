-- Frames, traces and machine net by net: each gate's entry was made from entries that no later gate alters.
-- Assumes nothing.
use Prim.Native.Nat.{ℕ, suc, ◌+◌, ◌-◌, ◌<◌}
use mathlib.Core.Path.{◌≡◌, refl, sym, ap, ◌∙◌, fun_ext}
use mathlib.Core.Bool.{Bool, false, cond}
use mathlib.Core.List.{List, [], ◌∷◌, map, zip_with, map-map}
use lib.ListN.{length, get_or}
use Rattle.method.specs.Kinds.{gate_fn}
use Rattle.method.specs.Circuit.{Circuit, gate_at, NoFeedback}
use Rattle.method.specs.Stimulus.{Stimuli, Moments, moments_of}
use Rattle.method.specs.Times.{gate_times}
use Rattle.method.specs.Indices.{fanin_index, inertial_indices}
use Rattle.method.specs.Frames.{Frames, input_frames, fanin_row, frames_with, gate_frames, no_frames, frames, frames_at}
use Rattle.method.specs.Filter.{filtered}
use Rattle.method.specs.Traces.{Trace, input_trace, raw_value, raw_values, gate_trace, no_trace, traces, trace_at}
use Rattle.method.specs.Machine.{Wave, input_wave, out_wave, gate_wave, no_wave, settled, waves, machine}
use Rattle.method.specs.Netwise.{fanin_times_of, raw_of, machine_raw, EveryNet, EveryGate, NetByNet}
use Rattle.method.proofs.Taking.{takes_range}
use Rattle.method.proofs.Nets.{nets_count, input_net, gate_net, any_net}
use Rattle.method.proofs.Lasting.{last_within, index_last}
use Rattle.method.proofs.Planned.{frames_are, times_start, inertial_length}
use Rattle.method.proofs.Tracing.{value_each}
use mathlib.Core.Logic.{inl, inr}
use native.Mathlib.Omega.{arith}
use Rattle.lists.proofs.Choices.{order}

-- ---- the frames of gate j

module _ (c : Circuit) (ok : NoFeedback c) (j : ℕ) (h : j < length c.gates) (m : Moments) where
  frames_of_lem : frames_at c m (c.inputs + j) ≡ frames_with (gate_at c j) (fanin_times_of c j m) (gate_times (gate_at c j).delay (fanin_times_of c j m))
  unfolding frames gate_frames
  frames_of_lem =
      gate_net no_frames gate_frames (λ (i : ℕ). input_frames (m i)) c ok j h
      ∙ rw (map-map (λ (f : Frames). f.times) (λ (n : ℕ). frames_at c m n) (gate_at c j).fanins)

  times_of_lem : (frames_at c m (c.inputs + j)).times ≡ gate_times (gate_at c j).delay (fanin_times_of c j m)
  unfolding frames_with
  times_of_lem = ap (λ (f : Frames). f.times) frames_of_lem

  -- with its own times for those that the gate's rule gives
  frames_with_lem : frames_at c m (c.inputs + j) ≡ frames_with (gate_at c j) (fanin_times_of c j m) (frames_at c m (c.inputs + j)).times
  frames_with_lem = frames_of_lem ∙ ap (frames_with (gate_at c j) (fanin_times_of c j m)) (sym times_of_lem)

  inertial_of_lem : (frames_at c m (c.inputs + j)).inertial ≡ inertial_indices (gate_at c j).inertial (frames_at c m (c.inputs + j)).times
  unfolding frames_with
  inertial_of_lem = ap (λ (f : Frames). f.inertial) frames_with_lem

  rows_of : (frames_at c m (c.inputs + j)).rows ≡ map (fanin_row (gate_at c j).delay (fanin_times_of c j m)) (frames_at c m (c.inputs + j)).times
  unfolding frames_with
  rows_of = ap (λ (f : Frames). f.rows) frames_with_lem

-- ---- its values in one lane

module _ (c : Circuit) (ok : NoFeedback c) (j : ℕ) (h : j < length c.gates) (s : Stimuli) where
  row_of : (t : ℕ) (fanins : List ℕ)
      → zip_with (λ (i : ℕ) (vs : List Bool). get_or vs i false) (fanin_row (gate_at c j).delay (map (λ (n : ℕ). (frames_at c (moments_of s) n).times) fanins) t) (map (λ (m : ℕ). (trace_at c s m).values) fanins)
      ≡ map (λ (m : ℕ). get_or (trace_at c s m).values (fanin_index (gate_at c j).delay (frames_at c (moments_of s) m).times t) false) fanins
  unfolding zip_with
  row_of t [] = refl
  row_of t (m ∷ ms) = ap (λ (l : List Bool). get_or (trace_at c s m).values (fanin_index (gate_at c j).delay (frames_at c (moments_of s) m).times t) false ∷ l) (row_of t ms)

  trace_of : trace_at c s (c.inputs + j) ≡ gate_trace (gate_at c j) (map (trace_at c s) (gate_at c j).fanins)
  unfolding traces
  trace_of = gate_net no_trace gate_trace (λ (i : ℕ). input_trace (s i)) c ok j h

  -- its raw values filtered: of its fan-ins' values, by the rows of its own net
  abbrev own : Frames
  own = frames_at c (moments_of s) (c.inputs + j)

  abbrev raw_by : List (List ℕ) → List Bool
  raw_by rows = raw_values (gate_at c j) (λ (m : ℕ). (trace_at c s m).values) rows

  pub values_by : (trace_at c s (c.inputs + j)).values ≡ filtered own.inertial (raw_by own.rows)
  unfolding gate_trace
  values_by =
      ap (λ (n : Trace). n.values) trace_of
      ∙ rw (map-map (λ (n : Trace). n.values) (trace_at c s) (gate_at c j).fanins)
      (ap (λ (f : Frames). filtered f.inertial (raw_by f.rows)) (sym (ap (λ (n : Trace). n.frames) trace_of) ∙ sym (frames_are c s (c.inputs + j))))

  -- frame by frame
  raw_by_lem : raw_by own.rows ≡ map (raw_of c j s) own.times
  unfolding raw_value
  raw_by_lem =
      let raw : List ℕ → Bool = raw_value (gate_at c j).kind (map (λ (m : ℕ). (trace_at c s m).values) (gate_at c j).fanins) in
      ap (map raw) (rows_of c ok j h (moments_of s))
      ∙ map-map raw (fanin_row (gate_at c j).delay (fanin_times_of c j (moments_of s))) own.times
      ∙ ap (λ (r : ℕ → Bool). map r own.times) (fun_ext (λ t. ap (gate_fn (gate_at c j).kind) (row_of t (gate_at c j).fanins)))

  values_of : (trace_at c s (c.inputs + j)).values ≡ filtered own.inertial (map (raw_of c j s) own.times)
  values_of = values_by ∙ ap (filtered own.inertial) raw_by_lem

  -- ---- the machine

  pub wave_of_lem : machine c s (c.inputs + j) ≡ out_wave (gate_at c j).inertial (machine_raw c j s)
  unfolding waves
  wave_of_lem =
      gate_net no_wave gate_wave (λ (i : ℕ). input_wave (s i)) c ok j h
      ∙ ap (out_wave (gate_at c j).inertial)
      (fun_ext (λ t. ap (gate_fn (gate_at c j).kind) (map-map (λ (out : Wave). out (t - (gate_at c j).delay)) (machine c s) (gate_at c j).fanins)))

  first_of : machine c s (c.inputs + j) 0 ≡ machine_raw c j s 0
  first_of = ap (λ (w : Wave). w 0) wave_of_lem

  later_of : (t : ℕ) → machine c s (c.inputs + j) (suc t)
      ≡ cond (settled (gate_at c j).inertial (machine_raw c j s) (suc t)) (machine_raw c j s (suc t)) (machine c s (c.inputs + j) t)
  later_of t =
      ap (λ (w : Wave). w (suc t)) wave_of_lem
      ∙ ap (λ (b : Bool). cond (settled (gate_at c j).inertial (machine_raw c j s) (suc t)) (machine_raw c j s (suc t)) b) (sym (ap (λ (w : Wave). w t) wave_of_lem))

-- ---- the records

module _ (c : Circuit) where
  pub input_own : (m : Moments) (i : ℕ) → i < c.inputs → frames_at c m i ≡ input_frames (m i)
  unfolding frames
  input_own m i h = input_net no_frames gate_frames (λ (i : ℕ). input_frames (m i)) c i h

  input_wave_lem : (s : Stimuli) (i : ℕ) → i < c.inputs → machine c s i ≡ input_wave (s i)
  unfolding waves
  input_wave_lem s i h = input_net no_wave gate_wave (λ (i : ℕ). input_wave (s i)) c i h

  every_net : EveryNet c
  unfolding frames traces waves
  every_net =
      record {
        frames_count = λ m. nets_count no_frames gate_frames (λ (i : ℕ). input_frames (m i)) c;
        traces_count = λ s. nets_count no_trace gate_trace (λ (i : ℕ). input_trace (s i)) c;
        waves_count = λ s. nets_count no_wave gate_wave (λ (i : ℕ). input_wave (s i)) c;
        input_times_lem = λ m i h. ap (λ (f : Frames). f.times) (input_own m i h);
        input_inertial = λ m i h. ap (λ (f : Frames). f.inertial) (input_own m i h);
        input_rows = λ m i h. ap (λ (f : Frames). f.rows) (input_own m i h);
        input_values = λ s i h. ap (λ (n : Trace). n.values) (input_net no_trace gate_trace (λ (i : ℕ). input_trace (s i)) c i h);
        input_level = λ s i t h. ap (λ (w : Wave). w t) (input_wave_lem s i h);
        value_each = value_each c;
        index_within = λ m o d n t. rw (index_last d (frames_at c m n).times t (times_start c m o n)) (last_within (frames_at c m n).times (t - d) (times_start c m o n));
      }

  every_gate : NoFeedback c → EveryGate c
  unfolding frames traces waves
  every_gate ok =
      record {
        gate_times_lem = λ m j h. times_of_lem c ok j h m;
        gate_inertial = λ m j h. inertial_of_lem c ok j h m;
        gate_rows = λ m j h. rows_of c ok j h m;
        gate_values = λ s j h. values_of c ok j h s;
        gate_first = λ s j h. first_of c ok j h s;
        gate_later = λ s j t h. later_of c ok j h s t;
        any_frames = λ m. any_net no_frames gate_frames (λ (i : ℕ). input_frames (m i)) c ok;
        any_trace = λ s. any_net no_trace gate_trace (λ (i : ℕ). input_trace (s i)) c ok;
        any_wave = λ s. any_net no_wave gate_wave (λ (i : ℕ). input_wave (s i)) c ok;
        some_fanin = λ j e. (takes_range (gate_at c j).kind (length (gate_at c j).fanins) e).0;
      }

pub net_by_net : NetByNet
net_by_net c = (every_net c, every_gate c)

-- an inertial index a frame
pub indices_each : (c : Circuit) → NoFeedback c → (m : Moments) (n : ℕ) → n < length (frames c m) → length (frames_at c m n).inertial ≡ length (frames_at c m n).times
indices_each c ok m n h =
    elim (order c.inputs n) [
      | inl l ↦ (let q : n ≡ c.inputs + (n - c.inputs) = omega arith in
          let k : n - c.inputs < length c.gates = omega (arith, (every_net c).frames_count m) in
          rw q (ap length ((every_gate c ok).gate_inertial m (n - c.inputs) k) ∙ inertial_length (gate_at c (n - c.inputs)).inertial (frames_at c m (c.inputs + (n - c.inputs))).times))
      | inr l ↦ rw ((every_net c).input_inertial m n l, (every_net c).input_times_lem m n l) (inertial_length 0 (0 ∷ m n))
    ]
