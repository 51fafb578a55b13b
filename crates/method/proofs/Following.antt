-- The relation of the main theorem: a net's trace follows a wave if its values are the wave's at the net's times and the wave
-- changes nowhere else. Inputs follow theirs, a gate follows its own if its fan-ins follow theirs, so all nets do.
-- Assumes nothing.
use Prim.Native.Nat.{ℕ, suc, ◌+◌, ◌-◌, zero-le}
use mathlib.Core.Path.{◌≡◌, refl, sym, ap, ap₂, ◌∙◌, fun_ext}
use mathlib.Core.Logic.{inl, inr}
use mathlib.Core.Bool.{Bool, true, false}
use mathlib.Core.List.{List, ◌∷◌, map, flat_map, zip_with, map-map, Forall₂}
use native.Mathlib.Omega.{arith}
use lib.Dec.{eqb}
use lib.ListN.{get_or}
use Rattle.lists.proofs.Choices.{order, or_left, or_right}
use Rattle.method.specs.Kinds.{gate_fn}
use Rattle.method.specs.Circuit.{Gate, Circuit}
use Rattle.method.specs.Stimulus.{Stimulus, Stimuli, change_times, moments_of, Ordered}
use Rattle.method.specs.Times.{rise_above, shifted, rising, gate_times, among}
use Rattle.method.specs.Indices.{fanin_index, inertial_indices}
use Rattle.method.specs.Frames.{Frames, fanin_row, frames_with, gate_frames}
use Rattle.method.specs.Filter.{filtered}
use Rattle.method.specs.Traces.{Trace, input_trace, raw_value, gate_trace, no_trace, traces, trace_at}
use Rattle.method.specs.Look.{level}
use Rattle.method.specs.Machine.{Wave, input_wave, raw_wave, out_wave, gate_wave, no_wave, waves, machine}
use Rattle.method.proofs.Nets.{nets_rel}
use Rattle.method.proofs.Rising.{Rise, Starts, test_rise, rising_among, among_some, all_shifted_among, gate_times_start}
use Rattle.method.proofs.Lasting.{index_last}
use Rattle.method.proofs.Waves.{Steady, level_sample}
use Rattle.method.proofs.Filtering.{out_steady, filter_samples}
use Rattle.method.proofs.Inputs.{input_steady, input_samples}

pub record Follows (n : Trace) (w : Wave) : Type 0 where
  pub starts : Starts n.frames.times
  pub steady : Steady 0 n.frames.times w
  pub samples : n.values ≡ map w n.frames.times

pub level_follows : (n : Trace) (w : Wave) → Follows n w → (t : ℕ) → level n.frames.times n.values t ≡ w t
level_follows n w f t = rw f.samples (level_sample w n.frames.times f.starts f.steady t)

-- any raw wave that stands still between the times, filtered over frames of these times
pub filtered_follows : (di : ℕ) (f : Frames) (raw : Wave) (values : List Bool) → f.inertial ≡ inertial_indices di f.times
    → Starts f.times → Steady 0 f.times raw → values ≡ filtered f.inertial (map raw f.times)
    → Follows (record { frames = f; values = values }) (out_wave di raw)
filtered_follows di f raw values i r st e =
    record {
      starts = r;
      steady = out_steady raw di 0 f.times st;
      samples = e ∙ rw i (filter_samples raw di f.times r st);
    }

-- ---- the fan-ins of a gate

abbrev pub times_of : List Trace → List (List ℕ)
times_of ns = map (λ (n : Trace). n.frames.times) ns

-- the fan-ins stand still at suc v if that is a time of none of them
still : (v : ℕ) {ns : List Trace} {ws : List Wave} → Forall₂ Follows ns ws → among_some (suc v) (times_of ns) ≡ false
    → map (λ (w : Wave). w (suc v)) ws ≡ map (λ (w : Wave). w v) ws
still v Forall₂.nil e = refl
still v (Forall₂.cons {a = n} {l₁ = ns} r rs) e =
    ap₂ ◌∷◌ (r.steady v zero-le (or_left (among (suc v) n.frames.times) (among_some (suc v) (times_of ns)) e))
    (still v rs (or_right (among (suc v) n.frames.times) (among_some (suc v) (times_of ns)) e))

-- and so they do a delay d later, if that is none of their times with d added
pub still_later : (d u : ℕ) {ns : List Trace} {ws : List Wave} → Forall₂ Follows ns ws → among (suc u) (flat_map (shifted d) (times_of ns)) ≡ false
    → map (λ (w : Wave). w (suc u - d)) ws ≡ map (λ (w : Wave). w (u - d)) ws
still_later d u {ns} {ws} r e =
    elim (order d u) [
      | inl k ↦ let e' : among (suc (u - d) + d) (flat_map (shifted d) (times_of ns)) ≡ false = rw (let q : suc u ≡ suc (u - d) + d = omega arith in q) at e in
          rw (let q : suc u - d ≡ suc (u - d) = omega arith in q) (still (u - d) r (sym (all_shifted_among d (u - d) (times_of ns)) ∙ e'))
      | inr k ↦ rw (let q : suc u - d ≡ 0 = omega arith in q, let q : u - d ≡ 0 = omega arith in q)
    ]

-- a fan-in's value at the indexed frame is its level d earlier
fanin_value : (d t : ℕ) (n : Trace) (w : Wave) → Follows n w → get_or n.values (fanin_index d n.frames.times t) false ≡ w (t - d)
fanin_value d t n w f = rw (index_last d n.frames.times t f.starts) (level_follows n w f (t - d))

-- so are those of all fan-ins, by the row of a frame of time t
pub row_values : (d t : ℕ) {ns : List Trace} {ws : List Wave} → Forall₂ Follows ns ws
    → zip_with (λ (i : ℕ) (vs : List Bool). get_or vs i false) (fanin_row d (times_of ns) t) (map (λ (n : Trace). n.values) ns) ≡ map (λ (w : Wave). w (t - d)) ws
unfolding zip_with
row_values d t Forall₂.nil = refl
row_values d t (Forall₂.cons {a = n} {b = w} r rs) = ap₂ ◌∷◌ (fanin_value d t n w r) (row_values d t rs)

-- ---- one gate

raw_steady : (g : Gate) {ns : List Trace} {ws : List Wave} → Forall₂ Follows ns ws → Steady 0 (gate_times g.delay (times_of ns)) (raw_wave g ws)
unfolding gate_times
raw_steady g {ns} {ws} r u h e =
    let later : List ℕ = flat_map (shifted g.delay) (times_of ns) in
    ap (gate_fn g.kind) (still_later g.delay u r (sym (rising_among (suc u) later) ∙ or_right (eqb (suc u) 0) (among (suc u) (rising later)) e))

raw_values_lem : (g : Gate) {ns : List Trace} {ws : List Wave} → Forall₂ Follows ns ws → (ts : List ℕ)
    → map (raw_value g.kind (map (λ (n : Trace). n.values) ns)) (map (fanin_row g.delay (times_of ns)) ts) ≡ map (raw_wave g ws) ts
unfolding raw_value
raw_values_lem g {ns} {ws} r ts =
    map-map (raw_value g.kind (map (λ (n : Trace). n.values) ns)) (fanin_row g.delay (times_of ns)) ts
    ∙ ap (λ (f : ℕ → Bool). map f ts) (fun_ext (λ t. ap (gate_fn g.kind) (row_values g.delay t r)))

pub gate_follows : (g : Gate) (ns : List Trace) (ws : List Wave) → Forall₂ Follows ns ws → Follows (gate_trace g ns) (gate_wave g ws)
unfolding gate_trace gate_frames frames_with
gate_follows g ns ws r =
    rw (map-map (λ (f : Frames). f.times) (λ (n : Trace). n.frames) ns)
    (filtered_follows g.inertial _ (raw_wave g ws) _ refl (gate_times_start g.delay (times_of ns)) (raw_steady g r)
    (ap (filtered (inertial_indices g.inertial (gate_times g.delay (times_of ns)))) (raw_values_lem g r (gate_times g.delay (times_of ns)))))

-- ---- the inputs, and all nets

input_follows : (s : Stimulus) → rise_above 0 (change_times s) ≡ true → Follows (input_trace s) (input_wave s)
input_follows s h =
    let r : Rise 0 (change_times s) = test_rise 0 (change_times s) h in record { starts = (refl, r); steady = input_steady s; samples = input_samples s r }

pub none_follows : Follows no_trace no_wave
none_follows = record { starts = (refl, tt); steady = λ u h e. refl; samples = refl }

module _ (c : Circuit) (s : Stimuli) (o : Ordered (moments_of s)) where
  pub follows : (n : ℕ) → Follows (trace_at c s n) (machine c s n)
  unfolding traces waves
  follows = nets_rel Follows none_follows gate_follows (λ i. input_follows (s i) (o i)) c
