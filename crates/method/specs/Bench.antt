-- The bench sheet: rows A to J, as the rules give them and as the sheet prints them (J as request P4 changed it), and with
-- them the wave program's example and an inertial index of frame 0 other than 0. `rows` in `proofs/Bench` settles them
-- together.
use Rattle.std.specs.Prelude.{ℕ, ◌≡◌, Bool, true, false, List, [], ◌∷◌, map}
use Rattle.method.specs.declared.Kind.TheVariants.{Not, And, Xor}
use Rattle.method.specs.Kinds.{gate_fn}
use Rattle.method.specs.Circuit.{Circuit}
use Rattle.method.specs.Stimulus.{Stimuli, moments_of}
use Rattle.method.specs.Times.{gate_times}
use Rattle.method.specs.Indices.{inertial_indices}
use Rattle.method.specs.Frames.{Frames, fanin_row, frames}
use Rattle.method.specs.Filter.{filtered}
use Rattle.method.specs.Traces.{Trace, traces, trace_at}

pub record Sheet : Type 0 where
  pub A : List ℕ
  pub B : List (List ℕ)
  pub C : List ℕ
  pub D : List Bool
  pub E : List Bool
  pub F : List Bool
  pub G : List Bool
  pub H : List Bool
  pub I : List Bool
  pub J : Bool
  -- net by net, the example's times and levels
  pub wave_times : List (List ℕ)
  pub wave_levels : List (List Bool)
  pub frame0 : List ℕ

abbrev lo : Bool
lo = false

abbrev hi : Bool
hi = true

-- the two fan-ins of rows A to C
abbrev two_fanins : List (List ℕ)
two_fanins = (0 ∷ 3 ∷ 4 ∷ []) ∷ (0 ∷ 2 ∷ 6 ∷ []) ∷ []

-- frames with these times and raw values, filtered with inertial delay di
abbrev filtered_at : ℕ → List ℕ → List Bool → List Bool
filtered_at di times raw = filtered (inertial_indices di times) raw

-- the wave program's example, with inertial delay di on net 2 (1 in the example), its input going from 0 to 1
abbrev wave_circuit : ℕ → Circuit
wave_circuit di =
    record {
      inputs = 1;
      gates =
          record { kind = Not; delay = 2; inertial = 0; fanins = 0 ∷ [] }
          ∷ record { kind = And; delay = 1; inertial = di; fanins = 0 ∷ 1 ∷ [] }
          ∷ [];
    }

abbrev up : Stimuli
up i = record { before = lo; changes = record { time = 1; bit = hi } ∷ [] }

unfoldable pub by_rule : Sheet
by_rule =
    record {
      A = gate_times 3 two_fanins;
      B = map (fanin_row 3 two_fanins) (gate_times 3 two_fanins);
      C = inertial_indices 2 (gate_times 3 two_fanins);
      D = filtered_at 2 (0 ∷ 5 ∷ 7 ∷ []) (lo ∷ hi ∷ lo ∷ []);
      E = filtered_at 1 (0 ∷ 5 ∷ 7 ∷ []) (lo ∷ hi ∷ lo ∷ []);
      F = filtered_at 1 (0 ∷ 5 ∷ 6 ∷ 7 ∷ []) (lo ∷ hi ∷ lo ∷ hi ∷ []);
      G = filtered_at 3 (0 ∷ 3 ∷ 6 ∷ []) (hi ∷ lo ∷ hi ∷ []);
      H = filtered_at 2 (0 ∷ 5 ∷ 6 ∷ 7 ∷ []) (lo ∷ hi ∷ hi ∷ lo ∷ []);
      I = (trace_at (wave_circuit 2) up 2).values;
      J = gate_fn Xor (hi ∷ hi ∷ hi ∷ []);
      wave_times = map (λ (f : Frames). f.times) (frames (wave_circuit 1) (moments_of up));
      wave_levels = map (λ (n : Trace). n.values) (traces (wave_circuit 1) up);
      frame0 = inertial_indices 5 (0 ∷ 2 ∷ []);
    }

unfoldable pub as_printed : Sheet
as_printed =
    record {
      A = 0 ∷ 5 ∷ 6 ∷ 7 ∷ 9 ∷ [];
      B = (0 ∷ 0 ∷ []) ∷ (0 ∷ 1 ∷ []) ∷ (1 ∷ 1 ∷ []) ∷ (2 ∷ 1 ∷ []) ∷ (2 ∷ 2 ∷ []) ∷ [];
      C = 0 ∷ 2 ∷ 1 ∷ 1 ∷ 0 ∷ [];
      D = lo ∷ lo ∷ lo ∷ [];
      E = lo ∷ hi ∷ lo ∷ [];
      F = lo ∷ lo ∷ lo ∷ hi ∷ [];
      G = hi ∷ hi ∷ hi ∷ [];
      H = lo ∷ lo ∷ lo ∷ lo ∷ [];
      I = lo ∷ lo ∷ lo ∷ [];
      J = hi;
      wave_times = (0 ∷ 1 ∷ []) ∷ (0 ∷ 3 ∷ []) ∷ (0 ∷ 2 ∷ 4 ∷ []) ∷ [];
      wave_levels = (lo ∷ hi ∷ []) ∷ (hi ∷ lo ∷ []) ∷ (lo ∷ hi ∷ lo ∷ []) ∷ [];
      frame0 = 1 ∷ 0 ∷ [];
    }

abbrev pub Settled : Type 0
Settled = by_rule ≡ as_printed
