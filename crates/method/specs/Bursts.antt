-- A worked sample of inputs that change twice and never, as the rules give it and by hand. `by_hand_lem` in `proofs/Bursts`
-- computes it.
use Rattle.std.specs.Prelude.{ℕ, zero, suc, ◌≡◌, Bool, true, false, List, [], ◌∷◌, map}
use Rattle.method.specs.declared.Kind.TheVariants.{Not, Xor}
use Rattle.method.specs.Circuit.{Circuit}
use Rattle.method.specs.Stimulus.{Stimulus, Stimuli, moments_of}
use Rattle.method.specs.Changes.{schedule, moments_from}
use Rattle.method.specs.Frames.{Frames, frames}
use Rattle.method.specs.Traces.{Trace, traces}
use Rattle.method.specs.Machine.{machine}

-- two inputs, their XOR after 2, and the second input inverted after 3
abbrev circuit : Circuit
circuit =
    record {
      inputs = 2;
      gates =
          record { kind = Xor; delay = 2; inertial = 0; fanins = 0 ∷ 1 ∷ [] }
          ∷ record { kind = Not; delay = 3; inertial = 0; fanins = 1 ∷ [] }
          ∷ [];
    }

-- input 0 is 1 from 4 to 8, input 1 never changes
abbrev pulse : Stimulus
pulse = record { before = false; changes = record { time = 4; bit = true } ∷ record { time = 9; bit = false } ∷ [] }

abbrev still : Stimulus
still = record { before = false; changes = [] }

abbrev driven : Stimuli
driven zero = pulse
driven (suc i) = still

pub record Sample : Type 0 where
  -- input by input, from counts 2, 0, 1 and times 4, 9, 1
  pub moments : List (List ℕ)
  -- net by net
  pub times : List (List ℕ)
  pub values : List (List Bool)
  -- input 0 in the machine at 3, 4, 8 and 9
  pub levels : List Bool

unfoldable pub by_rule : Sample
by_rule =
    record {
      moments = map (moments_from (schedule (2 ∷ 0 ∷ 1 ∷ []) (4 ∷ 9 ∷ 1 ∷ []))) (0 ∷ 1 ∷ 2 ∷ []);
      times = map (λ (f : Frames). f.times) (frames circuit (moments_of driven));
      values = map (λ (n : Trace). n.values) (traces circuit driven);
      levels = map (machine circuit driven 0) (3 ∷ 4 ∷ 8 ∷ 9 ∷ []);
    }

unfoldable pub by_hand : Sample
by_hand =
    record {
      moments = (4 ∷ 9 ∷ []) ∷ [] ∷ (1 ∷ []) ∷ [];
      times = (0 ∷ 4 ∷ 9 ∷ []) ∷ (0 ∷ []) ∷ (0 ∷ 6 ∷ 11 ∷ []) ∷ (0 ∷ []) ∷ [];
      values = (false ∷ true ∷ false ∷ []) ∷ (false ∷ []) ∷ (false ∷ true ∷ false ∷ []) ∷ (true ∷ []) ∷ [];
      levels = false ∷ true ∷ true ∷ false ∷ [];
    }

abbrev pub Settled : Type 0
Settled = by_rule ≡ by_hand
