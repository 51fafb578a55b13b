-- What the limits of a circuit give the method: no feedback, and potential times that fit into 32 bits, where no input
-- changes after 255; and they hold of its first gates too.
-- Assumes nothing.
use Prim.Native.Nat.{ℕ, zero, suc, ◌+◌, ◌-◌, ◌*◌, ◌≤◌, ◌<◌}
use mathlib.Core.Path.{◌≡◌, refl}
use mathlib.Core.Bool.{true}
use mathlib.Core.List.{List, [], ◌∷◌}
use native.Mathlib.Omega.{arith}
use native.Mathlib.Nat.{mul-le-mul_left}
use lib.ListN.{length, get_or, take}
use lib.Seq.{length-take-le}
use Rattle.method.specs.Circuit.{Gate, Circuit, no_gate, gate_at, NoFeedback, DelaysUpTo}
use Rattle.method.specs.Stimulus.{Moments}
use Rattle.method.specs.Changes.{last_change}
use Rattle.method.specs.Times.{among}
use Rattle.method.specs.Agreement.{potential}
use Rattle.method.proofs.Agreement.{agreement}
use Rattle.editions.specs.Edition.{present}
use Rattle.editions.specs.Limits.{GateWithin, GatesWithin}
use Rattle.circuit.specs.Limits.{most_gates, most_delay, most_time, Within}

-- gate j, which drives net + j
gate_at_lem : (net : ℕ) (gs : List Gate) → GatesWithin present net gs → (j own : ℕ) → own ≡ net + j → j < length gs → GateWithin present own (get_or gs j no_gate)
gate_at_lem net [] w j own e h = absurd (omega arith)
gate_at_lem net (g ∷ gs) w zero own e h = rw (let q : own ≡ net = omega arith in q) w.0
gate_at_lem net (g ∷ gs) w (suc j) own e h = gate_at_lem (suc net) gs w.1 j own (omega arith) (omega arith)

module _ (c : Circuit) (w : Within c) where
  within_at : (j : ℕ) → j < length c.gates → GateWithin present (c.inputs + j) (gate_at c j)
  within_at j h = gate_at_lem c.inputs c.gates w.gates_within j (c.inputs + j) refl h

  pub no_feedback : NoFeedback c
  no_feedback j h = (within_at j h).below

  pub delays_most : DelaysUpTo most_delay c
  delays_most j h = (within_at j h).delay_most

  module _ (m : Moments) (early : (i t : ℕ) → among t (m i) ≡ true → t ≤ last_change) where
    -- the greatest delay for each gate up to the net
    pub time_most : (n t : ℕ) → potential c m n t ≡ true → t ≤ last_change + most_delay * (n + 1 - c.inputs)
    time_most n t e = agreement.times_bounded c m last_change most_delay early delays_most n t e

    -- and there are at most 128 gates
    pub time_low : (n t : ℕ) → n < c.inputs + length c.gates → potential c m n t ≡ true → t ≤ most_time
    time_low n t h e =
        let few : n + 1 - c.inputs ≤ most_gates = omega (arith, w.gates_most) in
        let most : most_delay * (n + 1 - c.inputs) ≤ most_delay * most_gates = mul-le-mul_left most_delay few in
        let last : t ≤ last_change + most_delay * (n + 1 - c.inputs) = time_most n t e in
        omega arith

    -- so 32 bits suffice
    pub time_small : (n t : ℕ) → n < c.inputs + length c.gates → potential c m n t ≡ true → t < 4294967296
    time_small n t h e = omega (arith, time_low n t h e)

-- the inputs and the first gates keep the limits too
first_gates_lem : (net j : ℕ) (gs : List Gate) → GatesWithin present net gs → GatesWithin present net (take j gs)
first_gates_lem net zero gs w = tt
first_gates_lem net (suc j) [] w = tt
first_gates_lem net (suc j) (g ∷ gs) w = (w.0, first_gates_lem (suc net) j gs w.1)

pub within_first : (c : Circuit) (j : ℕ) → j ≤ length c.gates → Within c → Within (record { inputs = c.inputs; gates = take j c.gates })
within_first c j h w =
    record {
      inputs_least = w.inputs_least;
      inputs_most = w.inputs_most;
      gates_most = rw (length-take-le j c.gates h) (omega (arith, w.gates_most));
      gates_within = first_gates_lem c.inputs j c.gates w.gates_within;
    }
