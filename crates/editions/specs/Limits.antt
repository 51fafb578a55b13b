-- The limits of a circuit: what the circuit of an accepted file keeps, and what a circuit must keep to have a file.
use Rattle.std.specs.Prelude.{ℕ, suc, ◌+◌, ◌≤◌, ◌<◌, ◌≡◌, Bool, true, cond, ◌&&◌, List, [], ◌∷◌, length}
use Rattle.lists.specs.Tables.{all_below}
use Rattle.lists.specs.Ladder.{between}
use Rattle.method.specs.Kinds.{takes}
use Rattle.method.specs.Circuit.{Gate, Circuit}
use Rattle.editions.specs.declared.Edition.{Edition}

abbrev pub most_inputs : ℕ
most_inputs = 32

abbrev pub most_gates : ℕ
most_gates = 128

module _ (e : Edition) where
  -- d is from 1 to the edition's greatest delay, and di from 0
  unfoldable pub delays_suit : ℕ → ℕ → Bool
  delays_suit d di = between 1 e.most d && between 0 e.most di

  -- a gate that drives this net
  pub record GateWithin (net : ℕ) (g : Gate) : Type 0 where
    pub delay_least : 1 ≤ g.delay
    pub delay_most : g.delay ≤ e.most
    pub inertial_most : g.inertial ≤ e.most
    pub entries : takes g.kind (length g.fanins) ≡ true
    pub below : all_below net g.fanins ≡ true

  -- gates that drive the nets from this one on
  abbrev pub GatesWithin : ℕ → List Gate → Type 0
  GatesWithin net [] = Unit {0}
  GatesWithin net (g ∷ gs) = GateWithin net g × GatesWithin (suc net) gs

  pub record Within (c : Circuit) : Type 0 where
    pub inputs_least : 1 ≤ c.inputs
    pub inputs_most : c.inputs ≤ most_inputs
    pub gates_most : length c.gates ≤ most_gates
    pub gates_within : GatesWithin c.inputs c.gates

-- how many numbers the bytes of a delay can hold
unfoldable pub delay_range : Edition → ℕ
delay_range e = cond e.wide 65536 256

-- an edition whose numbers fit where it writes them
pub record Writable (e : Edition) : Type 0 where
  pub counts : most_inputs + e.added < 65536
  pub delays : e.most < delay_range e
