-- The charge drawn: that of every kept change, nets in order, frames in order, added one after the other from 0. `levels n` are
-- the levels of net n in some lane, frame by frame.
use Rattle.std.specs.Prelude.{ℕ, suc, Bool, cond, List, [], ◌∷◌, ◌++◌, Float}
use Rattle.std.specs.Bool.{beq}
use Rattle.std.specs.Float.{binary64}
use Rattle.std.specs.Float.Ieee.{add}
use Rattle.charge_loads.specs.declared.Load.{Load}
use Rattle.charge_loads.specs.declared.Load.TheVariants.{Any, Edges}
use Rattle.charge_loads.specs.Suits.{nought}

-- the charge of a change to this level: from 0 to 1 is rising
unfoldable pub change_charge : Load → Bool → Float
change_charge (Any charge) level = charge
change_charge (Edges rising falling) level = cond level rising falling

-- the charges of these frames, where the frame before them was at v: one for each frame whose level differs from that before it
unfoldable pub charges_after : Load → Bool → List Bool → List Float
charges_after load v [] = []
charges_after load v (w ∷ ws) = cond (beq w v) (charges_after load w ws) (change_charge load w ∷ charges_after load w ws)

-- those of a net: frame 0 is no change
unfoldable pub charges : Load → List Bool → List Float
charges load [] = []
charges load (v ∷ vs) = charges_after load v vs

-- those of the nets from i on, one for each load, in order
unfoldable pub charges_from : (ℕ → List Bool) → ℕ → List Load → List Float
charges_from levels i [] = []
charges_from levels i (load ∷ loads) = charges load (levels i) ++ charges_from levels (suc i) loads

-- a total and these charges: one rounded addition of 64-bit floats after the other
unfoldable pub added : List Float → Float → Float
added [] total = total
added (q ∷ qs) total = added qs (add binary64 total q)

-- all nets, from 0
unfoldable pub drawn_by_nets : (ℕ → List Bool) → List Load → Float
drawn_by_nets levels loads = added (charges_from levels 0 loads) nought
