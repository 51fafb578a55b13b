-- Question 21: what a list of loads must be for a circuit.
use Rattle.std.specs.Prelude.{ℕ, Bool, ◌&&◌, List, map, eqb, length, pos, Float}
use Rattle.std.specs.Float.{binary64}
use Rattle.std.specs.Float.Ieee.{le, of_int}
use Rattle.lists.specs.Tables.{every}
use Rattle.charge_loads.specs.declared.Load.{Load}
use Rattle.charge_loads.specs.declared.Load.TheVariants.{Any, Edges}

-- 0 and 1,000 as 64-bit floats
abbrev pub nought : Float
nought = of_int binary64 (pos 0)

abbrev pub most_charge : Float
most_charge = of_int binary64 (pos 1000)

-- is the charge from 0 to 1,000? No comparison with a NaN holds, and -0 is equal to 0
unfoldable pub in_range : Float → Bool
in_range charge = le nought charge && le charge most_charge

-- 21, of one load: are all its charges in range?
unfoldable pub suits : Load → Bool
suits (Any charge) = in_range charge
suits (Edges rising falling) = in_range rising && in_range falling

unfoldable pub all_suit : List Load → Bool
all_suit loads = every (map suits loads)

-- 21: Is there a load for each of so many nets, and is each of their charges from 0 to 1,000?
unfoldable pub loads_suit : ℕ → List Load → Bool
loads_suit nets loads = eqb (length loads) nets && all_suit loads
