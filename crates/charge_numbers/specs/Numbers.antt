-- Loads as plain numbers: for each net a byte that says its case, and two charges.
use Rattle.std.specs.Prelude.{ℕ, ◌+◌, ◌*◌, Bool, cond, ◌&&◌, List, eqb, length, get_or, Float}
use Rattle.lists.specs.Tables.{tabulate, all_below}
use Rattle.charge_loads.specs.declared.Load.{Load}
use Rattle.charge_loads.specs.declared.Load.TheVariants.{Any, Edges}
use Rattle.charge_loads.specs.Suits.{nought}

-- the load of net i: case 0 is one charge for any change, the first of its two, and the second says nothing; case 1 is one for
-- rising and one for falling
unfoldable pub load_at : List ℕ → List Float → ℕ → Load
load_at cases charges i =
    cond (eqb (get_or cases i 0) 0) (Any (get_or charges (2 * i) nought)) (Edges (get_or charges (2 * i) nought) (get_or charges (2 * i + 1) nought))

-- a load for each case
unfoldable pub loads_of : List ℕ → List Float → List Load
loads_of cases charges = tabulate (length cases) (load_at cases charges)

-- is each case 0 or 1, and are there two charges for each?
unfoldable pub numbers_suit : List ℕ → List Float → Bool
numbers_suit cases charges = eqb (length charges) (2 * length cases) && all_below 2 cases
