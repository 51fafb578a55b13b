-- What the functions of this crate ask and promise. A reader of the charge call's promise may skip this file.
use Rattle.std.specs.Prelude.{ℕ, List, Float}
use Rattle.lists.specs.Tables.{tabulate}
use Rattle.charge_loads.specs.declared.Load.{Load}
use Rattle.charge_numbers.specs.Numbers.{load_at}

-- a load for each net that a circuit can have, and one more
abbrev pub room : ℕ
room = 161

-- the first n loads
unfoldable pub first_loads : List ℕ → List Float → ℕ → List Load
first_loads cases charges n = tabulate n (load_at cases charges)
