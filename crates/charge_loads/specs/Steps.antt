-- What the functions of this crate promise. A reader of the charge call's promise may skip this file.
use Rattle.std.specs.Prelude.{ℕ, ◌+◌, Bool, cond, ◌&&◌, List, [], ◌∷◌, map, leb, ltb, Float}
use Rattle.std.specs.Bool.{beq}
use Rattle.std.specs.Float.{binary64}
use Rattle.std.specs.Float.Ieee.{add}
use Rattle.method.specs.Words.{lane}
use Rattle.method.specs.Layout.{part_of}
use Rattle.charge_loads.specs.declared.Load.{Load}
use Rattle.charge_loads.specs.Suits.{suits}
use Rattle.charge_loads.specs.Charges.{change_charge}

-- ---- the nets that a list suits

-- more nets than any circuit has
abbrev pub no_circuit : ℕ
no_circuit = 131072

-- so many nets and one more, or more than any circuit has; and all of a list
unfoldable pub with_load : Load → ℕ → ℕ
with_load load nets = cond (suits load && ltb nets no_circuit) (nets + 1) no_circuit

unfoldable pub loaded_from : List Load → ℕ → ℕ
loaded_from [] nets = nets
loaded_from (load ∷ loads) nets = loaded_from loads (with_load load nets)

unfoldable pub nets_loaded : List Load → ℕ
nets_loaded loads = loaded_from loads 0

-- ---- the sum, in areas with these contents

-- the total after a frame at this level, where the frame before was at that: one addition, or none
unfoldable pub drawn_at : Load → Bool → Bool → Float → Float
drawn_at load before level total = cond (beq level before) total (add binary64 total (change_charge load level))

-- net i's words, where its pair in the directory says; there is no net above 65,535
unfoldable pub net_part : List ℕ → List ℕ → ℕ → List ℕ
net_part directory values i = cond (leb i 65535) (part_of directory values i) []

-- the levels of net i in lane L, frame by frame
abbrev pub parts_in : List ℕ → List ℕ → ℕ → ℕ → List Bool
parts_in directory values L i = map (lane L) (net_part directory values i)
