-- Worked examples, computed.
-- Assumes nothing.
use mathlib.Core.Path.{◌≡◌, refl}
use mathlib.Core.Bool.{true, false}
use mathlib.Core.List.{[], ◌∷◌}
use lib.IntN.{pos}
use lib.Ieee.{nan, inf, fin, binary64, add, le, lt, eq, of_bits, of_int}
use Rattle.charge_loads.specs.declared.Load.TheVariants.{Any, Edges}
use Rattle.charge_loads.specs.Suits.{nought, in_range}
use Rattle.charge_loads.specs.Charges.{change_charge, charges_after, charges, added}

nan_out : in_range nan ≡ false
unfolding in_range le lt eq of_int
nan_out = refl

infinity_out : in_range (inf false) ≡ false
unfolding in_range le lt eq of_int
infinity_out = refl

minus_zero_in : in_range (fin true 0 (pos 0)) ≡ true
unfolding in_range le lt eq of_int
minus_zero_in = refl

thousand_in : in_range (of_int binary64 (pos 1000)) ≡ true
unfolding in_range le lt eq of_int
thousand_in = refl

-- 0.1 for rising and 0.2 for falling: up and down is 0.30000000000000004
up_and_down : added (charges (Edges (of_bits binary64 0x3fb999999999999a) (of_bits binary64 0x3fc999999999999a)) (false ∷ true ∷ true ∷ false ∷ [])) nought ≡ of_bits binary64 0x3fd3333333333334
unfolding added charges charges_after change_charge add of_bits of_int
up_and_down = refl

-- each addition is rounded: 0.1 ten times is not 1
ten_times : added (charges (Any (of_bits binary64 0x3fb999999999999a)) (false ∷ true ∷ false ∷ true ∷ false ∷ true ∷ false ∷ true ∷ false ∷ true ∷ false ∷ [])) nought ≡ of_bits binary64 0x3fefffffffffffff
unfolding added charges charges_after change_charge add of_bits of_int
ten_times = refl
