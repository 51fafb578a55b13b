-- Question 12: what an expectation must have to be asked of a circuit.
use Rattle.std.specs.Prelude.{ℕ, Bool, ◌&&◌, List, map, ltb, leb}
use Rattle.lists.specs.Tables.{every}
use Rattle.method.specs.Words.{lanes}
use Rattle.expectations.specs.declared.Expectation.{Expectation}

-- 12, of one expectation, in a circuit with this many nets: a net below I + G, a lane below 64, from at most to, and level
-- 0 or 1
unfoldable pub suits : ℕ → Expectation → Bool
suits nets e = ltb e.net.0 nets && (ltb e.lane lanes && (leb e.from.0 e.to.0 && leb e.level 1))

-- 12: Has each expectation these?
unfoldable pub list_suits : ℕ → List Expectation → Bool
list_suits nets list = every (map (suits nets) list)
