-- `first_above` meets its contract: the search stands at place k, all numbers before it from `from` on being at most the limit.
use Prim.Native.Nat.{◌+◌}
use mathlib.Core.Path.{◌≡◌}
use lib.ListN.{drop}
use Rattle.lists.specs.Front.{leading}
use Rattle.slices.proofs.first_above.Given as goal

abbrev pub invariant-loop-k : goal.invariant-loop-k
invariant-loop-k l = (l.place ≡ l.k) × (l.from + leading l.limit (drop l.from l.row) ≡ l.k + leading l.limit (drop l.k l.row))
