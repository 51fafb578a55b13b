-- `changes` meets its contract: the loop stands at frame k, and n of the frames before it are changes.
use Prim.Native.Nat.{◌+◌, ◌-◌, ◌≤◌, ◌<◌}
use mathlib.Core.Path.{◌≡◌}
use mathlib.Core.List.{map}
use lib.ListN.{get_or, drop}
use Rattle.method.specs.Look as look
use Rattle.method.specs.Words as bits
use Rattle.looks.proofs.looking.changes.Given as goal

abbrev pub invariant-loop-k : goal.invariant-loop-k
invariant-loop-k l = (1 ≤ l.k) × (l.n < l.k) × (look.changes (map (bits.lane l.lane) l.values) ≡ l.n + look.changes_after (bits.lane l.lane (get_or l.values (l.k - 1) 0)) (map (bits.lane l.lane) (drop l.k l.values)))
