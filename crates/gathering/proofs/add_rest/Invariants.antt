-- `add_rest` meets its contract: the times from frame k on are still to be added.
use Prim.Native.Nat.{◌+◌, ◌-◌}
use mathlib.Core.Path.{◌≡◌}
use mathlib.Core.List.{◌++◌}
use lib.ListN.{length, take, drop}
use Rattle.gathering.specs.Steps.{plus}
use Rattle.gathering.proofs.add_rest.Given as goal

abbrev pub invariant-loop-k : goal.invariant-loop-k
invariant-loop-k l =
    (l.n + (length l.fanin - l.k) ≡ l.count + (length l.fanin - l.from))
    × (take l.count l.initial.gathered ++ plus l.delay (drop l.from l.fanin) ≡ take l.n l.gathered ++ plus l.delay (drop l.k l.fanin))
