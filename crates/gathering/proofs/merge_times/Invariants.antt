-- `merge_times` meets its contract: what is put, and the merge of the times from the frames i and j on, are the gate's times.
use Prim.Native.Nat.{◌+◌, ◌-◌, ◌≤◌}
use mathlib.Core.Path.{◌≡◌}
use mathlib.Core.List.{[], ◌∷◌, ◌++◌}
use lib.ListN.{length, take, drop}
use Rattle.method.specs.Times.{gate_times}
use Rattle.gathering.proofs.Merging.{union}
use Rattle.gathering.proofs.merge_times.Given as goal

abbrev pub invariant-loop-i : goal.invariant-loop-i
invariant-loop-i l =
    (1 ≤ l.i) × (l.i ≤ length l.one) × (1 ≤ l.j) × (l.j ≤ length l.other) × (l.n + 1 ≤ l.i + l.j)
    × (gate_times l.delay (l.one ∷ l.other ∷ []) ≡ take l.n l.gathered ++ union l.delay (drop l.i l.one) (drop l.j l.other))

abbrev pub decreases-loop-i : goal.decreases-loop-i
decreases-loop-i l = (length l.one - l.i) + (length l.other - l.j)
