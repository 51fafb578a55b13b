-- `inertial_row` meets its contract: the indices from frame k on are still to be stored; the search for the end of what is
-- within reach of frame k stands between that frame and the end.
use Prim.Native.Nat.{◌+◌, ◌≤◌, ◌<◌}
use lib.ListN.{length, get_or, drop}
use Rattle.lists.specs.Front.{leading}
use Rattle.lists.proofs.Storing.{Left}
use Rattle.method.specs.Indices.{inertial_indices}
use Rattle.framing.proofs.indices.inertial_row.Given as goal

abbrev pub invariant-loop-k : goal.invariant-loop-k
invariant-loop-k l =
    (l.k ≤ l.later) × (l.k < length l.own → l.later ≤ l.k + leading (get_or l.own l.k 0 + l.reach) (drop l.k l.own)) × Left l.initial.inertial l.first (inertial_indices l.reach l.own) l.inertial l.k
