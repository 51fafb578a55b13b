-- `gather_times` meets its contract: the times of the fan-ins from e on are still to be put in.
use Prim.Native.Nat.{◌+◌, ◌*◌, ◌≤◌}
use mathlib.Core.Path.{◌≡◌}
use mathlib.Core.List.{[], ◌∷◌}
use lib.ListN.{take, drop}
use Rattle.method.specs.Limits.{most_net_frames}
use Rattle.gathering.specs.Steps.{spans}
use Rattle.gathering.proofs.Gathered.{gather}
use Rattle.gathering.proofs.gather_times.Given as goal

abbrev pub invariant-loop-e : goal.invariant-loop-e
invariant-loop-e l =
    (l.count ≤ 1 + most_net_frames * l.e)
    × (gather l.delay (spans l.file l.list l.entries l.directory l.times) (0 ∷ []) ≡ gather l.delay (drop l.e (spans l.file l.list l.entries l.directory l.times)) (take l.count l.gathered))
