-- `add_times` meets its contract: the later times from the index on are still to be put in, none before `place`.
use Prim.Native.Nat.{◌+◌, ◌-◌, ◌≤◌, ◌<◌}
use mathlib.Core.Path.{◌≡◌}
use lib.ListN.{length, get_or, take, drop}
use Rattle.lists.specs.Front.{leading}
use Rattle.gathering.specs.Steps.{into}
use Rattle.gathering.proofs.add_times.Given as goal

abbrev pub invariant-loop-s : goal.invariant-loop-s
invariant-loop-s l =
    (l.n ≤ l.count + l.s-index)
    × (l.s-index < length l.later → l.place ≤ leading (get_or l.later l.s-index 0 + l.delay - 1) (take l.n l.gathered))
    × (into l.delay l.later (take l.count l.initial.gathered) ≡ into l.delay (drop l.s-index l.later) (take l.n l.gathered))
