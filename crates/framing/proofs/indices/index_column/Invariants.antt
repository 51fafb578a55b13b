-- `index_column` meets its contract: the indices from frame k on are still to be stored; the fan-in's frame at the time of
-- frame k is the one begun last, or the next.
use Prim.Native.Nat.{◌+◌, ◌-◌, ◌*◌, ◌≤◌, ◌<◌}
use mathlib.Core.Path.{◌≡◌}
use mathlib.Core.List.{map}
use lib.ListN.{length, get_or, drop}
use Rattle.method.specs.Indices.{last_frame, fanin_index}
use Rattle.framing.specs.Steps.{column}
use Rattle.framing.proofs.indices.index_column.Given as goal

abbrev pub invariant-loop-k : goal.invariant-loop-k
invariant-loop-k l =
    (l.k < length l.own → l.begun ≤ last_frame l.fanin (get_or l.own l.k 0 - l.delay)) × (l.k < length l.own → last_frame l.fanin (get_or l.own l.k 0 - l.delay) ≤ l.begun + 1)
    × (column l.initial.fanins l.at l.width (map (fanin_index l.delay l.fanin) l.own) ≡ column l.fanins (l.at + l.k * l.width) l.width (map (fanin_index l.delay l.fanin) (drop l.k l.own)))
