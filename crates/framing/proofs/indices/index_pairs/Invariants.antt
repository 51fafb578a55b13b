-- `index_pairs` meets its contract: the rows from frame k on are still to be stored; the frame of each fan-in at the time of frame k is
-- the one begun last, or the next.
use Prim.Native.Nat.{◌+◌, ◌-◌, ◌*◌, ◌≤◌, ◌<◌}
use mathlib.Core.Path.{◌≡◌}
use mathlib.Core.List.{[], ◌∷◌, flat_map}
use lib.ListN.{length, get_or, drop}
use lib.Seq.{sets}
use Rattle.method.specs.Indices.{last_frame}
use Rattle.method.specs.Frames.{fanin_row}
use Rattle.framing.proofs.indices.index_pairs.Given as goal

abbrev pub invariant-loop-k : goal.invariant-loop-k
invariant-loop-k l =
    (l.k < length l.own → l.x ≤ last_frame l.one (get_or l.own l.k 0 - l.delay)) × (l.k < length l.own → last_frame l.one (get_or l.own l.k 0 - l.delay) ≤ l.x + 1)
    × (l.k < length l.own → l.y ≤ last_frame l.other (get_or l.own l.k 0 - l.delay)) × (l.k < length l.own → last_frame l.other (get_or l.own l.k 0 - l.delay) ≤ l.y + 1)
    × (sets l.initial.fanins l.first (flat_map (fanin_row l.delay (l.one ∷ l.other ∷ [])) l.own) ≡ sets l.fanins (l.first + 2 * l.k) (flat_map (fanin_row l.delay (l.one ∷ l.other ∷ [])) (drop l.k l.own)))
