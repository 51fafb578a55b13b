-- What is summed over all nets: whether there are too many frames, for any caller and for this one, and the totals.
use Rattle.std.specs.Prelude.{ℕ, max, Bool, ◌&&◌, List, [], ◌∷◌, map, length, leb}
use Rattle.lists.specs.Ladder.{between}
use Rattle.lists.specs.Tables.{every}
use Rattle.method.specs.Frames.{Frames}
use Rattle.method.specs.Limits.{most_net_frames, most_total_frames}
use Rattle.method.specs.declared.Totals.{Totals}
use Rattle.method.specs.Layout.{all_times, all_fanins}

-- 13: Has every net at most 64 frames, and all nets together at most 2,048?
unfoldable pub fits : List Frames → Bool
fits fs =
    every (map (λ (f : Frames). leb (length f.times) most_net_frames) fs) && leb (length (all_times fs)) most_total_frames

-- 22: Is the caller's limit from 1 to 2,048, and the frame total at most the limit?
abbrev pub within_limit : ℕ → ℕ → Bool
within_limit limit total = between 1 most_total_frames limit && leb total limit

unfoldable pub limited : ℕ → List Frames → Bool
limited limit fs = within_limit limit (length (all_times fs))

-- the greatest of these times
unfoldable pub latest : List ℕ → ℕ
latest [] = 0
latest (t ∷ ts) = max t (latest ts)

-- the frame total, the fan-in total, and the last potential time: the greatest of all nets
unfoldable pub totals_of : List Frames → Totals
totals_of fs =
    record { frames = length (all_times fs); fanins = length (all_fanins fs); last = record { 0 = latest (all_times fs) } }
