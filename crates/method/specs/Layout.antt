-- How the frames of the nets lie in the areas: one net after the other, and the rest of each area 0.
use Rattle.std.specs.Prelude.{ℕ, ◌+◌, ◌*◌, length, get_or, take, drop}
use mathlib.Core.List.{List, [], ◌∷◌, flat_map, flatten}
use Rattle.lists.specs.Areas.{padded}
use Rattle.method.specs.Frames.{Frames}
use Rattle.method.specs.Areas.{Areas, areas}

abbrev pub all_times : List Frames → List ℕ
all_times fs = flat_map (λ (f : Frames). f.times) fs

abbrev pub all_inertial : List Frames → List ℕ
all_inertial fs = flat_map (λ (f : Frames). f.inertial) fs

-- by gate, by frame, by fan-in; an input has no rows
abbrev pub all_fanins : List Frames → List ℕ
all_fanins fs = flat_map (λ (f : Frames). flatten f.rows) fs

-- a pair a net: the offset of its first frame, and its frame count; the first net's offset is `at`
unfoldable pub pairs : ℕ → List Frames → List ℕ
pairs at [] = []
pairs at (f ∷ fs) = at ∷ length f.times ∷ pairs (at + length f.times) fs

-- areas as long as these, filled with the frames of these nets
unfoldable pub laid : List Frames → Areas → Areas
laid fs a =
    areas (padded (length a.directory) (pairs 0 fs)) (padded (length a.times) (all_times fs))
    (padded (length a.inertial) (all_inertial fs)) (padded (length a.fanins) (all_fanins fs))

-- net n's pair in the directory
abbrev pub first_frame : List ℕ → ℕ → ℕ
first_frame directory n = get_or directory (2 * n) 0

abbrev pub frame_count : List ℕ → ℕ → ℕ
frame_count directory n = get_or directory (2 * n + 1) 0

-- net n's part of an area that has an entry a frame
unfoldable pub part_of : List ℕ → List ℕ → ℕ → List ℕ
part_of directory area n = take (frame_count directory n) (drop (first_frame directory n) area)
