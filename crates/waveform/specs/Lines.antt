-- What an accepted input prints: for lane 0 a line a net.
use Rattle.std.specs.Prelude.{ℕ, Bool}
use mathlib.Core.List.{List, [], ◌∷◌, ◌++◌, flatten, zip_with}
use Rattle.lists.specs.Tables.{tabulate}
use Rattle.method.specs.WordLists.{WordLists}
use Rattle.method.specs.Circuit.{Circuit}
use Rattle.method.specs.Values.{net_count}
use Rattle.method.specs.Once.{times_once, lane_once}
use Rattle.text.specs.Text.{newline, decimal, frame_text}

-- a line: the net's number, then its frames, whose times and levels are these, one level a frame, and a newline
unfoldable pub line : ℕ → List ℕ → List Bool → List ℕ
line net times levels = decimal net ++ (flatten (zip_with frame_text times levels) ++ newline ∷ [])

-- net n's line: the times of its frames, and the values of lane 0's own trace
abbrev pub net_line : Circuit → WordLists → ℕ → List ℕ
net_line c w n = line n (times_once c n) (lane_once c w 0 n)

-- all nets of a circuit, run for these words
unfoldable pub lines : Circuit → WordLists → List ℕ
lines c w = flatten (tabulate (net_count c) (net_line c w))
