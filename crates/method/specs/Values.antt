-- The packed values of all frames, net by net. The word of a frame is packed from the 64 lanes' own filtered values.
use Rattle.std.specs.Prelude.{ℕ, ◌+◌, length}
use mathlib.Core.List.{List, flatten}
use Rattle.lists.specs.Tables.{tabulate}
use Rattle.method.specs.Circuit.{Circuit}
use Rattle.method.specs.Stimulus.{Moments}
use Rattle.method.specs.WordLists.{WordLists}
use Rattle.method.specs.Packed.{packed_values}

-- how many nets there are: I inputs and G gates
abbrev pub net_count : Circuit → ℕ
net_count c = c.inputs + length c.gates

unfoldable pub all_values : Circuit → Moments → WordLists → List ℕ
all_values c m w = flatten (tabulate (net_count c) (packed_values c m w))
