-- A gate's rows of fan-in indices, as they stand in the fan-in area: by gate, by frame, by fan-in. The directory says how many
-- frames each net has, the circuit how many fan-ins each gate.
use Rattle.std.specs.Prelude.{ℕ, zero, suc, ◌+◌, ◌*◌, List, length, get_or}
use Rattle.lists.specs.Tables.{tabulate}
use Rattle.method.specs.Circuit.{Circuit, gate_at}
use Rattle.method.specs.Areas.{Areas}
use Rattle.method.specs.Layout.{frame_count}

-- how many entries the fan-in list of gate j has
abbrev pub entries_of : Circuit → ℕ → ℕ
entries_of c j = length (gate_at c j).fanins

-- where the rows of gate j start: behind those of the gates before it
unfoldable pub rows_start : Circuit → List ℕ → ℕ → ℕ
rows_start c directory zero = 0
rows_start c directory (suc j) = rows_start c directory j + frame_count directory (c.inputs + j) * entries_of c j

-- entry e of the row of its frame k
abbrev pub entry_in : Circuit → Areas → ℕ → ℕ → ℕ → ℕ
entry_in c a j k e = get_or a.fanins (rows_start c a.directory j + k * entries_of c j + e) 0

-- a row a frame, an entry a fan-in
unfoldable pub rows_in : Circuit → Areas → ℕ → List (List ℕ)
rows_in c a j = tabulate (frame_count a.directory (c.inputs + j)) (λ (k : ℕ). tabulate (entries_of c j) (entry_in c a j k))
