-- `index_columns` meets its contract: the columns of the fan-ins from e on are still to be stored, and all columns are all rows.
use Prim.Native.Nat.{◌+◌}
use mathlib.Core.Path.{◌≡◌}
use mathlib.Core.List.{flat_map}
use lib.ListN.{drop}
use lib.Seq.{sets}
use Rattle.method.specs.Frames.{fanin_row}
use Rattle.gathering.specs.Steps.{spans}
use Rattle.framing.proofs.Columns.{columns}
use Rattle.framing.proofs.indices.index_columns.Given as goal

abbrev pub invariant-loop-e : goal.invariant-loop-e
invariant-loop-e l =
    sets l.initial.fanins l.first (flat_map (fanin_row l.delay (spans l.file l.list l.entries l.directory l.times)) l.own) ≡ columns l.delay l.entries l.own l.fanins (l.first + l.e) (drop l.e (spans l.file l.list l.entries l.directory l.times))
