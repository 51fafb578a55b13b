-- `records_of` meets its contract. After k records the list begins with them.
use mathlib.Core.Path.{◌≡◌}
use lib.ListN.{length, take}
use Rattle.records.specs.Records.{most_records, first_records}
use Rattle.records.proofs.records_of.Given as goal

abbrev pub invariant-loop-k : goal.invariant-loop-k
invariant-loop-k l = (length l.list ≡ most_records) × (take l.k l.list ≡ first_records l.bytes l.k)
