-- `each_rises` meets its contract: an input's times start at `at`, as the counts before it say, and those of the inputs before it
-- rise. They lie within all times, to whose number the counts add up.
use mathlib.Core.Path.{◌≡◌}
use mathlib.Core.List.{map}
use lib.ListN.{length}
use Rattle.lists.specs.Tables.{tabulate, every}
use Rattle.method.specs.Times.{rise_above}
use Rattle.method.specs.Changes.{schedule, start_of, moments_from}
use Rattle.stimulus.proofs.Turns.{rise_from}
use Rattle.stimulus.proofs.each_rises.Given as goal

abbrev pub invariant-loop-count : goal.invariant-loop-count
invariant-loop-count l =
    (l.at ≡ start_of l.counts l.count-index)
    × (every (map (rise_above 0) (tabulate (length l.counts) (moments_from (schedule l.counts l.changes)))) ≡ rise_from l.counts l.changes l.count-index)
