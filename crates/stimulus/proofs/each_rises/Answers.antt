-- `each_rises` meets its contract: an input's times start at `at`, as the counts before it say, and those of the inputs before it
-- rise. They lie within all times, to whose number the counts add up.
use native.Mathlib.Omega.{arith}
use Rattle.stimulus.proofs.Turns.{start_next, part_within, input_no, input_on, input_end}
use mathlib.Core.Path.{ap}
use mathlib.Core.Bool.{not}
use Rattle.stimulus.proofs.each_rises.Goals as goal

pub overflow_add-end : goal.overflow_add-end
overflow_add-end c = omega (arith, part_within c.args.counts.now c.args.changes.now c.loop-count.count-index c.loop-count-test.true c.requires c.loop-count.invariant.0)

pub offset_bounds-changes-at : goal.offset_bounds-changes-at
offset_bounds-changes-at c = omega (arith, part_within c.args.counts.now c.args.changes.now c.loop-count.count-index c.loop-count-test.true c.requires c.loop-count.invariant.0)

pub slice_bounds-rises-end : goal.slice_bounds-rises-end
slice_bounds-rises-end c = omega (arith, part_within c.args.counts.now c.args.changes.now c.loop-count.count-index c.loop-count-test.true c.requires c.loop-count.invariant.0)

pub returns-then-not-rises : goal.returns-then-not-rises
returns-then-not-rises c = input_no _ _ _ c.loop-count.invariant.1 c.loop-count-test.true c.loop-count.invariant.0 c.rises.ensures (ap not c.if-not-rises.true)

pub loop-count-preserved : goal.loop-count-preserved
loop-count-preserved c = (start_next c.args.counts.now c.loop-count.count-index c.loop-count.invariant.0, input_on _ _ _ c.loop-count.invariant.1 c.loop-count-test.true c.loop-count.invariant.0 c.rises.ensures (ap not c.if-not-rises.false))

pub returns : goal.returns
returns c = input_end c.args.counts.now c.args.changes.now _ c.loop-count.invariant.1 c.loop-count-test.false
