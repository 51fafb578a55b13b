-- `first_above` meets its contract: the search stands at place k, all numbers before it from `from` on being at most the limit.
use native.Mathlib.Omega.{arith}
use Rattle.lists.proofs.Leading.{search_on, search_stop, search_end}
use Rattle.slices.proofs.first_above.Goals as goal

pub loop-k-preserved : goal.loop-k-preserved
loop-k-preserved c = (omega arith, search_on _ _ _ c.loop-k.invariant.1 c.loop-k-test.true c.if-limit-row.false)

pub returns-then-limit-row : goal.returns-then-limit-row
returns-then-limit-row c = omega (arith, search_stop _ _ _ c.loop-k.invariant.1 c.loop-k-test.true c.if-limit-row.true)

pub returns-after-loop-k : goal.returns-after-loop-k
returns-after-loop-k c = omega (arith, search_end _ _ _ c.loop-k.invariant.1 c.loop-k-test.false)
