-- `rises` meets its contract: the times before this one rise to the last of them.
use Rattle.stimulus.proofs.Turns.{rise_on, rise_stop, rise_end}
use Rattle.stimulus.proofs.rises.Goals as goal

pub returns-then-time-last : goal.returns-then-time-last
returns-then-time-last c = rise_stop _ _ _ c.loop-time.invariant c.loop-time-test.true c.if-time-last.true

pub loop-time-preserved : goal.loop-time-preserved
loop-time-preserved c = rise_on _ _ _ c.loop-time.invariant c.loop-time-test.true c.if-time-last.false

pub returns : goal.returns
returns c = rise_end _ _ _ c.loop-time.invariant c.loop-time-test.false
