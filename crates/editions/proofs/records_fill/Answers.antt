-- `editions::records_fill` meets its contract. The loop's invariant: the answer for all pairs is the answer for those from pair j on.
use Rattle.editions.proofs.Heads.{elsewhere, short, next, last}
use Rattle.editions.proofs.records_fill.Goals as goal

pub returns-then-start-end : goal.returns-then-start-end
returns-then-start-end c = elsewhere _ _ _ _ _ c.loop-j-test.true c.loop-j.invariant c.offset_of-start.ensures c.length_of-len.ensures c.if-start-end.true

pub returns-then-len-least : goal.returns-then-len-least
returns-then-len-least c = short _ _ _ _ _ c.loop-j-test.true c.loop-j.invariant c.offset_of-start.ensures c.length_of-len.ensures c.if-start-end.false c.if-len-least.true

pub loop-j-preserved : goal.loop-j-preserved
loop-j-preserved c = next _ _ _ _ _ c.loop-j-test.true c.loop-j.invariant c.offset_of-start.ensures c.length_of-len.ensures c.if-start-end.false c.if-len-least.false

pub returns : goal.returns
returns c = last _ _ _ _ _ c.loop-j-test.false c.loop-j.invariant
