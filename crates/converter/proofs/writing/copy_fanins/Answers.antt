-- `converter::copy_fanins` meets its contract. The loop's invariant: the entries from the i-th on are still to be stored.
use Rattle.converter.proofs.Rewriting.{copy_more, copy_all}
use Rattle.converter.proofs.writing.copy_fanins.Goals as goal

pub loop-i-preserved : goal.loop-i-preserved
loop-i-preserved c = copy_more _ _ _ _ c.loop-i.invariant c.loop-i-test.true c.fanin_at-fanin.ensures c.put_number.ensures

pub returns : goal.returns
returns c = copy_all _ _ _ _ c.loop-i.invariant c.loop-i-test.false
