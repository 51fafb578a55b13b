-- `put_all` meets its contract. The bytes before this one are written.
use Rattle.text.proofs.Putting.{wrote_byte}
use Rattle.text.proofs.put_all.Goals as goal

pub loop-byte-preserved : goal.loop-byte-preserved
loop-byte-preserved c = wrote_byte _ _ c.loop-byte-test.true c.loop-byte.invariant c.put-end.ensures
