-- `filing::put_head` meets its contract. Kind, d and di, one behind the other.
use Rattle.filing.proofs.Putting.{head_put}
use Rattle.filing.proofs.put_head.Goals as goal

pub returns : goal.returns
returns c = head_put _ _ _ _ _ _ c.from.ensures c.delay_bytes.ensures c.put_byte.ensures c.put_delay.ensures c.put_delay-2.ensures
