-- `put_frame` meets its contract. It is its pieces one behind the other.
use Rattle.text.proofs.Spelling.{frame_put}
use Rattle.text.proofs.put_frame.Goals as goal

pub returns : goal.returns
returns c = frame_put _ _ c.put-a.ensures c.put_number-b.ensures c.put-c.ensures c.put.ensures
