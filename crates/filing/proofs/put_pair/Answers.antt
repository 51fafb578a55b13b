-- `filing::put_pair` meets its contract. One number behind the other.
use Rattle.filing.proofs.Putting.{put_twice}
use Rattle.filing.proofs.put_pair.Goals as goal

pub returns : goal.returns
returns c = put_twice _ _ _ _ c.put_number.ensures c.put_number-2.ensures
