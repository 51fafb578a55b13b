-- `converter::is_present` meets its contract. It compares what bytes 0-1 hold.
use Rattle.converter.proofs.is_present.Goals as goal

pub returns : goal.returns
returns c = rw c.number_at.ensures
