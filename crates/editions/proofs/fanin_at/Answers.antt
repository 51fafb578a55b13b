-- `editions::fanin_at` meets its contract. It is the number at the entry's place.
use Rattle.editions.proofs.fanin_at.Goals as goal

pub returns : goal.returns
returns c = c.number_in.ensures
