-- `editions::length_suits` meets its contract. The length decides, else the kind.
use Rattle.editions.proofs.Gated.{length_out, kind_decides}
use Rattle.editions.proofs.length_suits.Goals as goal

pub returns-then-len-head : goal.returns-then-len-head
returns-then-len-head c = length_out _ _ _ _ c.record_head-head.ensures c.if-len-head.true

pub returns : goal.returns
returns c = kind_decides _ _ _ _ c.record_head-head.ensures c.if-len-head.false c.takes_entries.ensures
