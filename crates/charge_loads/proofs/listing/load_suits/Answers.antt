-- `load_suits` meets its contract.
use Rattle.charge_loads.proofs.Listed.{any_suits, both_suit, first_unfit}
use Rattle.charge_loads.proofs.listing.load_suits.Goals as goal

pub returns-in-Any : goal.returns-in-Any
returns-in-Any c = any_suits c.in-Any.is c.in_range.ensures

pub returns-then-in_range : goal.returns-then-in_range
returns-then-in_range c = both_suit c.in-Edges.is c.in_range-in-Edges.ensures c.if-in_range.true c.in_range-then-in_range.ensures

pub returns-else-in_range : goal.returns-else-in_range
returns-else-in_range c = first_unfit c.in-Edges.is c.in_range-in-Edges.ensures c.if-in_range.false
