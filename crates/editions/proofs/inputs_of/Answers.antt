-- `editions::inputs_of` meets its contract. What bytes 0-1 hold, less what the edition adds.
use Rattle.editions.proofs.Widths.{too_few, inputs_left}
use Rattle.editions.proofs.inputs_of.Goals as goal

pub returns-then-held-added : goal.returns-then-held-added
returns-then-held-added c = too_few _ _ c.number_at-held.ensures c.if-held-added.true

pub returns-else-held-added : goal.returns-else-held-added
returns-else-held-added c = inputs_left _ _ c.number_at-held.ensures
