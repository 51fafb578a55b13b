-- `editions::inputs_suit` meets its contract. What is left without what the edition adds decides.
use Rattle.editions.proofs.Heads.{held_low, held_less}
use Rattle.editions.proofs.inputs_suit.Goals as goal

pub returns-then-held-added : goal.returns-then-held-added
returns-then-held-added c = held_low _ _ c.if-held-added.true

pub returns : goal.returns
returns c = held_less _ _ c.if-held-added.false c.is_between.ensures
