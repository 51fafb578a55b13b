-- `words_suit` meets its contract: the two lengths are asked in turn.
use Rattle.stimulus.proofs.Asked.{not_before, after_decides}
use Rattle.stimulus.proofs.words_suit.Goals as goal

pub returns-then-words-inputs : goal.returns-then-words-inputs
returns-then-words-inputs c = not_before _ _ _ c.if-words-inputs.true

pub returns : goal.returns
returns c = after_decides _ _ _ c.if-words-inputs.false
