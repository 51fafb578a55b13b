-- `waveform::list_length` meets its contract. Each test decides.
use Rattle.waveform.proofs.Taking.{list_uneven, list_long, list_even}
use Rattle.waveform.proofs.input.list_length.Goals as goal

pub returns-then-part-ne0 : goal.returns-then-part-ne0
returns-then-part-ne0 c = list_uneven _ c.if-part-ne0.true

pub returns-then-part-gt-MOST_WORD_BYTES : goal.returns-then-part-gt-MOST_WORD_BYTES
returns-then-part-gt-MOST_WORD_BYTES c = list_long _ c.if-part-gt-MOST_WORD_BYTES.true

pub returns : goal.returns
returns c = list_even _ c.if-part-ne0.false c.if-part-gt-MOST_WORD_BYTES.false
