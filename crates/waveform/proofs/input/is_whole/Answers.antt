-- `waveform::is_whole` meets its contract. Each test decides.
use Rattle.waveform.proofs.Taking.{whole_short, whole_long, whole_end}
use Rattle.waveform.proofs.input.is_whole.Goals as goal

pub returns-then-input-lt2 : goal.returns-then-input-lt2
returns-then-input-lt2 c = whole_short _ c.if-input-lt2.true

pub returns-then-input-gt-MOST_BYTES : goal.returns-then-input-gt-MOST_BYTES
returns-then-input-gt-MOST_BYTES c = whole_long _ c.if-input-lt2.false c.if-input-gt-MOST_BYTES.true

pub returns : goal.returns
returns c = whole_end _ c.if-input-lt2.false c.if-input-gt-MOST_BYTES.false c.number_at.ensures
