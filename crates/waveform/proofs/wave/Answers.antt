-- `waveform::wave` meets its contract. The buffer is cleared, so the text that is written to its start stands there with zeros behind it.
use mathlib.Core.Path.{sym, ◌∙◌}
use Rattle.waveform.proofs.Taking.{whole_room}
use Rattle.waveform.proofs.Paging.{page_other, page_refused, page_answer}
use mathlib.Core.Path.{ap}
use mathlib.Core.Bool.{not}
use Rattle.waveform.proofs.wave.Goals as goal

pub returns-then-output-ne-BUFFER_LENGTH : goal.returns-then-output-ne-BUFFER_LENGTH
returns-then-output-ne-BUFFER_LENGTH c = page_other _ _ c.if-output-ne-BUFFER_LENGTH.true

pub returns-then-not-is_whole : goal.returns-then-not-is_whole
returns-then-not-is_whole c = page_refused _ _ c.if-output-ne-BUFFER_LENGTH.false c.clear.ensures c.is_whole.ensures (ap not c.if-not-is_whole.true) c.put_refused.ensures

pub slice_bounds-put_answer-end : goal.slice_bounds-put_answer-end
slice_bounds-put_answer-end c = whole_room c.args.input.now (sym c.is_whole.ensures ∙ c.if-not-is_whole.false) c.number_at.ensures

pub slice_bounds-put_answer-count-2 : goal.slice_bounds-put_answer-count-2
slice_bounds-put_answer-count-2 c = whole_room c.args.input.now (sym c.is_whole.ensures ∙ c.if-not-is_whole.false) c.number_at.ensures

pub slice_bounds-put_answer-start-2 : goal.slice_bounds-put_answer-start-2
slice_bounds-put_answer-start-2 c = whole_room c.args.input.now (sym c.is_whole.ensures ∙ c.if-not-is_whole.false) c.number_at.ensures

pub returns : goal.returns
returns c = page_answer _ _ c.if-output-ne-BUFFER_LENGTH.false c.clear.ensures c.is_whole.ensures (ap not c.if-not-is_whole.false) _ c.number_at.ensures c.put_answer.ensures
