-- The text that is answered lies within the buffer.
use Rattle.std.proofs.Common.{length-take-le}
use mathlib.Core.Path.{sym}
use Rattle.waveform.proofs.Paging.{printed_inside}
use Rattle.wave.proofs.main.Goals as goal

pub slice_bounds-output-end : goal.slice_bounds-output-end
slice_bounds-output-end c = printed_inside _ _ _ c.wave.ensures c.in-Ok-wave.is

pub slice_bounds-write_output-end : goal.slice_bounds-write_output-end
slice_bounds-write_output-end c = sym (length-take-le _ _ (printed_inside _ _ _ c.wave.ensures c.in-Ok-wave.is))
