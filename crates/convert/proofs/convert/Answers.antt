-- The file that is answered lies within the area.
use Rattle.std.proofs.Common.{length-take-le}
use mathlib.Core.Path.{sym}
use Rattle.converter.proofs.Conversions.{other_inside}
use Rattle.convert.proofs.convert.Goals as goal

pub slice_bounds-area-end : goal.slice_bounds-area-end
slice_bounds-area-end g c = other_inside _ _ c.other.ensures c.in-Ok.is

pub slice_bounds-write_output-end : goal.slice_bounds-write_output-end
slice_bounds-write_output-end g c = sym (length-take-le _ _ (other_inside _ _ c.other.ensures c.in-Ok.is))
