-- `times_of` meets its contract: it is what the net's pair names, cut off at the area's end.
use Rattle.looks.proofs.Parting.{part_cut}
use Rattle.looks.proofs.parts.times_of.Goals as goal

pub returns : goal.returns
returns c = part_cut _ _ _ c.span_of-span.ensures.0 c.span_of-span.ensures.1
