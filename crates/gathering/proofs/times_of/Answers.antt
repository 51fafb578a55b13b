-- `times_of` meets its contract: the pair of the net says where its times stand.
use mathlib.Core.Path.{refl}
use Rattle.method.proofs.Laying.{part_read}
use Rattle.gathering.proofs.times_of.Goals as goal

pub returns : goal.returns
returns c = part_read _ _ _ refl refl
