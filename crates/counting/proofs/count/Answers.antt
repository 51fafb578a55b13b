-- `count` meets its contract: the inputs, then the gates, in areas of zeros.
use mathlib.Core.Path.{refl}
use native.Mathlib.Omega.{arith}
use Rattle.counting.proofs.Walking.{opened, begun}
use Rattle.counting.proofs.count.Goals as goal

pub add_inputs-start-requires : goal.add_inputs-start-requires
add_inputs-start-requires c = opened _ c.requires.0 refl refl

pub count_gates-requires : goal.count_gates-requires
count_gates-requires c = let s = c in (begun _ s.requires.0 refl refl c.add_inputs-start.ensures (omega (arith, c.add_inputs-start.auto)) (omega (arith, c.add_inputs-start.auto)), s.requires.1, s.requires.2)
