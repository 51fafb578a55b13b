-- No frame that Level answers ends at 0: the time that was asked for is before the end.
-- Assumes nothing.
use mathlib.Core.Path.{refl, ap, subst, ◌∙◌}
use Prim.Native.Nat.{◌<◌}
use mathlib.Core.Bool.{Bool}
use mathlib.Core.List.{List, map}
use native.Mathlib.Omega.{arith}
use Rattle.lists.specs.Ladder.{first_no}
use Rattle.lists.proofs.Ladders.{accepted_none}
use Rattle.method.specs.Words.{lane}
use Rattle.method.specs.Look.{level}
use Rattle.method.proofs.Rising.{test_starts}
use Rattle.looks.specs.Sight.{Sight, sight}
use Rattle.looks.specs.Look.{look_questions, level_of}
use Rattle.looks.specs.Holds.{Before}
use Rattle.looks.proofs.Seeing.{answered}
use Rattle.looks.proofs.Holding.{holds}
use Rattle.answers.specs.Ends.{NoneAt0}

pub none_at_0 : NoneAt0
unfolding level_of
none_at_0 times values L t s e ends =
    let a = accepted_none (first_no (look_questions times values L)) (sight times (map (lane L) values) t) e in
    let bits : List Bool = map (lane L) values in
    let starts = test_starts times (answered times values L refl a.0).rises in
    let lasts : Before t (sight times bits t).end = (holds times starts bits (level times bits) (λ u. refl) t).lasts in
    let none : t < 0 = subst (Before t) (ap (λ (x : Sight). x.end) a.1 ∙ ends) lasts in
    omega (arith, none)
