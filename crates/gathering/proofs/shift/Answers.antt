-- `shift` meets its contract: after each turn the numbers from place i on stand one place on.
use mathlib.Core.Path.{◌≡◌, ◌∙◌}
use native.Mathlib.Omega.{arith}
use Rattle.std.proofs.lemmas.Grind.{common_steps}
use Rattle.gathering.proofs.shift.Goals as goal

pub returns : goal.returns
returns c = let e : c.loop-i.i ≡ c.args.place = omega arith in c.loop-i.invariant.1 ∙ rw e

pub loop-i-preserved : goal.loop-i-preserved
loop-i-preserved c = grind (arith, common_steps)
