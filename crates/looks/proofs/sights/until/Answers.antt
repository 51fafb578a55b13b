-- `until` meets its contract: behind the last frame there is no time, behind another the next frame's is the first.
use native.Mathlib.Omega.{arith}
use Rattle.looks.specs.Sight.{end_on_paper}
use Rattle.looks.proofs.Sighting.{ends_never, ends_next}
use Rattle.looks.proofs.sights.until.Goals as goal

pub returns-in_err-next : goal.returns-in_err-next
returns-in_err-next c = rw c.from_residual.ensures (ends_never c.args.times.now _ c.in_err-next.ensures.lookup.3)

pub returns : goal.returns
returns c = let g = c.in_ok-next.ensures.lookup in ends_next c.args.times.now _ g.3.0 (g.4 (omega arith) 0)
