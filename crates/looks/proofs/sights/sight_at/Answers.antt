-- `sight_at` meets its contract: level, begin and end are each what is seen of the frame.
use native.Mathlib.Omega.{arith}
use Rattle.looks.proofs.Sighting.{sight_is}
use Rattle.looks.proofs.sights.sight_at.Goals as goal

pub returns : goal.returns
returns c = let s = c.args in sight_is s.times.now _ s.values.now _ _ c.entry_at.ensures c.bit_of-level.ensures (omega (arith, c.entry_at-2.ensures)) c.until-until.ensures
