-- Each `return` answers the tests of what is seen in the order of the definition.
use Rattle.expectations.proofs.Judging.{breaks_not, breaks_late, breaks_next, breaks_never}
use Rattle.expectations.proofs.search.breaks.Goals as goal
use Rattle.std.specs.Prelude.{Some, None}

pub returns-then-seen-e : goal.returns-then-seen-e
returns-then-seen-e c = breaks_not _ _ _ _ _ c.times_of-t.ensures c.values_of-v.ensures _ c.sight_at-seen.ensures c.if-seen-e.true

pub returns-then-e-seen : goal.returns-then-e-seen
returns-then-e-seen c = breaks_late _ _ _ _ _ c.times_of-t.ensures c.values_of-v.ensures _ c.sight_at-seen.ensures c.if-seen-e.false c.if-e-seen.true

pub returns-in-Some : goal.returns-in-Some
returns-in-Some c = breaks_next _ _ _ _ _ c.times_of-t.ensures c.values_of-v.ensures _ c.sight_at-seen.ensures c.if-seen-e.false c.if-e-seen.false c.in-Some.is

pub returns-in-None : goal.returns-in-None
returns-in-None c = breaks_never _ _ _ _ _ c.times_of-t.ensures c.values_of-v.ensures _ c.sight_at-seen.ensures c.if-seen-e.false c.if-e-seen.false c.in-None.is
