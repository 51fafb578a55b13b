-- `put_time` meets its contract: the place is behind the times at the front that are earlier.
use native.Mathlib.Omega.{arith}
use Rattle.gathering.proofs.Inserting.{insert_kept, insert_put}
use Rattle.gathering.proofs.put_time.Goals as goal
use Rattle.gathering.proofs.put_time.Goals.{else-place-count-via-then-place-count+else-gathered-place, else-place-count-via-else-place-count}

pub returns-then-gathered-place : goal.returns-then-gathered-place
returns-then-gathered-place c = insert_kept _ _ _ c.requires.0 c.requires.1 c.requires.2 c.if-place-count.true c.if-gathered-place.true

pub returns : goal.returns
returns c =
    insert_put _ _ _ c.requires.0 c.requires.1 c.requires.2
    (elim c.else-place-count.branch [ else-place-count-via-then-place-count+else-gathered-place w ↦ λ l e. w.if-gathered-place.false e | else-place-count-via-else-place-count w ↦ λ l e. absurd (omega (arith, w.if-place-count.false)) ])
    c.shift.ensures
