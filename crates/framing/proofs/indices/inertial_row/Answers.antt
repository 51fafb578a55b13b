-- `inertial_row` meets its contract: the indices from frame k on are still to be stored; the search for the end of what is
-- within reach of frame k stands between that frame and the end.
use native.Mathlib.Omega.{arith}
use Rattle.lists.proofs.Storing.{more, all}
use Rattle.method.proofs.Planned.{inertial_length}
use Rattle.framing.proofs.Indexing.{end_behind, end_within, end_index, end_next}
use Rattle.framing.proofs.indices.inertial_row.Goals as goal

pub overflow_sub-inertial : goal.overflow_sub-inertial
overflow_sub-inertial c =
    let l = c.loop-k in
    let h = c.loop-k-test.true in
    omega (arith, end_behind c.args.reach c.args.own.now c.requires.span.starts l.k l.later h l.invariant.0 (l.invariant.1 h) c.first_above-later.ensures)

pub overflow_cast-inertial : goal.overflow_cast-inertial
overflow_cast-inertial c =
    let l = c.loop-k in
    let h = c.loop-k-test.true in
    omega (arith, end_within c.args.reach c.args.own.now c.requires.span.starts l.k l.later h l.invariant.0 (l.invariant.1 h) c.first_above-later.ensures)

pub loop-k-preserved : goal.loop-k-preserved
loop-k-preserved c =
    let l = c.loop-k in
    let h = c.loop-k-test.true in
    let i = l.invariant in
    let starts = c.requires.span.starts in
    let found = c.first_above-later.ensures in (
      end_behind c.args.reach c.args.own.now starts l.k l.later h i.0 (i.1 h) found,
      end_next c.args.reach c.args.own.now starts l.k l.later h i.0 (i.1 h) found,
      more i.2 (rw (inertial_length c.args.reach c.args.own.now) h) (end_index c.args.reach c.args.own.now starts l.k l.later h i.0 (i.1 h) found),
    )

pub returns : goal.returns
returns c = all c.loop-k.invariant.2 (rw (inertial_length c.args.reach c.args.own.now) c.loop-k-test.false)
