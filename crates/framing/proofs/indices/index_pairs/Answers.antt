-- `index_pairs` meets its contract: the rows from frame k on are still to be stored; the frame of each fan-in at the time of frame k is
-- the one begun last, or the next.
use Prim.Native.Nat.{◌-◌}
use native.Mathlib.Omega.{arith}
use native.Mathlib.Nat.{add-zero}
use lib.ListN.{get_or}
use Rattle.method.proofs.Rising.{test_starts}
use Rattle.method.proofs.Lasting.{last_within}
use Rattle.framing.proofs.Indexing.{index_at, walk_start, walk_low, walk_high}
use Rattle.framing.proofs.Columns.{pairs_on, pairs_end}
use Rattle.framing.proofs.indices.index_pairs.Goals as goal

pub loop-k-init : goal.loop-k-init
loop-k-init c =
    let z = walk_start c.args.delay c.args.one.now c.args.own.now (test_starts _ c.requires.span.0.starts) c.requires.span_2.0.starts in
    let u = walk_start c.args.delay c.args.other.now c.args.own.now (test_starts _ c.requires.span.1.starts) c.requires.span_2.0.starts in
    ((λ h. omega arith), (λ h. omega (arith, z)), (λ h. omega arith), (λ h. omega (arith, u)), rw add-zero)

pub overflow_cast-fanins : goal.overflow_cast-fanins
overflow_cast-fanins c = omega (arith, last_within c.args.one.now (get_or c.args.own.now c.loop-k.k 0 - c.args.delay) (test_starts _ c.requires.span.0.starts))

pub overflow_cast-fanins-in-loop-k : goal.overflow_cast-fanins-in-loop-k
overflow_cast-fanins-in-loop-k c = omega (arith, last_within c.args.other.now (get_or c.args.own.now c.loop-k.k 0 - c.args.delay) (test_starts _ c.requires.span.1.starts))

pub loop-k-preserved : goal.loop-k-preserved
loop-k-preserved c =
    let l = c.loop-k in
    let d = c.args.delay in
    let own = c.args.own.now in
    let x = c.begun_by-x.ensures in
    let y = c.begun_by-y.ensures in
    let one = test_starts c.args.one.now c.requires.span.0.starts in
    let other = test_starts c.args.other.now c.requires.span.1.starts in
    let rises = c.requires.span_2.0.starts in (
      (λ h. rw x (walk_low d c.args.one.now own one rises l.k h)),
      (λ h. rw x (walk_high d c.args.one.now own one rises l.k h c.requires.span_2.1)),
      (λ h. rw y (walk_low d c.args.other.now own other rises l.k h)),
      (λ h. rw y (walk_high d c.args.other.now own other rises l.k h c.requires.span_2.2)),
      pairs_on own d c.args.first c.args.one.now c.args.other.now l.k l.fanins l.invariant.4 c.loop-k-test.true (index_at d c.args.one.now own one rises (get_or own l.k 0) x) (index_at d c.args.other.now own other rises (get_or own l.k 0) y),
    )

pub returns : goal.returns
returns c = pairs_end c.args.own.now c.args.delay c.args.first c.args.one.now c.args.other.now c.loop-k.k c.loop-k.fanins c.loop-k.invariant.4 c.loop-k-test.false
