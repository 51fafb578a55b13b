-- `index_column` meets its contract: the indices from frame k on are still to be stored; the fan-in's frame at the time of
-- frame k is the one begun last, or the next.
use Prim.Native.Nat.{◌-◌}
use native.Mathlib.Omega.{arith}
use native.Mathlib.Nat.{add-zero, zero-mul}
use lib.ListN.{get_or}
use Rattle.method.proofs.Rising.{test_starts}
use Rattle.method.proofs.Lasting.{last_within}
use Rattle.framing.proofs.Indexing.{index_at, walk_start, walk_low, walk_high}
use Rattle.framing.proofs.Columns.{column_on, column_end}
use Rattle.framing.proofs.indices.index_column.Goals as goal

pub loop-k-init : goal.loop-k-init
loop-k-init c =
    let z = walk_start c.args.delay c.args.fanin.now c.args.own.now (test_starts _ c.requires.span.0.starts) c.requires.span_2.0.starts in
    ((λ h. omega arith), (λ h. omega (arith, z)), rw (zero-mul, add-zero))

pub overflow_cast-fanins : goal.overflow_cast-fanins
overflow_cast-fanins c = omega (arith, last_within c.args.fanin.now (get_or c.args.own.now c.loop-k.k 0 - c.args.delay) (test_starts _ c.requires.span.0.starts))

pub loop-k-preserved : goal.loop-k-preserved
loop-k-preserved c =
    let l = c.loop-k in
    let f = c.begun_by-begun.ensures in
    let start = test_starts c.args.fanin.now c.requires.span.0.starts in
    let rises = c.requires.span_2.0.starts in (
      (λ h. rw f (walk_low c.args.delay c.args.fanin.now c.args.own.now start rises l.k h)),
      (λ h. rw f (walk_high c.args.delay c.args.fanin.now c.args.own.now start rises l.k h c.requires.span_2.1)),
      column_on c.args.own.now c.args.delay c.args.at c.args.width c.args.fanin.now l.k l.fanins l.invariant.2 c.loop-k-test.true (index_at c.args.delay c.args.fanin.now c.args.own.now start rises (get_or c.args.own.now l.k 0) f),
    )

pub returns : goal.returns
returns c = column_end c.args.own.now c.args.delay c.args.at c.args.width c.args.fanin.now c.loop-k.k c.loop-k.fanins c.loop-k.invariant.2 c.loop-k-test.false
