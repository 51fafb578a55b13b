-- `merge_times` meets its contract: what is put, and the merge of the times from the frames i and j on, are the gate's times.
use Prim.Native.Nat.{ℕ}
use native.Mathlib.Omega.{arith}
use lib.ListN.{get_or, length-set}
use Rattle.method.proofs.Rising.{test_starts}
use Rattle.gathering.proofs.Spans.{own_some}
use Rattle.gathering.proofs.Merging.{by_one, by_some, merge_none, merge_on, merge_left, merge_right, added, rest_length}
use Rattle.gathering.proofs.merge_times.Goals as goal

pub loop-i-init : goal.loop-i-init
loop-i-init c =
    let one = c.requires.span.0.starts in
    let other = c.requires.span.1.starts in
    (omega arith, own_some _ one, omega arith, own_some _ other, omega arith, merge_none _ _ _ (test_starts _ one) (test_starts _ other) _ (omega arith))

pub returns-then-other-j : goal.returns-then-other-j
returns-then-other-j c =
    let l = c.loop-i in
    let m = merge_left _ _ _ (test_starts _ c.requires.span.0.starts) (test_starts _ c.requires.span.1.starts) _ _ _ _ l.invariant.5 l.invariant.0 l.invariant.2 c.if-other-j.true in
    let n = rest_length c.args.delay c.args.one.now l.i in
    added c.add_rest.ensures m (omega (arith, n, length-set {A = ℕ})) (omega (arith, n))

pub loop-i-preserved : goal.loop-i-preserved
loop-i-preserved c =
    let l = c.loop-i in
    let a = get_or c.args.one.now l.i 0 in
    let b = get_or c.args.other.now l.j 0 in (
      omega arith,
      omega (arith, by_one a b),
      omega arith,
      omega (arith, by_one b a),
      omega (arith, by_some a b),
      merge_on _ _ _ (test_starts _ c.requires.span.0.starts) (test_starts _ c.requires.span.1.starts) _ _ _ _ l.invariant.5 l.invariant.0 l.invariant.2 c.loop-i-test.true c.if-other-j.false
          (omega (arith, length-set {A = ℕ})) (omega arith) c.not_above-i.ensures c.not_above-j.ensures,
    )

pub returns : goal.returns
returns c =
    let l = c.loop-i in
    let m = merge_right _ _ _ (test_starts _ c.requires.span.0.starts) (test_starts _ c.requires.span.1.starts) _ _ _ _ l.invariant.5 l.invariant.0 l.invariant.2 c.loop-i-test.false in
    let n = rest_length c.args.delay c.args.other.now l.j in
    added c.add_rest-2.ensures m (omega (arith, n, length-set {A = ℕ})) (omega (arith, n))
