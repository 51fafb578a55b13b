-- `words::filter` meets its contract. Frame 0 stands; then the whole is what is decided, followed by the filter of the rest, which is still raw.
use Prim.Native.Nat.{◌+◌, ◌-◌}
use mathlib.Core.Path.{◌≡◌, refl}
use borrow.Author.Rules.{rules}
use native.Mathlib.Omega.{arith}
use lib.ListN.{length, length-set}
use Rattle.words.proofs.Filtering.{not_indexed, no_frames_lem, filter_start, filter_turn, filter_end}
use Rattle.words.proofs.filter.Goals as goal

pub returns-then-inertial-frames : goal.returns-then-inertial-frames
returns-then-inertial-frames c = let s = c.args in not_indexed s.inertial.now s.words.now (omega arith)

pub returns-then-frames-eq0 : goal.returns-then-frames-eq0
returns-then-frames-eq0 c = let s = c.args in no_frames_lem s.inertial.now s.words.now (omega arith) (omega arith)

pub loop-k-init : goal.loop-k-init
loop-k-init c = let s = c.args in
    (refl, filter_start s.inertial.now s.words.now (omega arith))

pub loop-k-preserved : goal.loop-k-preserved
loop-k-preserved c = let s = c.args in
    let l = c.loop-k in
    let count = c.min-count.result in
    let kept = rw (let q : l.k + 1 + count - (l.k + 1) ≡ count = omega arith in q) at c.kept-before.ensures in
    (simp length-set (omega arith), filter_turn s.inertial.now l.words l.k l.before count c.kept-before.result (length s.words.now) (omega arith) (omega arith) (omega arith) c.min-count.ensures kept l.invariant.1)

pub returns : goal.returns
returns c = let s = c.args in
    let l = c.loop-k in
    filter_end s.inertial.now s.words.now l.words l.k l.before (omega arith) (omega arith) (omega arith) (search rules) l.invariant.1
