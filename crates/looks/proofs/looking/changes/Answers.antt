-- `changes` meets its contract: the loop stands at frame k, and n of the frames before it are changes.
use native.Mathlib.Omega.{arith}
use Rattle.looks.proofs.Pairs.{changes_start, changes_turn, changes_end, bit_most}
use Rattle.looks.proofs.looking.changes.Goals as goal

pub loop-k-init : goal.loop-k-init
loop-k-init c = (omega arith, omega arith, changes_start c.args.lane c.args.values.now)

pub loop-k-preserved : goal.loop-k-preserved
loop-k-preserved c = let s = c.args in
    let inv = c.loop-k.invariant in
    (omega arith, omega (arith, inv.1, c.from-n.ensures, bit_most c.bit_of.result), changes_turn s.lane s.values.now _ _ inv.2 c.loop-k-test.true c.bit_of.ensures (omega (arith, c.from-n.ensures)))

pub returns : goal.returns
returns c = let s = c.args in changes_end s.lane s.values.now _ _ c.loop-k.invariant.2 c.loop-k-test.false
