-- `add_rest` meets its contract: the times from frame k on are still to be added.
use native.Mathlib.Omega.{arith}
use Rattle.gathering.proofs.Merging.{rest_on, rest_end, rest_length}
use Rattle.gathering.proofs.add_rest.Goals as goal

pub loop-k-preserved : goal.loop-k-preserved
loop-k-preserved c =
    let l = c.loop-k in
    (omega arith, rest_on c.args.delay c.args.fanin.now l.n l.k l.gathered l.invariant.1 c.loop-k-test.true (omega (arith, c.requires.3)))

pub returns : goal.returns
returns c =
    let l = c.loop-k in
    record {
      is = rest_end c.args.delay c.args.fanin.now l.n l.k l.gathered l.invariant.1 c.loop-k-test.false;
      size = omega (arith, rest_length c.args.delay c.args.fanin.now c.args.from);
    }
