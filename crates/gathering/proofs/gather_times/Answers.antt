-- `gather_times` meets its contract: the times of the fan-ins from e on are still to be put in.
use Prim.Native.Nat.{◌≤◌}
use mathlib.Core.Path.{◌∙◌}
use native.Mathlib.Omega.{arith}
use lib.ListN.{length, take, length-set}
use lib.Seq.{length-take-le}
use Rattle.method.specs.Limits.{most_net_frames}
use Rattle.gathering.specs.Steps.{spans}
use Rattle.gathering.proofs.Gathered.{gather_on, gather_end, gathered, one_in}
use Rattle.gathering.proofs.Spans.{spans_start, spans_end, next_at, fanin_few, fanin_early}
use Rattle.gathering.proofs.gather_times.Goals as goal

pub loop-e-init : goal.loop-e-init
loop-e-init c = (omega arith, rw (← one_in c.args.gathered.now (omega arith)))

pub add_times-count-requires : goal.add_times-count-requires
add_times-count-requires c =
    let f = c.requires.fed in
    let e = c.loop-e.e in
    let h = c.loop-e-test.true in
    let n = c.fanin_at.ensures in
    let few : length c.times_of-fanin.result.now ≤ most_net_frames = rw c.times_of-fanin.ensures (fanin_few f e h n) in
    record {
      fanin_value = (rw (c.times_of-fanin.ensures, n) (f.starts e h), λ i. rw c.times_of-fanin.ensures (fanin_early f e h n i));
      le_delay = (f.delay_least, f.delay_most, omega (arith, length-set c.args.gathered.now 0 0));
    }

pub loop-e-preserved : goal.loop-e-preserved
loop-e-preserved c =
    let l = c.loop-e in
    let few : length c.times_of-fanin.result.now ≤ most_net_frames = rw c.times_of-fanin.ensures (fanin_few c.requires.fed l.e c.loop-e-test.true c.fanin_at.ensures) in (
      omega arith,
      gather_on _ c.args.gate.delay l.e (take l.count l.gathered) l.invariant.1 (next_at _ _ _ _ _ _ c.loop-e-test.true c.fanin_at.ensures c.times_of-fanin.ensures) c.add_times-count.ensures.is,
    )

pub returns : goal.returns
returns c =
    let l = c.loop-e in
    let all = spans c.args.file.now c.args.gate.list c.args.gate.entries c.args.directory.now c.args.times.now in
    let g = gathered c.args.gate.delay all (spans_start c.requires.fed) in
    let e = gather_end all c.args.gate.delay l.e (take l.count l.gathered) l.invariant.1 (spans_end _ _ _ _ _ _ c.loop-e-test.false) in
    record { is = e ∙ g; size = rw (← g, ← e) (length-take-le _ _ (omega (arith, length-set c.args.gathered.now 0 0))); few = omega arith }
