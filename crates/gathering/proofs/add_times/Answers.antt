-- `add_times` meets its contract: the later times from the index on are still to be put in, none before `place`.
use Prim.Native.Nat.{◌+◌, ◌-◌}
use native.Mathlib.Omega.{arith}
use lib.ListN.{length, get_or, take, drop}
use lib.Seq.{length-take-le}
use Rattle.std.proofs.lemmas.List.{take_rest}
use Rattle.gathering.proofs.Inserting.{place_found, place_next, inserted}
use Rattle.gathering.proofs.Spans.{later_next}
use Rattle.gathering.proofs.Gathered.{into_on, into_end}
use Rattle.gathering.proofs.add_times.Goals as goal

pub put_time-n-requires : goal.put_time-n-requires
put_time-n-requires c = (omega arith, omega arith, place_found _ _ _ _ (c.loop-s.invariant.1 c.loop-s-test.true) c.first_above-place.ensures)

pub loop-s-preserved : goal.loop-s-preserved
loop-s-preserved c =
    let l = c.loop-s in
    let later = take (length c.args.fanin.now - 1) (drop 1 c.args.fanin.now) in
    let i = c.put_time-n.ensures in (
      omega (arith, i.most),
      (λ h. place_next i (omega arith) (place_found _ _ _ _ (l.invariant.1 c.loop-s-test.true) c.first_above-place.ensures) (get_or later (l.s-index + 1) 0 + c.args.delay) (omega (arith, later_next c.args.fanin.now c.requires.fanin_value.0 (take_rest c.args.fanin.now 1) l.s-index h))),
      rw (← inserted i) (into_on later c.args.delay l.s-index (take l.n l.gathered) l.invariant.2 c.loop-s-test.true),
    )

pub returns : goal.returns
returns c =
    let l = c.loop-s in
    let e = rw take_rest at (into_end _ c.args.delay l.s-index (take l.n l.gathered) l.invariant.2 c.loop-s-test.false) in
    record { is = e; size = rw (← e) (length-take-le _ _ (omega arith)); few = omega arith }
