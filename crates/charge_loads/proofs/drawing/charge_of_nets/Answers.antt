-- A turn of the loop adds what one net draws.
use Rattle.std.proofs.Common.{arith, sym, ◌∙◌}
use Rattle.charge_loads.specs.Steps.{parts_in}
use Rattle.charge_loads.proofs.Added.{total_start, total_end, total_on}
use Rattle.charge_loads.proofs.drawing.charge_of_nets.Goals as goal

pub loop-i-init : goal.loop-i-init
loop-i-init c = total_start _ c.args.loads.now

pub loop-i-preserved : goal.loop-i-preserved
loop-i-preserved c =
    let levels = parts_in c.args.directory.now c.args.values.now c.args.lane in
    c.loop-i.invariant ∙ sym (total_on levels c.args.loads.now c.loop-i.i c.loop-i.total _ c.loop-i-test.true c.after_net-total.ensures)

pub returns : goal.returns
returns c = let levels = parts_in c.args.directory.now c.args.values.now c.args.lane in
    sym (c.loop-i.invariant ∙ total_end levels c.args.loads.now c.loop-i.i c.loop-i.total (omega arith))
