-- `after_net` meets its contract: the net's words are where its pair in the directory says.
use Rattle.std.proofs.Common.{arith}
use Rattle.charge_loads.proofs.Added.{past_nets, of_net}
use Rattle.charge_loads.proofs.drawing.after_net.Goals as goal

pub returns-in_default : goal.returns-in_default
returns-in_default c = let s = c.args in past_nets s.load s.lane s.directory.now s.values.now s.i s.total (omega (arith, c.in_default.ensures))

pub returns : goal.returns
returns c = let s = c.args in
    of_net s.load s.lane s.directory.now s.values.now s.i s.total (omega (arith, c.in-Ok.ensures)) (rw c.in-Ok.ensures.1 at c.values_of-part.ensures) c.after_frames.ensures
