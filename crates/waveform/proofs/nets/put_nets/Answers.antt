-- `waveform::put_nets` meets its contract. After so many turns the lines of so many nets are written.
use Rattle.waveform.proofs.Lining.{lines_none, lines_more}
use Rattle.waveform.proofs.nets.put_nets.Goals as goal

pub loop-net-init : goal.loop-net-init
loop-net-init c = lines_none _ _ _ _ _

pub loop-net-preserved : goal.loop-net-preserved
loop-net-preserved c = lines_more _ _ _ _ c.loop-net.invariant c.put_net-end.ensures
