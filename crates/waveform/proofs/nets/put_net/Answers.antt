-- `waveform::put_net` meets its contract. It is its pieces one behind the other.
use Rattle.waveform.proofs.Lining.{line_put}
use Rattle.waveform.proofs.nets.put_net.Goals as goal

pub returns : goal.returns
returns c = line_put _ _ _ _ c.entry_at-frames.ensures c.times_of-t.ensures c.values_of-v.ensures c.put_number-a.ensures c.put_frames-b.ensures c.put_newline.ensures
