-- `waveform::put_frames` meets its contract. After k turns the first k frames are written.
use Rattle.waveform.proofs.Lining.{frames_none, frames_more}
use Rattle.waveform.proofs.nets.put_frames.Goals as goal

pub loop-k-init : goal.loop-k-init
loop-k-init c = frames_none _ _ _ _

pub loop-k-preserved : goal.loop-k-preserved
loop-k-preserved c = frames_more _ _ _ c.loop-k.invariant _ c.sight_at-seen.ensures c.put_frame-end.ensures
