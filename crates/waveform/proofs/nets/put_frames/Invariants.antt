-- `waveform::put_frames` meets its contract. After k turns the first k frames are written.
use Rattle.text.specs.Wrote.{Wrote}
use Rattle.waveform.specs.Steps.{part_frames}
use Rattle.waveform.proofs.nets.put_frames.Given as goal

abbrev pub invariant-loop-k : goal.invariant-loop-k
invariant-loop-k l = Wrote l.initial.output l.at (part_frames l.times l.values l.k) l.output l.end
