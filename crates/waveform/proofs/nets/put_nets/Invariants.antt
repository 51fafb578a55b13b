-- `waveform::put_nets` meets its contract. After so many turns the lines of so many nets are written.
use Rattle.text.specs.Wrote.{Wrote}
use Rattle.waveform.specs.Steps.{area_lines}
use Rattle.waveform.proofs.nets.put_nets.Given as goal

abbrev pub invariant-loop-net : goal.invariant-loop-net
invariant-loop-net l = Wrote l.initial.output 0 (area_lines l.directory l.times l.values l.net) l.output l.end
