-- `converter::write_pairs` meets its contract. The loop's invariant: the pairs from gate j on are still to be stored.
use Rattle.converter.proofs.Rewriting.{Pairing}
use Rattle.converter.proofs.writing.write_pairs.Given as goal

abbrev pub invariant-loop-j : goal.invariant-loop-j
invariant-loop-j l = Pairing l.from l.to l.file l.gates l.initial.area l.area l.start l.j
