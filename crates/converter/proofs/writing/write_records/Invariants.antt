-- `converter::write_records` meets its contract. The loop's invariant: the records from gate j on are still to be stored, from the place reached on.
use Rattle.converter.proofs.Rewriting.{Recording}
use Rattle.converter.proofs.writing.write_records.Given as goal

abbrev pub invariant-loop-j : goal.invariant-loop-j
invariant-loop-j l = Recording l.from l.to l.file l.gates l.initial.area l.area l.at l.j
