-- `converter::copy_fanins` meets its contract. The loop's invariant: the entries from the i-th on are still to be stored.
use Rattle.editions.specs.File.{fanin_at}
use Rattle.converter.proofs.Rewriting.{Copying}
use Rattle.converter.proofs.writing.copy_fanins.Given as goal

abbrev pub invariant-loop-i : goal.invariant-loop-i
invariant-loop-i l = Copying (fanin_at l.file l.list) l.initial.area l.at l.entries l.area l.i
