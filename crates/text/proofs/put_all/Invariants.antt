-- `put_all` meets its contract. The bytes before this one are written.
use lib.ListN.{take}
use Rattle.text.specs.Wrote.{Wrote}
use Rattle.text.proofs.put_all.Given as goal

abbrev pub invariant-loop-byte : goal.invariant-loop-byte
invariant-loop-byte l = Wrote l.initial.output l.at (take l.byte-index l.text) l.output l.end
