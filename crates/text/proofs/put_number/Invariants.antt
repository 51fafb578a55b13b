-- `put_number` meets its contract. The digits at the powers before this one are written.
use mathlib.Core.List.{flatten}
use Rattle.lists.specs.Tables.{tabulate}
use Rattle.text.specs.Wrote.{Wrote}
use Rattle.text.proofs.Spelling.{digit_by}
use Rattle.text.proofs.put_number.Given as goal

abbrev pub invariant-loop-power : goal.invariant-loop-power
invariant-loop-power l = Wrote l.initial.output l.at (flatten (tabulate l.power-index (digit_by l.n))) l.output l.end
