-- `editions::ask_gates` meets its contract. The loop's invariant: the first "no" of all gates is that of the gates from gate j on.
use Prim.Native.Nat.{◌-◌}
use mathlib.Core.Path.{◌≡◌}
use mathlib.Core.List.{flatten}
use Rattle.lists.specs.Ladder.{first_no}
use Rattle.lists.specs.Tables.{tabulate, tabulate_from}
use Rattle.editions.specs.Questions.{gate_questions}
use Rattle.editions.proofs.ask_gates.Given as goal

abbrev pub invariant-loop-j : goal.invariant-loop-j
invariant-loop-j l = first_no (flatten (tabulate l.gates (gate_questions l.edition l.file))) ≡ first_no (flatten (tabulate_from (l.gates - l.j) l.j (gate_questions l.edition l.file)))
