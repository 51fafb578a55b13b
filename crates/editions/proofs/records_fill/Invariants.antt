-- `editions::records_fill` meets its contract. The loop's invariant: the answer for all pairs is the answer for those from pair j on.
use Prim.Native.Nat.{◌-◌}
use mathlib.Core.Path.{◌≡◌}
use Rattle.editions.specs.File.{head_length}
use Rattle.editions.specs.Questions.{fills}
use Rattle.editions.proofs.records_fill.Given as goal

abbrev pub invariant-loop-j : goal.invariant-loop-j
invariant-loop-j l = fills l.least l.file l.gates 0 (head_length l.gates) ≡ fills l.least l.file (l.gates - l.j) l.j l.end
