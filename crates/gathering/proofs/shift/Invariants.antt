-- `shift` meets its contract: after each turn the numbers from place i on stand one place on.
use Prim.Native.Nat.{◌≤◌}
use mathlib.Core.Path.{◌≡◌}
use Rattle.gathering.proofs.Inserting.{moved}
use Rattle.gathering.proofs.shift.Given as goal

abbrev pub invariant-loop-i : goal.invariant-loop-i
invariant-loop-i l = (l.place ≤ l.i) × (l.gathered ≡ moved l.initial.gathered l.count l.i)
