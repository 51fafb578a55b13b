-- `evaluation::gates::one_input` meets its contract. Behind the before word k after words are stored.
use Prim.Native.Nat.{◌+◌}
use Rattle.lists.proofs.Storing.{Left}
use Rattle.evaluation.specs.Steps.{after_words}
use Rattle.evaluation.proofs.gates.one_input.Given as goal

abbrev pub invariant-loop-k : goal.invariant-loop-k
invariant-loop-k l = Left l.initial.values (l.first + 1) (after_words l.after l.start l.count) l.values l.k
