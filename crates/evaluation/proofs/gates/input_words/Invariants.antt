-- `evaluation::gates::input_words` meets its contract. After i inputs the area starts with their words, and the after words of
-- the next start at `start`.
use Prim.Native.Nat.{◌+◌}
use mathlib.Core.Path.{◌≡◌}
use lib.ListN.{length, take}
use Rattle.method.specs.Changes.{start_of}
use Rattle.method.specs.WordLists.{word_lists}
use Rattle.evaluation.specs.Steps.{input_words}
use Rattle.evaluation.proofs.gates.input_words.Given as goal

abbrev pub invariant-loop-i : goal.invariant-loop-i
invariant-loop-i l = (length l.values ≡ length l.initial.values) × (l.start ≡ start_of l.counts l.i) × (take (l.i + l.start) l.values ≡ input_words l.counts (word_lists l.before l.after) l.i)
