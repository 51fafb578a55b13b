-- `evaluation::gates::bases_of` meets its contract. After e entries the array has their nets' first frames.
use Prim.Native.Nat.{ℕ, ◌<◌}
use mathlib.Core.Path.{◌≡◌}
use lib.ListN.{length, get_or}
use Rattle.method.specs.Kinds.{most_fanins}
use Rattle.circuit.specs.File.{fanin_at}
use Rattle.method.specs.Layout.{first_frame}
use Rattle.evaluation.proofs.gates.bases_of.Given as goal

abbrev pub invariant-loop-e : goal.invariant-loop-e
invariant-loop-e l = (length l.bases ≡ most_fanins) × ((i : ℕ) → i < l.e → get_or l.bases i 0 ≡ first_frame l.directory (fanin_at l.file l.list i))
