-- `evaluation::rows::pair_rows` meets its contract. The rows are read as they were, since they point below what is written.
use mathlib.Core.List.{[], ◌∷◌}
use Rattle.evaluation.proofs.Writing.{Written}
use Rattle.evaluation.proofs.rows.pair_rows.Given as goal

abbrev pub invariant-loop-k : goal.invariant-loop-k
invariant-loop-k l = Written l.initial.values (l.x ∷ l.y ∷ []) l.fanins l.rule.kind l.at 2 l.first l.frames l.values l.row l.k
