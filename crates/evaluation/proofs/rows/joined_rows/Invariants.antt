-- `evaluation::rows::joined_rows` meets its contract. The rows are read as they were, since they point below what is written.
use Rattle.evaluation.proofs.Writing.{Written}
use Rattle.evaluation.proofs.rows.joined_rows.Given as goal

abbrev pub invariant-loop-k : goal.invariant-loop-k
invariant-loop-k g l = Written l.initial.values l.bases l.fanins l.rule.kind l.at l.entries l.first l.frames l.values l.row l.k
