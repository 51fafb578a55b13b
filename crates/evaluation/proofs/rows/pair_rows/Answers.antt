-- `evaluation::rows::pair_rows` meets its contract. The rows are read as they were, since they point below what is written.
use mathlib.Core.Path.{ap, ◌∙◌}
use native.Mathlib.Omega.{arith}
use native.Mathlib.Nat.{add-zero}
use Rattle.evaluation.specs.Steps.{gate_word}
use Rattle.evaluation.proofs.Writing.{written_row, written_more, written_all, row_points, pair_sources}
use Rattle.evaluation.proofs.rows.pair_rows.Goals as goal

pub source-a-requires : goal.source-a-requires
source-a-requires c = rw add-zero at (row_points (written_row _ _ _ _ _ _ _ _ c.requires.0 c.loop-k.invariant c.loop-k-test.true) 0 (omega arith))

pub loop-k-preserved : goal.loop-k-preserved
loop-k-preserved c = written_more _ _ _ _ _ _ _ _ c.requires.0 c.loop-k.invariant c.loop-k-test.true _ (c.pair_word.ensures ∙ ap (gate_word c.args.rule.kind) (pair_sources c.loop-k.values c.args.fanins.now c.args.x c.args.y c.loop-k.row c.source-a.ensures c.source-b.ensures))

pub returns : goal.returns
returns c = written_all _ _ _ _ _ _ _ _ c.requires.0 c.loop-k.invariant c.loop-k-test.false
