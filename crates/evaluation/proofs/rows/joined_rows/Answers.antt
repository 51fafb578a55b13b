-- `evaluation::rows::joined_rows` meets its contract. The rows are read as they were, since they point below what is written.
use Rattle.evaluation.proofs.Writing.{written_more, written_all}
use Rattle.evaluation.proofs.rows.joined_rows.Goals as goal

pub loop-k-preserved : goal.loop-k-preserved
loop-k-preserved g c = written_more _ _ _ _ _ _ _ _ c.requires.raw.0 c.loop-k.invariant c.loop-k-test.true _ c.row_word.ensures

pub returns : goal.returns
returns g c = written_all _ _ _ _ _ _ _ _ c.requires.raw.0 c.loop-k.invariant c.loop-k-test.false
