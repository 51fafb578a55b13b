-- `index_columns` meets its contract: the columns of the fan-ins from e on are still to be stored, and all columns are all rows.
use Rattle.gathering.proofs.Spans.{spans_length, spans_end, next_at, fanin_span}
use Rattle.framing.proofs.Indexing.{shown_at}
use Rattle.framing.proofs.Columns.{columns_all, columns_on, columns_end}
use Rattle.framing.proofs.indices.index_columns.Goals as goal

pub loop-e-init : goal.loop-e-init
loop-e-init c = columns_all _ _ _ _ _ _ (spans_length _ _ _ _ _)

pub index_column-requires-clause-span : goal.index_column-requires-clause-span
index_column-requires-clause-span c = (rw c.times_of-fanin.ensures (fanin_span c.requires.fed c.loop-e.e c.loop-e-test.true c.fanin_at.ensures), c.requires.fed.delay_most)

pub index_column-requires-clause-span_2 : goal.index_column-requires-clause-span_2
index_column-requires-clause-span_2 c = (c.requires.span.0, shown_at _ _ _ _ _ _ c.loop-e-test.true c.fanin_at.ensures c.times_of-fanin.ensures c.requires.span.1)

pub loop-e-preserved : goal.loop-e-preserved
loop-e-preserved c = columns_on _ _ _ _ _ _ _ c.loop-e.invariant (next_at _ _ _ _ _ _ c.loop-e-test.true c.fanin_at.ensures c.times_of-fanin.ensures) c.index_column.ensures

pub returns : goal.returns
returns c = columns_end _ _ _ _ _ _ _ c.loop-e.invariant (spans_end _ _ _ _ _ _ c.loop-e-test.false)
