-- `index_rows` meets its contract: where there are two fan-ins, their spans are the two that are walked.
use Rattle.gathering.proofs.Spans.{two_spans, fanin_span}
use Rattle.framing.proofs.Indexing.{shown_at}
use native.Mathlib.Omega.{arith}
use Rattle.framing.proofs.indices.index_rows.Goals as goal

pub index_pairs-requires-clause-span : goal.index_pairs-requires-clause-span
index_pairs-requires-clause-span c =
    let f = c.requires.fed in
    (rw c.times_of-one.ensures (fanin_span f 0 (omega arith) c.fanin_at.ensures), rw c.times_of-other.ensures (fanin_span f 1 (omega arith) c.fanin_at-then-gate-eq2.ensures), f.delay_most)

pub index_pairs-requires-clause-span_2 : goal.index_pairs-requires-clause-span_2
index_pairs-requires-clause-span_2 c =
    let g = c.requires.span.1 in
    (c.requires.span.0, shown_at _ _ _ _ _ 0 (omega arith) c.fanin_at.ensures c.times_of-one.ensures g, shown_at _ _ _ _ _ 1 (omega arith) c.fanin_at-then-gate-eq2.ensures c.times_of-other.ensures g)

pub returns-then-gate-eq2 : goal.returns-then-gate-eq2
returns-then-gate-eq2 c = rw (two_spans _ _ _ _ _ c.if-gate-eq2.true c.fanin_at.ensures c.fanin_at-then-gate-eq2.ensures c.times_of-one.ensures c.times_of-other.ensures) c.index_pairs.ensures
