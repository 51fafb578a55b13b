-- `converter::write_pairs` meets its contract. The loop's invariant: the pairs from gate j on are still to be stored.
use native.Mathlib.Omega.{arith}
use Rattle.converter.proofs.Rewriting.{record_few, head_few, pairing_more, pairing_all}
use Rattle.converter.proofs.writing.write_pairs.Goals as goal

pub overflow_mul-len : goal.overflow_mul-len
overflow_mul-len c = omega (arith, record_few _ _ _ c.gate_at-gate.ensures (c.requires.each _ c.loop-j-test.true).entries)

pub overflow_add-len : goal.overflow_add-len
overflow_add-len c = omega (arith, record_few _ _ _ c.gate_at-gate.ensures (c.requires.each _ c.loop-j-test.true).entries, head_few _ c.record_head.ensures)

pub overflow_add-start-in-loop-j : goal.overflow_add-start-in-loop-j
overflow_add-start-in-loop-j c = omega (arith, record_few _ _ _ c.gate_at-gate.ensures (c.requires.each _ c.loop-j-test.true).entries, head_few _ c.record_head.ensures, c.loop-j.invariant.low, c.requires.few, c.loop-j-test.true)

pub loop-j-preserved : goal.loop-j-preserved
loop-j-preserved c = pairing_more _ _ _ _ c.loop-j.invariant c.loop-j-test.true c.gate_at-gate.ensures (c.requires.each _ c.loop-j-test.true).entries c.record_head.ensures c.put_pair.ensures

pub returns : goal.returns
returns c = pairing_all _ _ _ _ c.loop-j.invariant c.loop-j-test.false
