-- `converter::write_record` meets its contract. The head of the record, then its fan-ins.
use native.Mathlib.Omega.{arith}
use Rattle.converter.proofs.Rewriting.{record_few, head_few, wrote_record, record_small}
use Rattle.converter.proofs.writing.write_record.Goals as goal

pub put_head-requires : goal.put_head-requires
put_head-requires c = let small = record_small _ _ _ _ c.gate_at-gate.ensures (c.requires.0.each _ (omega arith)) in
    (omega (arith, c.requires.1), small.0, small.1)

pub overflow_add-list : goal.overflow_add-list
overflow_add-list c = omega (arith, c.requires.1, head_few _ c.record_head.ensures)

pub overflow_mul-result : goal.overflow_mul-result
overflow_mul-result c = omega (arith, record_few _ _ _ c.gate_at-gate.ensures (c.requires.0.each _ (omega arith)).entries)

pub overflow_add-result : goal.overflow_add-result
overflow_add-result c = omega (arith, c.requires.1, head_few _ c.record_head.ensures, record_few _ _ _ c.gate_at-gate.ensures (c.requires.0.each _ (omega arith)).entries)

pub returns : goal.returns
returns c = wrote_record _ _ _ _ c.gate_at-gate.ensures _ _ c.record_head.ensures c.put_head.ensures c.copy_fanins.ensures
