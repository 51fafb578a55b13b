-- `editions::gate_at` meets its contract. Each part is what was read at its place.
use mathlib.Core.Path.{refl}
use Rattle.editions.proofs.Gated.{record_is}
use Rattle.editions.proofs.gate_at.Goals as goal

pub returns : goal.returns
returns c = record_is _ _ _ c.offset_of-start.ensures c.record_head-head.ensures c.delay_bytes.ensures c.kind_of-kind.ensures refl c.delay_at-delay.ensures c.delay_at-inertial.ensures c.entries_of-entries.ensures c.length_of.ensures
