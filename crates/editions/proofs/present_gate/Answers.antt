-- `editions::present_gate` meets its contract. Each part is what was read at its place.
use mathlib.Core.Path.{refl}
use Rattle.editions.proofs.Gated.{present_record}
use Rattle.editions.proofs.present_gate.Goals as goal

pub returns : goal.returns
returns c = present_record c.args.file.now c.args.j c.number_in-start.ensures c.kind_of-kind.ensures refl c.number_in-delay.ensures c.number_in-inertial.ensures c.entries_of-entries.ensures c.number_in.ensures
