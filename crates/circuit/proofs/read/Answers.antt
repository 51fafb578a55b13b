-- `circuit::read` meets its contract. It is that of editions.
use Rattle.circuit.proofs.Present.{read_present}
use Rattle.circuit.proofs.read.Goals as goal

pub returns : goal.returns
returns c = read_present _ c.present.ensures c.read.ensures
