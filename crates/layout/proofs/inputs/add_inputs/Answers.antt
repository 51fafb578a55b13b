-- `add_inputs` meets its contract: n inputs are planned.
use Rattle.layout.proofs.Starting.{begun_none}
use Rattle.layout.proofs.inputs.add_inputs.Goals as goal

pub loop-n-init : goal.loop-n-init
loop-n-init c = begun_none _ c.requires.1
