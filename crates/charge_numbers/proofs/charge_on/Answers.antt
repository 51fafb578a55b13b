-- The first loads, where they are cut off, answer as all do.
use Rattle.charge_numbers.proofs.Numbered.{charged_on}
use Rattle.charge_numbers.proofs.charge_on.Goals as goal

pub returns : goal.returns
returns c = charged_on _ c.args.limit _ _ c.args.cases.now c.args.charges.now c.args.lane c.min-count.ensures c.first_loads.ensures c.charge_first.ensures
