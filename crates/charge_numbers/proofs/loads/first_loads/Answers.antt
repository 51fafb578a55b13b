-- `first_loads` meets its contract. After k loads the list begins with them.
use mathlib.Core.Path.{refl, ◌∙◌}
use native.Mathlib.Omega.{arith}
use lib.ListN.{length-set}
use Rattle.charge_numbers.proofs.Numbered.{loads_none, loads_more}
use Rattle.charge_numbers.proofs.loads.first_loads.Goals as goal

pub loop-k-init : goal.loop-k-init
loop-k-init c = let s = c.args in (refl, loads_none s.cases.now s.charges.now)

pub loop-k-preserved : goal.loop-k-preserved
loop-k-preserved c =
    let s = c.args in
    let l = c.loop-k in
    (length-set l.list l.k _ ∙ l.invariant.0, loads_more s.cases.now s.charges.now l.list l.k _ (omega arith) l.invariant.1 c.load_at.ensures)
