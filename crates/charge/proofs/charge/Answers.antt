-- The list is counted, the run is asked for, the areas are added up, and the answer is made of the two: that is the charge call's.
use mathlib.Core.Path.{refl}
use Rattle.method.proofs.Refused.{passed_on}
use Rattle.charge.specs.Charge.{on_paper}
use Rattle.charge.specs.Steps.{charging}
use Rattle.charge.proofs.Charging.{charge_is}
use Rattle.charge.proofs.charge.Goals as goal

pub returns-in_err-totals : goal.returns-in_err-totals
unfolding on_paper charging
returns-in_err-totals c = rw (passed_on _ c.from_residual.ensures) (charge_is _ _ _ _ _ _ _ c.nets_loaded-loaded.ensures c.in_err-totals.ensures refl)

pub returns : goal.returns
unfolding on_paper charging
returns c = charge_is _ _ _ _ _ _ _ c.nets_loaded-loaded.ensures c.in_ok-totals.ensures c.charge_of_nets-charge.ensures
