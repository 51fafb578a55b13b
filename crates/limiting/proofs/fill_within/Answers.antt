-- `fill_within` meets its contract: the areas are filled, and cleared again where the total is above the limit.
use mathlib.Core.Path.{◌∙◌, ap}
use mathlib.Core.Bool.{not}
use native.Mathlib.Omega.{arith}
use Rattle.lists.specs.Ladder.{Answer}
use Rattle.lists.specs.Outcome.{outcome}
use Rattle.method.specs.declared.Totals.{Totals}
use Rattle.method.specs.Areas.{areas}
use Rattle.method.specs.Refusals.{number_of, on_paper}
use Rattle.method.proofs.Refused.{passed_on, ok_or_some, ok_or_none}
use Rattle.limiting.proofs.Within.{within_13, within_22, within_yes}
use Rattle.limiting.proofs.fill_within.Goals as goal

pub returns-in_err-totals : goal.returns-in_err-totals
returns-in_err-totals c = let none = ok_or_none c.fill.result _ c.in_err-totals.ensures.value in
    rw (passed_on _ c.from_residual.ensures, none.1) (within_13 _ _ _ c.fill.ensures none.0)

pub returns-then-not-within_limit : goal.returns-then-not-within_limit
returns-then-not-within_limit c = within_22 _ _ _ c.fill.ensures (ok_or_some _ _ c.in_ok-totals.ensures.value) c.within_limit.ensures (ap not c.if-not-within_limit.true) c.clear_plan.ensures (record { directory = omega (arith, c.fill.auto); times = omega (arith, c.fill.auto); inertial = omega (arith, c.fill.auto); fanins = omega (arith, c.fill.auto) })

pub returns : goal.returns
returns c = within_yes _ _ _ c.fill.ensures (ok_or_some _ _ c.in_ok-totals.ensures.value) c.within_limit.ensures (ap not c.if-not-within_limit.false)
