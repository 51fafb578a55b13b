-- `totals::totals_within` meets its contract: the frames are counted, and the total is held against the limit.
use Rattle.sizes.proofs.Sizing.{many, above, within}
use Rattle.method.proofs.Refused.{passed_on, ok_or_some, ok_or_none}
use mathlib.Core.Path.{ap}
use mathlib.Core.Bool.{not}
use Rattle.sizes.proofs.totals.totals_within.Goals as goal

pub returns-in_err-totals : goal.returns-in_err-totals
returns-in_err-totals c = let none = ok_or_none c.count.result _ c.in_err-totals.ensures.value in rw (passed_on _ c.from_residual.ensures, none.1) (many _ c.args.limit c.count.ensures none.0)

pub returns-then-not-within_limit : goal.returns-then-not-within_limit
returns-then-not-within_limit c = above _ c.args.limit c.count.ensures (ok_or_some _ _ c.in_ok-totals.ensures.value) c.within_limit.ensures (ap not c.if-not-within_limit.true)

pub returns : goal.returns
returns c = within _ c.args.limit c.count.ensures (ok_or_some _ _ c.in_ok-totals.ensures.value) c.within_limit.ensures (ap not c.if-not-within_limit.false)
