-- `plan` meets its contract: the questions in their order; the areas are filled only after 10 and 20.
use mathlib.Core.Path.{◌∙◌}
use Rattle.planner.proofs.Calling.{plan_read, plan_10, plan_20, fill_given, plan_last}
use mathlib.Core.Path.{ap}
use mathlib.Core.Bool.{not}
use Rattle.planner.proofs.plan.Goals as goal
use Rattle.method.proofs.Refused.{passed_on}

pub returns-then-not-areas_suit : goal.returns-then-not-areas_suit
returns-then-not-areas_suit c = plan_10 _ _ _ c.in_ok-read.ensures c.areas_suit.ensures (ap not c.if-not-areas_suit.true)

pub returns-then-not-changes_suit : goal.returns-then-not-changes_suit
returns-then-not-changes_suit c = plan_20 _ _ _ c.in_ok-read.ensures c.areas_suit.ensures (ap not c.if-not-areas_suit.false) c.changes_suit.ensures (ap not c.if-not-changes_suit.true)

pub fill_within-requires : goal.fill_within-requires
fill_within-requires c = fill_given _ c.args.limit _ c.in_ok-read.ensures c.areas_suit.ensures (ap not c.if-not-areas_suit.false) c.changes_suit.ensures (ap not c.if-not-changes_suit.false)

pub returns-in_err-read : goal.returns-in_err-read
returns-in_err-read c = rw (passed_on _ c.from_residual.ensures) (plan_read _ _ _ c.in_err-read.ensures)

pub returns : goal.returns
returns c = c.fill_within.ensures ∙ plan_last _ _ _ c.in_ok-read.ensures c.areas_suit.ensures (ap not c.if-not-areas_suit.false) c.changes_suit.ensures (ap not c.if-not-changes_suit.false)
