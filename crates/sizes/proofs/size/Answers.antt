-- `size` meets its contract: the questions in their order.
use mathlib.Core.Path.{◌∙◌}
use Rattle.circuit.specs.Task.{task_in}
use Rattle.sizes.proofs.Sizing.{size_read, size_20, size_asked, size_last}
use mathlib.Core.Path.{ap}
use mathlib.Core.Bool.{not}
use Rattle.sizes.proofs.size.Goals as goal
use Rattle.method.proofs.Refused.{passed_on}

pub returns-then-not-changes_suit : goal.returns-then-not-changes_suit
returns-then-not-changes_suit c = size_20 (task_in c.args.task) c.args.limit c.in_ok-read.ensures c.changes_suit.ensures (ap not c.if-not-changes_suit.true)

pub totals_within-requires : goal.totals_within-requires
totals_within-requires c = size_asked (task_in c.args.task) c.args.limit c.in_ok-read.ensures c.changes_suit.ensures (ap not c.if-not-changes_suit.false)

pub returns-in_err-read : goal.returns-in_err-read
returns-in_err-read c = rw (passed_on _ c.from_residual.ensures) (size_read (task_in c.args.task) c.args.limit c.in_err-read.ensures)

pub returns : goal.returns
returns c = c.totals_within.ensures ∙ size_last (task_in c.args.task) c.args.limit c.in_ok-read.ensures c.changes_suit.ensures (ap not c.if-not-changes_suit.false)
