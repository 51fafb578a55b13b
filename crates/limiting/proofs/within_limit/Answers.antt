-- `within_limit` meets its contract: the limit is asked first, then the total.
use Rattle.limiting.proofs.Last.{senseless, by_total}
use mathlib.Core.Path.{ap}
use mathlib.Core.Bool.{not}
use Rattle.limiting.proofs.within_limit.Goals as goal

pub returns-then-not-is_between : goal.returns-then-not-is_between
returns-then-not-is_between c = senseless c.args.limit c.args.total c.is_between.ensures (ap not c.if-not-is_between.true)

pub returns : goal.returns
returns c = by_total c.args.limit c.args.total c.is_between.ensures (ap not c.if-not-is_between.false)
