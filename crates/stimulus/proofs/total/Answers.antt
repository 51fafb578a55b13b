-- `total` meets its contract: the chain adds all counts up.
use mathlib.Core.Path.{◌≡◌, ◌∙◌}
use borrow.Author.Rules.{rules}
use Rattle.std.specs.List.{sum}
use Rattle.stimulus.proofs.Turns.{sum_is}
use Rattle.stimulus.proofs.total.Goals as goal

pub returns : goal.returns
returns c = let added : c.sum.result ≡ sum c.args.counts.now = search rules in
    added ∙ sum_is c.args.counts.now
