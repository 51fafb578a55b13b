-- `times_suit` meets its contract: the chain asks it of every time.
use mathlib.Core.Path.{◌∙◌}
use borrow.Author.Rules.{rules}
use Rattle.std.proofs.lemmas.Iterator.{YieldsList-from_slice}
use Rattle.std.proofs.lemmas.Iterator.Search.{all_from_yields_List}
use Rattle.lists.specs.Ladder.{between}
use Rattle.lists.proofs.Tabled.{every_all}
use Rattle.method.specs.Changes.{last_change}
use Rattle.stimulus.proofs.times_suit.Goals as goal

pub returns : goal.returns
returns c = all_from_yields_List (between 1 last_change) _ _ _ c.all.ensures.ran (YieldsList-from_slice c.args.changes.now cc) (λ x b q k. search rules) ∙ every_all (between 1 last_change) c.args.changes.now
