-- `counts_suit` meets its contract: the chain asks it of every count.
use Prim.Native.Nat.{ℕ}
use mathlib.Core.Path.{◌∙◌}
use mathlib.Core.Bool.{Bool}
use lib.Dec.{leb}
use borrow.Author.Rules.{rules}
use Rattle.std.proofs.lemmas.Iterator.{YieldsList-from_slice}
use Rattle.std.proofs.lemmas.Iterator.Search.{all_from_yields_List}
use Rattle.lists.proofs.Tabled.{every_all}
use Rattle.method.specs.Changes.{most_changes}
use Rattle.stimulus.proofs.counts_suit.Goals as goal

abbrev few : ℕ → Bool
few k = leb k most_changes

pub returns : goal.returns
returns c = all_from_yields_List few _ _ _ c.all.ensures.ran (YieldsList-from_slice c.args.counts.now cc) (λ x b q k. search rules) ∙ every_all few c.args.counts.now
