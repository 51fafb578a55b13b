-- `converter::delays_up_to` meets its contract: each gate is asked whether its delays are low.
use mathlib.Core.Path.{◌∙◌}
use native.Mathlib.Nat.{sub-zero}
use borrow.Author.Rules.{rules}
use borrow.Author.Tests.{tests}
use Rattle.std.proofs.lemmas.Iterator.{YieldsList-from_range}
use Rattle.std.proofs.lemmas.Iterator.Search.{all_from_yields_List}
use Rattle.converter.proofs.Rewriting.{low, low_all}
use Rattle.converter.proofs.writing.delays_up_to.Goals as goal

pub returns : goal.returns
returns c =
    all_from_yields_List (low c.args.edition c.args.file.now c.args.most) _ _ _ c.all.ensures.ran (YieldsList-from_range 0 c.args.gates c.args.gates (search rules) (search (rules, sub-zero))) (λ x b q k. search (rules, tests))
    ∙ low_all _ _ _ _ _
