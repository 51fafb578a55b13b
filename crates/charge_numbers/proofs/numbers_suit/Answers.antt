-- `numbers_suit` meets its contract: where there are two charges for each case, the cases alone are asked.
use Rattle.std.proofs.Common.{ℕ, ltb, rules, tests, ◌∙◌}
use Rattle.std.proofs.lemmas.Iterator.{YieldsList-from_slice}
use Rattle.std.proofs.lemmas.Iterator.Search.{all_from_yields_List}
use Rattle.charge_numbers.proofs.Numbered.{numbers_by_all}
use Rattle.charge_numbers.proofs.numbers_suit.Goals as goal

pub returns-then-charges-cases : goal.returns-then-charges-cases
returns-then-charges-cases c =
    all_from_yields_List (λ (x : ℕ). ltb x 2) _ _ _ c.all.ensures.ran (YieldsList-from_slice c.args.cases.now cc) (λ x b q k. search (rules, tests))
    ∙ numbers_by_all c.args.cases.now c.args.charges.now c.if-charges-cases.true
