-- `start_and_rise` meets its contract: the first time is 0, and each is below the next.
use mathlib.Core.Path.{◌≡◌}
use Rattle.std.proofs.Common.{Some}
use Rattle.std.specs.List.{slice_get}
use lib.Dec.{ltb}
use borrow.Author.Rules.{rules}
use borrow.Author.Tests.{tests}
use Rattle.std.proofs.lemmas.List.Sorted.{answers_always}
use Rattle.looks.proofs.Pairs.{pairs_rise}
use Rattle.looks.proofs.looking.start_and_rise.Goals as goal

pub returns-then-eq : goal.returns-then-eq
returns-then-eq c =
    let starts : slice_get c.args.times.now 0 ≡ Some 0 = search rules in
    pairs_rise c.args.times.now starts c.is_sorted_by.result (c.is_sorted_by.ensures.cases ltb (answers_always _ _ _ (λ f a r g k. search (rules, tests))))
