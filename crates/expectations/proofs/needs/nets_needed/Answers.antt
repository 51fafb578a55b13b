-- The fold's number at the end is what the list needs, and 0 to begin with adds none.
use Rattle.std.proofs.Common.{◌≡◌, ℕ, max, fold, rules, ◌∙◌}
use native.Mathlib.Nat.{zero-max}
use Rattle.expectations.specs.declared.Expectation.{Expectation}
use Rattle.expectations.specs.Steps.{nets_for, nets_needed}
use Rattle.expectations.proofs.Turns.{needed_by_fold}
use Rattle.expectations.proofs.needs.nets_needed.Goals as goal

pub returns : goal.returns
returns c =
    let folded : c.fold.result ≡ fold (λ (n : ℕ) (e : Expectation). max n (nets_for e)) 0 c.args.list.now = search rules in
    folded ∙ needed_by_fold 0 c.args.list.now ∙ zero-max (nets_needed c.args.list.now)
