-- `nets_loaded` meets its contract: the loads are counted one by one.
use Rattle.std.proofs.Common.{◌≡◌, ℕ, fold, rules, ◌∙◌}
use Rattle.charge_loads.specs.declared.Load.{Load}
use Rattle.charge_loads.specs.Steps.{with_load}
use Rattle.charge_loads.proofs.Listed.{counted_by_fold}
use Rattle.charge_loads.proofs.listing.nets_loaded.Goals as goal

pub returns : goal.returns
returns c =
    let folded : c.fold.result ≡ fold (λ (n : ℕ) (load : Load). with_load load n) 0 c.args.list.now = search rules in
    folded ∙ counted_by_fold c.args.list.now
