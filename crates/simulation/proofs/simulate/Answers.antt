-- `simulate` meets its contract: the areas are filled within the limit, and evaluated if the frames are kept.
use mathlib.Core.Path.{◌∙◌, sym, ap}
use Rattle.limiting.proofs.Within.{within_kept}
use Rattle.simulation.proofs.Laid.{planned, driven, simulated_no, simulated_yes}
use Rattle.simulation.proofs.simulate.Goals as goal

pub evaluate-requires : goal.evaluate-requires
evaluate-requires c = let s = c in
    let k = within_kept _ s.args.limit _ c.in-Ok.ensures in
    let l = c.fill_within.auto in record { planned = (planned _ s.requires.0 k l.directory l.times l.inertial l.fanins, s.requires.1, s.requires.2); driven = driven _ s.requires.0 k }

pub returns-in-Err : goal.returns-in-Err
returns-in-Err c = simulated_no _ _ _ c.in-Err.ensures c.clear.ensures

pub returns-in-Ok : goal.returns-in-Ok
returns-in-Ok c = simulated_yes _ _ _ c.in-Ok.ensures c.evaluate.ensures
