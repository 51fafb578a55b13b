-- `fill` meets its contract: the inputs, then the gates, in areas of zeros; too many frames leave zeros.
use native.Mathlib.Omega.{arith}
use Rattle.circuit.specs.Task.{task_in}
use Rattle.layout.proofs.Starting.{inputs_open, inputs_none, going_none}
use Rattle.layout.proofs.Stepping.{given_alike}
use Rattle.layout.proofs.Filling.{filled_now, filled_none}
use Rattle.layout.proofs.fill.Goals as goal

pub add_inputs-start-requires : goal.add_inputs-start-requires
add_inputs-start-requires c = let s = c in
    let cleared = c.clear_plan.auto in
    (inputs_open (task_in s.args.task) s.requires.0 (omega arith) (omega arith), inputs_none (task_in s.args.task) s.requires.0 c.clear_plan.ensures)

pub add_gates-requires : goal.add_gates-requires
add_gates-requires c = let s = c in
    let cleared = c.clear_plan.auto in
    let written = c.add_inputs-start.auto in record { given = (given_alike s.requires.0 (record { directory = omega arith; times = omega arith; inertial = omega arith; fanins = omega arith }), s.requires.1, s.requires.2); going = going_none (task_in s.args.task) s.requires.0 c.clear_plan.ensures c.add_inputs-start.ensures }

pub shape_of-directory-in_default : goal.shape_of-directory-in_default
shape_of-directory-in_default c = let g = c in omega (arith, g.add_gates.auto, g.add_inputs-start.auto, g.clear_plan.auto, c.clear_plan-in_default.auto)

pub shape_of-times-in_default : goal.shape_of-times-in_default
shape_of-times-in_default c = let g = c in omega (arith, g.add_gates.auto, g.add_inputs-start.auto, g.clear_plan.auto, c.clear_plan-in_default.auto)

pub shape_of-inertial-in_default : goal.shape_of-inertial-in_default
shape_of-inertial-in_default c = let g = c in omega (arith, g.add_gates.auto, g.add_inputs-start.auto, g.clear_plan.auto, c.clear_plan-in_default.auto)

pub shape_of-fanins-in_default : goal.shape_of-fanins-in_default
shape_of-fanins-in_default c = let g = c in omega (arith, g.add_gates.auto, g.add_inputs-start.auto, g.clear_plan.auto, c.clear_plan-in_default.auto)

pub returns-in_default : goal.returns-in_default
returns-in_default c = let g = c in
    let gates = g.add_gates.auto in
    let inputs = g.add_inputs-start.auto in
    let cleared = g.clear_plan.auto in
    filled_none (task_in c.args.task) c.requires.2 g.add_gates.ensures c.in_default.is c.clear_plan-in_default.ensures (record { directory = omega arith; times = omega arith; inertial = omega arith; fanins = omega arith })

pub shape_of-directory : goal.shape_of-directory
shape_of-directory c = let g = c in omega (arith, g.add_gates.auto, g.add_inputs-start.auto, g.clear_plan.auto)

pub shape_of-times : goal.shape_of-times
shape_of-times c = let g = c in omega (arith, g.add_gates.auto, g.add_inputs-start.auto, g.clear_plan.auto)

pub shape_of-inertial : goal.shape_of-inertial
shape_of-inertial c = let g = c in omega (arith, g.add_gates.auto, g.add_inputs-start.auto, g.clear_plan.auto)

pub shape_of-fanins : goal.shape_of-fanins
shape_of-fanins c = let g = c in omega (arith, g.add_gates.auto, g.add_inputs-start.auto, g.clear_plan.auto)

pub returns : goal.returns
returns c = let g = c in
    let gates = g.add_gates.auto in
    let inputs = g.add_inputs-start.auto in
    let cleared = g.clear_plan.auto in
    filled_now (task_in c.args.task) c.requires.2 g.add_gates.ensures _ c.in-Some.is (record { directory = omega arith; times = omega arith; inertial = omega arith; fanins = omega arith })
