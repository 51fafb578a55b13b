-- `editions::ask_gates` meets its contract. The loop's invariant: the first "no" of all gates is that of the gates from gate j on.
use mathlib.Core.Path.{refl, ◌∙◌, ap}
use native.Mathlib.Nat.{sub-zero}
use Rattle.method.specs.Refusals.{first_of}
use Rattle.method.proofs.Refused.{some_number, passed_on}
use Rattle.editions.proofs.Gated.{fault_here, fault_next, fault_none}
use Rattle.editions.proofs.ask_gates.Goals as goal

pub loop-j-init : goal.loop-j-init
loop-j-init c = rw sub-zero

pub ask_gate-requires : goal.ask_gate-requires
ask_gate-requires c = (rw c.requires.inputs_value.0, c.requires.by_index c.loop-j.j c.loop-j-test.true)

pub returns-in_err-ask_gate : goal.returns-in_err-ask_gate
returns-in_err-ask_gate c = ap first_of (passed_on _ c.from_residual.ensures) ∙ fault_here _ _ _ _ c.loop-j-test.true c.loop-j.invariant c.in_err-ask_gate.ensures (some_number _)

pub loop-j-preserved : goal.loop-j-preserved
loop-j-preserved c = fault_next _ _ _ _ c.loop-j-test.true c.loop-j.invariant c.in_ok-ask_gate.ensures refl

pub returns : goal.returns
returns c = fault_none _ _ _ _ c.loop-j-test.false c.loop-j.invariant
