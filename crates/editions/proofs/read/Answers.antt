-- `editions::read` meets its contract. The first "no" of the two parts is that of the whole ladder.
use mathlib.Core.Path.{refl, sym, ◌∙◌, ap}
use native.Mathlib.Omega.{arith}
use Rattle.method.specs.Refusals.{on_paper}
use Rattle.method.proofs.Refused.{some_number, passed_on}
use Rattle.editions.proofs.Gated.{refused_head, refused_gates, accepted_all}
use Rattle.editions.proofs.Accepted.{head_passed, counted}
use Rattle.editions.proofs.Lying.{gate_lies}
use Rattle.editions.proofs.read.Goals as goal

pub returns-in_err-ask_head : goal.returns-in_err-ask_head
returns-in_err-ask_head c = ap on_paper (passed_on _ c.from_residual.ensures) ∙ refused_head _ _ c.in_err-ask_head.ensures (some_number _)

pub ask_gates-requires : goal.ask_gates-requires
ask_gates-requires c = let h = head_passed _ _ (sym c.in_ok-ask_head.ensures) in
    let i = (counted _ _ h).inputs_most in
    record { inputs_value = (c.inputs_of-inputs.ensures, omega arith, omega (arith, h.gates_most)); by_index = λ j l. gate_lies _ _ h j (omega (arith, c.number_at-gates.ensures)) }

pub returns-in_err-ask_gates : goal.returns-in_err-ask_gates
returns-in_err-ask_gates c = ap on_paper (passed_on _ c.from_residual-in_err-ask_gates.ensures) ∙ refused_gates _ _ c.in_ok-ask_head.ensures refl c.inputs_of-inputs.ensures c.number_at-gates.ensures c.in_err-ask_gates.ensures (some_number _)

pub returns : goal.returns
returns c = accepted_all _ _ c.in_ok-ask_head.ensures refl c.inputs_of-inputs.ensures c.number_at-gates.ensures c.in_ok-ask_gates.ensures refl
