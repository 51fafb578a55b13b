-- `questions` meets its contract: the reader asks 1 to 9, and `ask_own` those that follow.
use mathlib.Core.Path.{refl}
use Rattle.method.proofs.Refused.{passed_on, some_number}
use Rattle.engine.proofs.Asking.{reader_no, own_no, own_yes}
use Rattle.engine.proofs.questions.Goals as goal

pub returns-in_err-read : goal.returns-in_err-read
returns-in_err-read c = rw (passed_on _ c.from_residual.ensures) (reader_no _ _ _ c.in_err-read.ensures)

pub returns-in_err-ask_own : goal.returns-in_err-ask_own
returns-in_err-ask_own c = rw (passed_on _ c.from_residual-in_err-ask_own.ensures) (own_no _ _ _ c.in_ok-read.ensures c.in_err-ask_own.ensures (some_number _))

pub returns : goal.returns
returns c = own_yes _ _ _ c.in_ok-read.ensures c.in_ok-ask_own.ensures refl
