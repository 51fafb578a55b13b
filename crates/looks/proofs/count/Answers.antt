-- `count` meets its contract: where no question is answered no, there are at most 64 frames, and `changes` counts them.
use mathlib.Core.Path.{refl}
use native.Mathlib.Omega.{arith}
use Rattle.method.proofs.Refused.{passed_on, some_number}
use Rattle.looks.proofs.Seeing.{answered, count_no, count_yes}
use Rattle.looks.proofs.count.Goals as goal

pub returns-in_err-ask_look : goal.returns-in_err-ask_look
returns-in_err-ask_look c = rw (passed_on _ c.from_residual.ensures) (count_no _ _ _ c.in_err-ask_look.ensures (some_number _))

pub changes-requires : goal.changes-requires
changes-requires c = let s = answered _ _ _ c.in_ok-ask_look.ensures refl in omega (arith, s.same, s.few)

pub returns : goal.returns
returns c = count_yes _ _ _ c.in_ok-ask_look.ensures refl c.changes.ensures
