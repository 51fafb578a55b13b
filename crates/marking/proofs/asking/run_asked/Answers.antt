-- `run_asked` meets its contract: each question that fails gives its number, and Run does the rest.
use Rattle.marking.proofs.Laddered.{early_no, unsuited_no, too_few, enough, run_refused, run_accepted}
use Rattle.marking.proofs.asking.run_asked.Goals as goal
use Rattle.method.proofs.Refused.{passed_on}

pub returns-in_err-read : goal.returns-in_err-read
returns-in_err-read c = rw (passed_on _ c.from_residual.ensures) (early_no _ _ _ _ _ c.in_err-read.ensures)

pub returns-then-read-needed : goal.returns-then-read-needed
returns-then-read-needed c = unsuited_no _ _ _ _ _ c.in_ok-read.ensures (too_few _ _ _ c.in_ok-read.ensures c.if-read-needed.true)

pub returns-in_err-run : goal.returns-in_err-run
returns-in_err-run c = rw (passed_on _ c.from_residual-in_err-run.ensures) (run_refused _ _ _ _ _ (enough _ _ _ c.in_ok-read.ensures c.if-read-needed.false) c.in_err-run.ensures)

pub returns : goal.returns
returns c = run_accepted _ _ _ _ _ (enough _ _ _ c.in_ok-read.ensures c.if-read-needed.false) c.in_ok-run.ensures
