-- `run` meets its contract: a "no" before 13 and 22 writes nothing, and `simulate` does the rest.
use Rattle.method.proofs.Refused.{passed_on}
use Rattle.engine.proofs.Asking.{asked_no, asked_none, asked_yes}
use Rattle.engine.proofs.Answering.{run_no, run_yes}
use Rattle.engine.proofs.run.Goals as goal

pub returns-in_err-read : goal.returns-in_err-read
returns-in_err-read c = let q = asked_no _ _ _ c.in_err-read.ensures in rw (passed_on _ c.from_residual.ensures) (run_no _ _ _ _ q.0 q.1)

pub simulate-requires : goal.simulate-requires
simulate-requires c = asked_yes _ _ _ c.in_ok-read.ensures

pub returns : goal.returns
returns c = run_yes _ _ _ _ (asked_none _ _ _ c.in_ok-read.ensures) c.simulate.ensures
