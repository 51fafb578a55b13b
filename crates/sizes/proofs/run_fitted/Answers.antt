-- `run_fitted` meets its contract: a "no" writes nothing, and `simulate` does the rest.
use Rattle.method.specs.WordLists.{words_in, lengths_of}
use Rattle.circuit.specs.Task.{task_in}
use Rattle.engine.specs.Areas.{areas}
use Rattle.sizes.proofs.Asking.{asked_no, asked_yes}
use Rattle.sizes.proofs.Answering.{ready, fitted_no, fitted_yes}
use Rattle.sizes.proofs.run_fitted.Goals as goal
use Rattle.method.proofs.Refused.{passed_on}

pub simulate-requires : goal.simulate-requires
simulate-requires c = let y = asked_yes (task_in c.args.task) c.args.limit (lengths_of (words_in c.args.words)) (areas c.args.directory.now c.args.times.now c.args.inertial.now c.args.fanins.now c.args.values.now) c.in_ok-read.ensures in (ready (task_in c.args.task) c.args.limit (lengths_of (words_in c.args.words)) (areas c.args.directory.now c.args.times.now c.args.inertial.now c.args.fanins.now c.args.values.now) y.0, y.1, y.2)

pub returns-in_err-read : goal.returns-in_err-read
returns-in_err-read c = let q = asked_no (task_in c.args.task) c.args.limit (lengths_of (words_in c.args.words)) (areas c.args.directory.now c.args.times.now c.args.inertial.now c.args.fanins.now c.args.values.now) c.in_err-read.ensures in rw (passed_on _ c.from_residual.ensures) (fitted_no (task_in c.args.task) c.args.limit (words_in c.args.words) (areas c.args.directory.now c.args.times.now c.args.inertial.now c.args.fanins.now c.args.values.now) q.0 q.1)

pub returns : goal.returns
returns c = fitted_yes (task_in c.args.task) c.args.limit (words_in c.args.words) (areas c.args.directory.now c.args.times.now c.args.inertial.now c.args.fanins.now c.args.values.now) (asked_yes (task_in c.args.task) c.args.limit (lengths_of (words_in c.args.words)) (areas c.args.directory.now c.args.times.now c.args.inertial.now c.args.fanins.now c.args.values.now) c.in_ok-read.ensures).0 c.simulate.ensures
