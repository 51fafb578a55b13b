-- `fitting::questions` meets its contract: the reader asks 1 to 9, and `ask_own` the others.
use Rattle.method.specs.WordLists.{words_in, lengths_of}
use Rattle.circuit.specs.Task.{task_in}
use Rattle.engine.specs.Areas.{areas}
use Rattle.sizes.proofs.Asking.{reader_no, reader_yes, own_no, own_yes}
use mathlib.Core.Path.{refl}
use Rattle.sizes.proofs.fitting.questions.Goals as goal
use Rattle.method.proofs.Refused.{some_number, passed_on}

pub ask_own-requires : goal.ask_own-requires
ask_own-requires c = reader_yes (task_in c.args.task) c.args.limit (lengths_of (words_in c.args.words)) (areas c.args.directory.now c.args.times.now c.args.inertial.now c.args.fanins.now c.args.values.now) c.in_ok-read.ensures

pub returns-in_err-read : goal.returns-in_err-read
returns-in_err-read c = rw (passed_on _ c.from_residual.ensures) (reader_no (task_in c.args.task) c.args.limit (lengths_of (words_in c.args.words)) (areas c.args.directory.now c.args.times.now c.args.inertial.now c.args.fanins.now c.args.values.now) c.in_err-read.ensures)

pub returns-in_err-ask_own : goal.returns-in_err-ask_own
returns-in_err-ask_own c = rw (passed_on _ c.from_residual-in_err-ask_own.ensures) (own_no (task_in c.args.task) c.args.limit (lengths_of (words_in c.args.words)) (areas c.args.directory.now c.args.times.now c.args.inertial.now c.args.fanins.now c.args.values.now) c.in_ok-read.ensures c.in_err-ask_own.ensures (some_number _))

pub returns : goal.returns
returns c = own_yes (task_in c.args.task) c.args.limit (lengths_of (words_in c.args.words)) (areas c.args.directory.now c.args.times.now c.args.inertial.now c.args.fanins.now c.args.values.now) c.in_ok-read.ensures c.in_ok-ask_own.ensures refl
