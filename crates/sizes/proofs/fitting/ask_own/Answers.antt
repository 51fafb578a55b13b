-- `fitting::ask_own` meets its contract: 11, 20, then what the count says to 13 and 22, then the areas' lengths.
use mathlib.Core.Path.{refl}
use native.Mathlib.Omega.{arith}
use Rattle.method.specs.WordLists.{words_in, lengths_of}
use Rattle.circuit.specs.Task.{task_in}
use Rattle.engine.specs.Areas.{areas}
use Rattle.circuit.proofs.Parts.{few}
use Rattle.sizes.proofs.Asking.{words_no, changes_no, changes_yes, last_no_lem, fit_no, fit_yes}
use mathlib.Core.Path.{ap}
use mathlib.Core.Bool.{not}
use Rattle.sizes.proofs.fitting.ask_own.Goals as goal
use Rattle.method.proofs.Refused.{passed_on}

pub returns-then-not-words_suit : goal.returns-then-not-words_suit
returns-then-not-words_suit c = words_no (task_in c.args.task) c.args.limit (lengths_of (words_in c.args.words)) (areas c.args.directory.now c.args.times.now c.args.inertial.now c.args.fanins.now c.args.values.now) c.requires.1 c.requires.2 c.words_suit.ensures (ap not c.if-not-words_suit.true)

pub returns-then-not-changes_suit : goal.returns-then-not-changes_suit
returns-then-not-changes_suit c = changes_no (task_in c.args.task) c.args.limit (lengths_of (words_in c.args.words)) (areas c.args.directory.now c.args.times.now c.args.inertial.now c.args.fanins.now c.args.values.now) c.requires.1 c.requires.2 c.words_suit.ensures (ap not c.if-not-words_suit.false) c.changes_suit.ensures (ap not c.if-not-changes_suit.true)

pub totals_within-requires : goal.totals_within-requires
totals_within-requires c = let s = c in (record { read = s.requires.0; suits = changes_yes (task_in c.args.task) c.args.limit (lengths_of (words_in c.args.words)) (areas c.args.directory.now c.args.times.now c.args.inertial.now c.args.fanins.now c.args.values.now) c.requires.1 c.requires.2 c.words_suit.ensures (ap not c.if-not-words_suit.false) c.changes_suit.ensures (ap not c.if-not-changes_suit.false) }, s.requires.1, s.requires.2)

pub overflow_add-nets : goal.overflow_add-nets
overflow_add-nets c = let s = c in omega (arith, few s.args.task.file.now s.requires.0, s.requires.1, s.requires.2)

pub returns-then-not-areas_fit : goal.returns-then-not-areas_fit
returns-then-not-areas_fit c = fit_no (task_in c.args.task) c.args.limit (lengths_of (words_in c.args.words)) (areas c.args.directory.now c.args.times.now c.args.inertial.now c.args.fanins.now c.args.values.now) c.requires.1 c.requires.2 c.words_suit.ensures (ap not c.if-not-words_suit.false) c.changes_suit.ensures (ap not c.if-not-changes_suit.false) c.in_ok-totals.ensures refl c.areas_fit.ensures (ap not c.if-not-areas_fit.true)

pub returns-in_err-totals : goal.returns-in_err-totals
returns-in_err-totals c = rw (passed_on _ c.from_residual.ensures) (last_no_lem (task_in c.args.task) c.args.limit (lengths_of (words_in c.args.words)) (areas c.args.directory.now c.args.times.now c.args.inertial.now c.args.fanins.now c.args.values.now) c.requires.1 c.requires.2 c.words_suit.ensures (ap not c.if-not-words_suit.false) c.changes_suit.ensures (ap not c.if-not-changes_suit.false) c.in_err-totals.ensures)

pub returns : goal.returns
returns c = fit_yes (task_in c.args.task) c.args.limit (lengths_of (words_in c.args.words)) (areas c.args.directory.now c.args.times.now c.args.inertial.now c.args.fanins.now c.args.values.now) c.requires.1 c.requires.2 c.words_suit.ensures (ap not c.if-not-words_suit.false) c.changes_suit.ensures (ap not c.if-not-changes_suit.false) c.in_ok-totals.ensures refl c.areas_fit.ensures (ap not c.if-not-areas_fit.false)
