-- `own::ask_own` meets its contract: the planner asks four lengths, `stimulus` asks 11 and 20.
use Rattle.method.specs.Changes.{schedule}
use Rattle.method.specs.WordLists.{words_in, lengths_of}
use Rattle.engine.proofs.Asking.{plan_no, values_no, words_no, changes_no, none_20}
use borrow.Author.Rules.{rules}
use mathlib.Core.Path.{ap}
use mathlib.Core.Bool.{not}
use Rattle.engine.proofs.own.ask_own.Goals as goal

pub returns-then-not-areas_suit : goal.returns-then-not-areas_suit
returns-then-not-areas_suit c = plan_no _ (schedule c.args.counts.now c.args.changes.now) (lengths_of (words_in c.args.words)) _ _ _ _ _ c.areas_suit.ensures (ap not c.if-not-areas_suit.true)

pub returns-then-values-ne-VALUES_LENGTH : goal.returns-then-values-ne-VALUES_LENGTH
returns-then-values-ne-VALUES_LENGTH c = values_no _ (schedule c.args.counts.now c.args.changes.now) (lengths_of (words_in c.args.words)) _ _ _ _ _ c.areas_suit.ensures (ap not c.if-not-areas_suit.false) c.if-values-ne-VALUES_LENGTH.true

pub returns-then-not-words_suit : goal.returns-then-not-words_suit
returns-then-not-words_suit c = words_no _ (schedule c.args.counts.now c.args.changes.now) (lengths_of (words_in c.args.words)) _ _ _ _ _ c.areas_suit.ensures (ap not c.if-not-areas_suit.false) (search rules) c.words_suit.ensures (ap not c.if-not-words_suit.true)

pub returns-then-not-changes_suit : goal.returns-then-not-changes_suit
returns-then-not-changes_suit c = changes_no _ (schedule c.args.counts.now c.args.changes.now) (lengths_of (words_in c.args.words)) _ _ _ _ _ c.areas_suit.ensures (ap not c.if-not-areas_suit.false) (search rules) c.words_suit.ensures (ap not c.if-not-words_suit.false) c.changes_suit.ensures (ap not c.if-not-changes_suit.true)

pub returns : goal.returns
returns c = none_20 _ (schedule c.args.counts.now c.args.changes.now) (lengths_of (words_in c.args.words)) _ _ _ _ _ c.areas_suit.ensures (ap not c.if-not-areas_suit.false) (search rules) c.words_suit.ensures (ap not c.if-not-words_suit.false) c.changes_suit.ensures (ap not c.if-not-changes_suit.false)
