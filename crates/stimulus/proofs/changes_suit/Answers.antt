-- `changes_suit` meets its contract: at each return the parts of the question that were asked decide it.
use Rattle.stimulus.proofs.Asked.{not_each, not_small, not_all, not_within, rise_decides}
use mathlib.Core.Path.{ap}
use mathlib.Core.Bool.{not}
use Rattle.stimulus.proofs.changes_suit.Goals as goal

pub returns-then-counts-inputs : goal.returns-then-counts-inputs
returns-then-counts-inputs c = not_each _ _ _ c.if-counts-inputs.true

pub returns-then-not-counts_suit : goal.returns-then-not-counts_suit
returns-then-not-counts_suit c = not_small _ _ _ c.if-counts-inputs.false c.counts_suit.ensures (ap not c.if-not-counts_suit.true)

pub returns-then-total-changes : goal.returns-then-total-changes
returns-then-total-changes c = let t = c in not_all _ _ _ t.if-counts-inputs.false t.counts_suit.ensures (ap not t.if-not-counts_suit.false) c.total.ensures c.if-total-changes.true

pub returns-then-not-times_suit : goal.returns-then-not-times_suit
returns-then-not-times_suit c = let t = c in not_within _ _ _ t.if-counts-inputs.false t.counts_suit.ensures (ap not t.if-not-counts_suit.false) c.total.ensures c.if-total-changes.false c.times_suit.ensures (ap not c.if-not-times_suit.true)

pub returns : goal.returns
returns c = let u = c in let t = u in rise_decides _ _ _ t.if-counts-inputs.false t.counts_suit.ensures (ap not t.if-not-counts_suit.false) u.total.ensures u.if-total-changes.false u.times_suit.ensures (ap not c.if-not-times_suit.false) c.each_rises.ensures
