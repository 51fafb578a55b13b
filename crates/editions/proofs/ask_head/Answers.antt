-- `editions::ask_head` meets its contract. At each return the tests that led there pick the ladder's case.
use Rattle.editions.proofs.Heads.{no_1, no_2, no_3, no_4, no_5, none_5}
use mathlib.Core.Path.{ap}
use mathlib.Core.Bool.{not}
use Rattle.editions.proofs.ask_head.Goals as goal

pub returns-then-file-lt4 : goal.returns-then-file-lt4
returns-then-file-lt4 c = no_1 _ _ c.if-file-lt4.true

pub returns-then-not-inputs_suit : goal.returns-then-not-inputs_suit
returns-then-not-inputs_suit c = no_2 _ _ c.if-file-lt4.false c.number_at-held.ensures c.inputs_suit.ensures (ap not c.if-not-inputs_suit.true)

pub returns-then-not-is_between : goal.returns-then-not-is_between
returns-then-not-is_between c = no_3 _ _ c.if-file-lt4.false c.number_at-held.ensures c.inputs_suit.ensures (ap not c.if-not-inputs_suit.false) c.number_at-gates.ensures c.is_between.ensures (ap not c.if-not-is_between.true)

pub returns-then-file-gates : goal.returns-then-file-gates
returns-then-file-gates c = no_4 _ _ c.if-file-lt4.false c.number_at-held.ensures c.inputs_suit.ensures (ap not c.if-not-inputs_suit.false) c.number_at-gates.ensures c.is_between.ensures (ap not c.if-not-is_between.false) c.if-file-gates.true

pub returns-then-not-records_fill : goal.returns-then-not-records_fill
returns-then-not-records_fill c = no_5 _ _ c.if-file-lt4.false c.number_at-held.ensures c.inputs_suit.ensures (ap not c.if-not-inputs_suit.false) c.number_at-gates.ensures c.is_between.ensures (ap not c.if-not-is_between.false) c.if-file-gates.false c.record_head.ensures c.records_fill.ensures (ap not c.if-not-records_fill.true)

pub returns : goal.returns
returns c = none_5 _ _ c.if-file-lt4.false c.number_at-held.ensures c.inputs_suit.ensures (ap not c.if-not-inputs_suit.false) c.number_at-gates.ensures c.is_between.ensures (ap not c.if-not-is_between.false) c.if-file-gates.false c.record_head.ensures c.records_fill.ensures (ap not c.if-not-records_fill.false)
