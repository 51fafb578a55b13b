-- `mazh_mark` meets its contract: 100 is asked first; else it is Mark on the records that the bytes hold.
use mathlib.Core.Path.{sym, ◌∙◌}
use Rattle.records.proofs.Recorded.{suits_count}
use Rattle.answers.proofs.Given.{given_verdict}
use Rattle.export.proofs.Marking.{mark_none, mark_some}
use Rattle.export.proofs.mazh_mark.Goals as goal

pub returns-then-not-records_suit : goal.returns-then-not-records_suit
returns-then-not-records_suit c = mark_none c.args.verdict.now _ c.args.limit _ _ c.args.expectations.now (sym c.if-not-records_suit.true ∙ c.records_suit.ensures)

pub records_of-requires : goal.records_of-requires
records_of-requires c = suits_count c.args.expectations.now (sym c.records_suit.ensures ∙ c.if-not-records_suit.false)

pub mark_first-answer-requires : goal.mark_first-answer-requires
mark_first-answer-requires c = suits_count c.args.expectations.now (sym c.records_suit.ensures ∙ c.if-not-records_suit.false)

pub returns : goal.returns
returns c = mark_some c.args.verdict.now _ c.args.limit _ _ c.args.expectations.now (sym c.if-not-records_suit.false ∙ c.records_suit.ensures) c.records_of.ensures (given_verdict _ _ c.give.ensures.number c.give.ensures.array) c.mark_first-answer.ensures
