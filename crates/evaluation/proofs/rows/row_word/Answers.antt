-- `evaluation::rows::row_word` meets its contract. After e entries the word has the lanes that the rule asks of these.
use mathlib.Core.Path.{◌≡◌}
use native.Mathlib.Omega.{arith}
use native.Mathlib.Numerals.{add-one}
use Rattle.lists.specs.Tables.{tabulate_from}
use Rattle.lists.proofs.Tabled.{tabulate_snoc, from_length}
use Rattle.evaluation.proofs.Making.{asked_none, asked_more, made_asked}
use Rattle.evaluation.proofs.rows.row_word.Goals as goal

pub loop-e-init : goal.loop-e-init
unfolding tabulate_from
loop-e-init g c = asked_none c.args.rule.parity c.args.rule.turn

pub loop-e-preserved : goal.loop-e-preserved
loop-e-preserved g c = let l = c.loop-e in
    let next = c.requires.joins l.word c.source.result c.join-word.result (omega arith) (omega arith) c.join-word.ensures in
    rw (add-one l.e, tabulate_snoc l.e _, ← c.source.ensures) (asked_more c.args.rule _ l.word c.source.result l.invariant next)

pub returns : goal.returns
returns g c = let a = c.args in
    let all : c.loop-e.e ≡ a.entries = omega arith in
    made_asked a.rule c.requires.row.2 _ c.loop-e.word (rw all at c.loop-e.invariant) (rw (from_length a.entries 0 _) c.requires.row.1) (omega arith)
