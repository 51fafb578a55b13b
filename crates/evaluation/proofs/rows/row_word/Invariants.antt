-- `evaluation::rows::row_word` meets its contract. After e entries the word has the lanes that the rule asks of these.
use Rattle.evaluation.specs.Steps.{sources}
use Rattle.evaluation.proofs.Making.{Asked}
use Rattle.evaluation.proofs.rows.row_word.Given as goal

abbrev pub invariant-loop-e : goal.invariant-loop-e
invariant-loop-e g l = Asked l.rule.parity l.rule.turn (sources l.values l.bases l.fanins l.at l.e) l.word
