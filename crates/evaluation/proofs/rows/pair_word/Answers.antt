-- `evaluation::rows::pair_word` meets its contract. By the rule, of two words.
use native.Mathlib.Omega.{arith}
use lib.Bits.{xor_lt}
use Rattle.method.specs.Words.{lanes}
use Rattle.evaluation.proofs.Making.{odd_pair, made_odd, made_either, made_both}
use Rattle.evaluation.proofs.rows.pair_word.Goals as goal

pub returns-then-rule : goal.returns-then-rule
returns-then-rule c = let s = c.args in
    made_odd s.rule c.requires.1 c.if-rule.true (odd_pair s.x s.y) (xor_lt lanes s.x s.y (omega arith) (omega arith))

pub returns-then-turn-eq0 : goal.returns-then-turn-eq0
returns-then-turn-eq0 c = let s = c.args in
    made_either s.rule c.requires.1 c.if-rule.false c.if-turn-eq0.true s.x s.y (omega arith) (omega arith) c.requires.0

pub returns : goal.returns
returns c = let s = c.args in
    made_both s.rule c.requires.1 c.if-turn-eq0.false s.x s.y (omega arith) (omega arith)
