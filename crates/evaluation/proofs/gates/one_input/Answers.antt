-- `evaluation::gates::one_input` meets its contract. Behind the before word k after words are stored.
use Rattle.evaluation.proofs.Driving.{after_more, after_all}
use Rattle.evaluation.proofs.gates.one_input.Goals as goal

pub loop-k-preserved : goal.loop-k-preserved
loop-k-preserved c = let a = c.args in
    after_more a.after.now a.start a.count c.loop-k.invariant c.loop-k-test.true

pub returns : goal.returns
returns c = let a = c.args in
    after_all a.after.now a.start a.count a.values.now a.first a.before c.loop-k.invariant c.loop-k-test.false
