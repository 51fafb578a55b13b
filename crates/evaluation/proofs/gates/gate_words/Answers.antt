-- `evaluation::gates::gate_words` meets its contract. The raw words are stored, and the filter changes that part alone.
use mathlib.Core.Path.{refl}
use Rattle.evaluation.proofs.Placing.{gate_still, gate_stored}
use Rattle.evaluation.proofs.gates.gate_words.Goals as goal

pub returns-then-gate-eq0 : goal.returns-then-gate-eq0
returns-then-gate-eq0 c = gate_still c.args.values.now c.requires c.raw_words.ensures c.if-gate-eq0.true

pub returns : goal.returns
returns c = gate_stored c.args.values.now c.requires c.raw_words.ensures refl c.filter.ensures refl
