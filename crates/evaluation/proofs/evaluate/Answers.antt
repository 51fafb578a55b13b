-- `evaluate` meets its contract: the inputs, then the gates, then zeros. The words of the inputs fit into 64 lanes.
use native.Mathlib.Omega.{arith}
use Rattle.method.specs.WordLists.{words_in}
use Rattle.evaluation.proofs.Valued.{fed, evaluated}
use Rattle.evaluation.proofs.evaluate.Goals as goal

pub input_words-requires : goal.input_words-requires
input_words-requires c = let s = c in
    fed _ (words_in s.args.words) s.requires.planned.0.suits s.requires.driven

pub returns : goal.returns
returns c = let s = c in
    let inputs = c.input_words in
    let gates = c.all_gates in
    evaluated _ _ s.requires.planned.0 inputs.ensures.before_fit inputs.ensures.after_fit s.requires.planned.1 s.requires.planned.2 s.requires.driven inputs.ensures.written gates.ensures (omega (arith, gates.auto, inputs.auto)) c.clear.ensures
