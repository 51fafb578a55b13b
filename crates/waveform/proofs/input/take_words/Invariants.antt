-- `waveform::take_words` meets its contract. After i turns the first i words are taken.
use mathlib.Core.Path.{◌≡◌}
use lib.ListN.{take}
use Rattle.waveform.specs.Input.{words_from}
use Rattle.waveform.proofs.input.take_words.Given as goal

abbrev pub invariant-loop-i : goal.invariant-loop-i
invariant-loop-i l = take l.i l.words ≡ words_from l.part l.first l.i
