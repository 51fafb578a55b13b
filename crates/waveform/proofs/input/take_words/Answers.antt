-- `waveform::take_words` meets its contract. After i turns the first i words are taken.
use Prim.Native.Nat.{ℕ, ◌+◌, ◌*◌}
use mathlib.Core.Path.{◌≡◌, refl, sym, ◌∙◌}
use native.Mathlib.Omega.{arith}
use lib.ListN.{length}
use lib.Seq.{take_all}
use Rattle.lists.specs.Tables.{tabulate_from}
use Rattle.lists.proofs.Tabled.{tabulate_set}
use Rattle.numbers.specs.Numbers.{word_at}
use Rattle.waveform.specs.Input.{words_from}
use Rattle.waveform.proofs.input.take_words.Goals as goal

pub loop-i-init : goal.loop-i-init
unfolding words_from tabulate_from
loop-i-init c = refl

pub loop-i-preserved : goal.loop-i-preserved
unfolding words_from
loop-i-preserved c = tabulate_set (λ (i : ℕ). word_at c.args.part.now (8 * (c.args.first + i))) c.loop-i.words c.loop-i.i c.word_at_byte.result (omega arith) c.loop-i.invariant c.word_at_byte.ensures

pub returns : goal.returns
returns c = let whole : c.loop-i.i ≡ length c.args.words.now = omega arith in sym (take_all (length c.args.words.now) c.loop-i.words (omega arith)) ∙ (rw whole at c.loop-i.invariant)
