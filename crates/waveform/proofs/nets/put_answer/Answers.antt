-- `waveform::put_answer` meets its contract. Each list has 32 words at most, and as many ones are lent.
use native.Mathlib.Omega.{arith}
use lib.ListN.{length}
use Rattle.waveform.proofs.Taking.{list_few, ones_lent}
use borrow.Author.Rules.{rules}
use Rattle.waveform.proofs.nets.put_answer.Goals as goal

pub slice_bounds-put_with_words-end : goal.slice_bounds-put_with_words-end
slice_bounds-put_with_words-end c = omega (arith, c.list_length-n.ensures, list_few (length c.args.part.now))

pub slice_bounds-put_with_words-end-2 : goal.slice_bounds-put_with_words-end-2
slice_bounds-put_with_words-end-2 c = omega (arith, c.list_length-n.ensures, list_few (length c.args.part.now))

pub slice_bounds-before-end : goal.slice_bounds-before-end
slice_bounds-before-end c = omega (arith, c.list_length-n.ensures, list_few (length c.args.part.now))

pub slice_bounds-after-end : goal.slice_bounds-after-end
slice_bounds-after-end c = omega (arith, c.list_length-n.ensures, list_few (length c.args.part.now))

pub put_with_words-requires : goal.put_with_words-requires
put_with_words-requires c = record { before_len = search rules; changes_value = ones_lent (length c.args.part.now) c.list_length-n.ensures }
