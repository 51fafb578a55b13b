-- `waveform::put_with_words` meets its contract. The lists are as long as the part says, so Run's answer to them is the answer.
use Prim.Native.Nat.{ℕ}
use mathlib.Core.Path.{◌≡◌, refl}
use native.Mathlib.Omega.{arith}
use lib.ListN.{length, replicate, length-replicate}
use Rattle.method.specs.WordLists.{word_lists}
use Rattle.waveform.proofs.Taking.{list_few, list_small, list_taken, list_kept}
use Rattle.text.proofs.Putting.{wrote_as}
use Rattle.waveform.proofs.Answering.{areas_pass, answer_is}
use Rattle.waveform.proofs.nets.put_with_words.Goals as goal

-- so long is an area of zeros
zeros : (n : ℕ) → length (replicate {A = ℕ} n 0) ≡ n
zeros n = length-replicate {A = ℕ} n 0

pub take_words-requires : goal.take_words-requires
take_words-requires c = let s = c in (omega arith, list_small s.args.part.now s.args.before.now s.requires.before_len.0)

pub take_words-requires-2 : goal.take_words-requires-2
take_words-requires-2 c = let s = c in
    let part = s.args.part.now in (
      omega (
        arith,
        list_kept part s.args.before.now s.requires.before_len.0 _ c.take_words.ensures,
        list_few (length part),
      ),
      list_small part s.args.after.now s.requires.before_len.1,
    )

pub returns : goal.returns
returns c = let s = c in
    let part = s.args.part.now in
    let first = c.take_words.ensures in
    let kept = list_kept part s.args.before.now s.requires.before_len.0 _ first in
    let before = list_taken part s.args.before.now s.requires.before_len.0 0 first refl in
    let after = list_taken part s.args.after.now s.requires.before_len.1 _ c.take_words-2.ensures kept in
    wrote_as _ _ (answer_is s.args.task.file.now part _ (areas_pass _ _ _ _ _ (zeros 320) (zeros 2048) (zeros 2048) (zeros 16384) (zeros 2048)) {w = word_lists _ _} before after s.requires.changes_value) c.put_run.ensures
