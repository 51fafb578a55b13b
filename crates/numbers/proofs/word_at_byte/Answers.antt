-- `word_at_byte` meets its contract: its eight bytes are those of the bytes from the place on.
use mathlib.Core.Path.{◌≡◌}
use lib.ListN.{get_or}
use native.Mathlib.Omega.{arith}
use borrow.Author.Rules.{rules}
use Rattle.numbers.specs.Numbers.{number_at}
use Rattle.numbers.proofs.Bytes.{word_here}
use Rattle.numbers.proofs.word_at_byte.Goals as goal

pub returns : goal.returns
unfolding number_at
returns c =
    let rest = c.left-rest.result.now in
    let word = c.from_fn.result in
    let called = c.from_fn.ensures.items.each in
    let a : get_or word 0 0 ≡ get_or rest 0 0 = search rules in
    let b : get_or word 1 0 ≡ get_or rest 1 0 = search rules in
    let c' : get_or word 2 0 ≡ get_or rest 2 0 = search rules in
    let d : get_or word 3 0 ≡ get_or rest 3 0 = search rules in
    let e : get_or word 4 0 ≡ get_or rest 4 0 = search rules in
    let f : get_or word 5 0 ≡ get_or rest 5 0 = search rules in
    let g : get_or word 6 0 ≡ get_or rest 6 0 = search rules in
    let h : get_or word 7 0 ≡ get_or rest 7 0 = search rules in
    word_here c.args.bytes.now rest c.args.at c.left-rest.ensures (omega arith)
