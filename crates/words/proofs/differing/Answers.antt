-- `words::differing` meets its contract. The lanes are gathered from the last word to the first.
use Prim.Native.Nat.{ℕ}
use mathlib.Core.Path.{◌≡◌, ◌∙◌}
use mathlib.Core.List.{reverse}
use native.Mathlib.Omega.{arith}
use lib.Bits.{bit_or, bit_xor}
use borrow.Author.Rules.{rules}
use Rattle.std.specs.List.{fold}
use Rattle.words.proofs.Keeping.{differing_back}
use Rattle.words.proofs.differing.Goals as goal

pub returns : goal.returns
returns c = let s = c.args in
    let gathered : c.fold.result ≡ fold (λ (found w : ℕ). bit_or found (bit_xor w s.raw)) 0 (reverse s.words.now) = search rules in
    gathered ∙ differing_back s.raw s.words.now (omega arith) (λ k. omega (arith, c.type_inv.words k))
