-- Bytes stored one part behind the other.
-- Assumes nothing.
use Prim.Native.Nat.{ℕ, ◌+◌, ◌/◌, ◌%◌, ◌<◌, ◌≤◌}
use mathlib.Core.Path.{◌≡◌, sym, ap, ◌∙◌}
use mathlib.Core.Bool.{true, false}
use mathlib.Core.List.{List, [], ◌++◌}
use native.Mathlib.Omega.{arith}
use native.Mathlib.Numerals.{add-one}
use Rattle.std.specs.Int.{w16, to_le_bytes}
use lib.ListN.{length, get_or, set}
use lib.Seq.{sets, length-sets}
use Rattle.lists.proofs.Storing.{sets_out, sets_append}
use Rattle.method.specs.declared.Kind.{Kind}
use Rattle.editions.specs.declared.Edition.{Edition}
use Rattle.editions.specs.Edition.{delay_bytes}
use Rattle.editions.specs.Limits.{delay_range}
use Rattle.editions.specs.Encode.{two_bytes, encode_delay, encode_head}
use Rattle.method.specs.Kinds.{kind_number}
use Rattle.editions.proofs.Bytewise.{two_length}
use Rattle.editions.proofs.Written.{delay_length}

-- what is left to store, at place p of the area as it is then
pub record Storing (area₀ : List ℕ) (at : ℕ) (whole area : List ℕ) (p : ℕ) (rest : List ℕ) : Type 0 where
  pub same : length area ≡ length area₀
  pub is : sets area₀ at whole ≡ sets area p rest

module _ {area₀ whole area rest : List ℕ} {at p : ℕ} (s : Storing area₀ at whole area p rest) where
  pub store_more : (xs ys : List ℕ) → rest ≡ xs ++ ys → {area' : List ℕ} → area' ≡ sets area p xs → {q : ℕ} → q ≡ p + length xs → Storing area₀ at whole area' q ys
  store_more xs ys e f g =
      record {
        same = ap length f ∙ length-sets area p xs ∙ s.same;
        is = s.is ∙ rw (e, sets_append area p xs ys, ← f, ← g);
      }

  pub store_all : rest ≡ [] → area ≡ sets area₀ at whole
  store_all e = sym (s.is ∙ rw e)

-- two parts, one behind the other
pub put_both : (area : List ℕ) (at : ℕ) (xs ys : List ℕ) {area₁ area₂ : List ℕ} {q : ℕ} → area₁ ≡ sets area at xs → q ≡ at + length xs → area₂ ≡ sets area₁ q ys → area₂ ≡ sets area at (xs ++ ys)
put_both area at xs ys e g f = f ∙ rw (e, g) (sym (sets_append area at xs ys))

pub put_two : (area : List ℕ) (at n : ℕ) → n < 65536 → {bytes area₁ area₂ : List ℕ} → bytes ≡ to_le_bytes w16 n → area₁ ≡ set area at (get_or bytes 0 0) → area₂ ≡ set area₁ (at + 1) (get_or bytes 1 0) → area₂ ≡ sets area at (two_bytes n)
unfolding two_bytes
put_two area at n h b e f =
    let high : n / 256 % 256 ≡ n / 256 = omega arith in
    f ∙ rw (e, b, high, add-one at)

pub put_none : (area : List ℕ) (at n : ℕ) → length area ≤ at → area ≡ sets area at (two_bytes n)
put_none area at n h = sym (sets_out area at (two_bytes n) h)

pub put_twice : (area : List ℕ) (at m n : ℕ) {area₁ area₂ : List ℕ} → area₁ ≡ sets area at (two_bytes m) → area₂ ≡ sets area₁ (at + 2) (two_bytes n) → area₂ ≡ sets area at (two_bytes m ++ two_bytes n)
put_twice area at m n e f = put_both area at (two_bytes m) (two_bytes n) e (rw (two_length m)) f

-- a delay of two bytes, or of one
module _ (ed : Edition) (d : ℕ) (r : d < delay_range ed) where
  pub wide_small : ed.wide ≡ true → d < 65536
  unfolding delay_range
  wide_small w = rw w at r

  pub narrow_small : ed.wide ≡ false → d < 256
  unfolding delay_range
  narrow_small w = rw w at r

module _ (ed : Edition) (area : List ℕ) (at d : ℕ) {area' : List ℕ} where
  pub put_wide : ed.wide ≡ true → area' ≡ sets area at (two_bytes d) → area' ≡ sets area at (encode_delay ed d)
  unfolding encode_delay
  put_wide w e = e ∙ rw w

  pub put_narrow : ed.wide ≡ false → area' ≡ set area at d → area' ≡ sets area at (encode_delay ed d)
  unfolding encode_delay
  put_narrow w e = e ∙ rw w

-- kind, d, di
pub head_put : (ed : Edition) (area : List ℕ) (at : ℕ) (kind : Kind) (d di : ℕ) {k two : ℕ} {area₁ area₂ area₃ : List ℕ}
    → k ≡ kind_number kind → two ≡ delay_bytes ed → area₁ ≡ set area at k → area₂ ≡ sets area₁ (at + 1) (encode_delay ed d)
    → area₃ ≡ sets area₂ (at + 1 + two) (encode_delay ed di) → area₃ ≡ sets area at (encode_head ed kind d di)
unfolding encode_head
head_put ed area at kind d di k t e f g =
    put_both (set area at (kind_number kind)) (at + 1) (encode_delay ed d) (encode_delay ed di) (f ∙ rw (e, k)) (rw (delay_length ed d, t)) g ∙ rw (add-one at)
