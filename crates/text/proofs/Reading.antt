-- A number in decimal, read from the left, says the number.
-- Assumes nothing.
use Prim.Native.Nat.{ℕ, zero, suc, ◌+◌, ◌-◌, ◌*◌, ◌/◌, ◌%◌, ◌^◌, ◌≤◌, ◌<◌}
use mathlib.Core.Path.{◌≡◌, sym, ap, ◌∙◌}
use mathlib.Core.Logic.{⊎_elim}
use native.Mathlib.Omega.{arith}
use native.Mathlib.Nat.{pow-suc, div-eq_of_lt, div-div-eq-div-mul}
use borrow.Author.Tests.{le-leb, lt-leb}
use Rattle.lists.proofs.Choices.{order}
use Rattle.text.specs.Text.{glyph, digit_at, digits_from, decimal, read_on, ReadsBack}

-- behind the quotient by a power the digit at the power below is read: that is the quotient by it
next : (n k : ℕ) → 10 * (n / 10 ^ suc k) + (glyph (n / 10 ^ k % 10) - 48) ≡ n / 10 ^ k
next n k = omega (arith, ap (λ (p : ℕ). n / p) (pow-suc 10 k) ∙ sym (div-div-eq-div-mul n (10 ^ k) 10))

-- behind the quotient by a power, where n reaches the power below, its digits from there down are read: that is n
rest : (k n : ℕ) → 10 ^ k ≤ n → read_on (n / 10 ^ suc k) (digits_from k n) ≡ n
unfolding digit_at
rest zero n h = omega arith
rest (suc k) n h =
    rw (le-leb (10 ^ suc k) n h)
    (ap (λ (v : ℕ). read_on v (digits_from k n)) (next n (suc k)) ∙ rest k n (omega (arith, pow-suc 10 k)))

-- a power that n does not reach has no digit; the first that it reaches has the quotient 0 above
reads : (k n : ℕ) → n < 10 ^ suc k → read_on 0 (digits_from k n) ≡ n
unfolding digit_at
reads zero n h = omega arith
reads (suc k) n h =
    ⊎_elim (λ a. ap (λ (v : ℕ). read_on v (digits_from (suc k) n)) (sym (div-eq_of_lt h)) ∙ rest (suc k) n a)
    (λ a. rw (lt-leb (10 ^ suc k) n a) (reads k n a)) (order (10 ^ suc k) n)

pub decimal_reads : ReadsBack
unfolding decimal
decimal_reads n h = reads 6 n h
