-- The input taken apart: whether it is whole, its words, and how many words a word part has for each list.
-- Assumes nothing.
use Prim.Native.Nat.{ℕ, zero, suc, ◌+◌, ◌-◌, ◌*◌, ◌/◌, ◌%◌, ◌≤◌, ◌<◌}
use mathlib.Core.Path.{◌≡◌, refl, ap, ap₂, ◌∙◌}
use mathlib.Core.Bool.{Bool, true, false, ◌&&◌, cond}
use mathlib.Core.Logic.{inl, inr, ⊎_elim}
use mathlib.Core.List.{List, ◌∷◌}
use native.Mathlib.Omega.{arith}
use lib.ListN.{length, take, drop, replicate}
use lib.Dec.{leb, eqb}
use borrow.Author.Tests.{leb-true, le-leb, lt-leb, eq-eqb, ne_eqb}
use Rattle.lists.proofs.Choices.{order, zero_or, and_right}
use Rattle.lists.proofs.Tabled.{from_length}
use Rattle.method.specs.Changes.{schedule}
use Rattle.method.specs.Once.{ones}
use Rattle.numbers.specs.Numbers.{number_at, word_at}
use Rattle.waveform.specs.Input.{whole, words_from}
use Rattle.waveform.specs.Steps.{list_length}

-- ---- whole

module _ (input : List ℕ) where
  pub whole_short : length input < 2 → false ≡ whole input
  unfolding whole
  whole_short h = rw (lt-leb 2 (length input) h) refl

  pub whole_long : 2 ≤ length input → 4096 < length input → false ≡ whole input
  unfolding whole
  whole_long l h = rw (le-leb 2 (length input) l, lt-leb (length input) 4096 h) refl

  pub whole_end : 2 ≤ length input → length input ≤ 4096 → {n : ℕ} → n ≡ number_at input 0 → leb (2 + n) (length input) ≡ whole input
  unfolding whole
  whole_end l h {n} e = rw (le-leb 2 (length input) l, le-leb (length input) 4096 h, e) refl

  -- so the circuit ends within it
  pub whole_room : whole input ≡ true → {n : ℕ} → n ≡ number_at input 0 → 2 + n ≤ length input
  unfolding whole
  whole_room e p =
      rw p (leb-true (2 + number_at input 0) (length input) (and_right (leb (length input) 4096) _ (and_right (leb 2 (length input)) _ e)))

-- ---- the lists

pub words_length : (part : List ℕ) (first n : ℕ) → length (words_from part first n) ≡ n
unfolding words_from
words_length part first n = from_length n 0 (λ (i : ℕ). word_at part (8 * (first + i)))

-- ---- how many words a list has

module _ (n : ℕ) where
  pub list_uneven : (n % 16 ≡ 0 → ⊥) → 0 ≡ list_length n
  list_uneven e = rw (ne_eqb (n % 16) 0 e) refl

  pub list_long : 512 < n → 0 ≡ list_length n
  list_long h = rw (lt-leb n 512 h) (last (eqb (n % 16) 0))
    where
      last : (b : Bool) → 0 ≡ cond (b && false) (n / 16) 0
      last true = refl
      last false = refl

  pub list_even : n % 16 ≡ 0 → n ≤ 512 → n / 16 ≡ list_length n
  list_even e h = rw (eq-eqb (n % 16) 0 e, le-leb n 512 h) refl

  pub list_few : list_length n ≤ 32
  list_few = ⊎_elim
      (λ h. few (eqb (n % 16) 0 && leb n 512) (omega (arith, h)))
      (λ h. omega (arith, list_long h)) (order n 512)
    where
      few : (b : Bool) → n / 16 ≤ 32 → cond b (n / 16) 0 ≤ 32
      few true h = h
      few false h = omega arith

  -- exactly where the part is 16 bytes for each of i inputs, the lists have i words each
  pub list_exact : (i : ℕ) → i ≤ 32 → n ≡ 16 * i → list_length n ≡ i
  list_exact i h e = omega (arith, list_even (omega (arith, e)) (omega (arith, e, h)), e)

  pub list_only : (i : ℕ) → 1 ≤ i → list_length n ≡ i → n ≡ 16 * i
  list_only i h e = ⊎_elim
      (λ l. elim (zero_or (n % 16)) [ inl z ↦ omega (arith, list_even z l, e, z) | inr z ↦ absurd (omega (arith, list_uneven z, e, h)) ])
      (λ l. absurd (omega (arith, list_long l, e, h))) (order n 512)

-- ---- both lists, as long as the part says

module _ (part words : List ℕ) (e : length words ≡ list_length (length part)) where
  pub list_small : length words ≤ 32
  list_small = omega (arith, e, list_few (length part))

  pub list_taken : (first : ℕ) {taken : List ℕ} {m : ℕ} → taken ≡ words_from part first (length words) → first ≡ m → taken ≡ words_from part m (list_length (length part))
  list_taken first t f = t ∙ ap₂ (words_from part) f e

  pub list_kept : (first : ℕ) {taken : List ℕ} → taken ≡ words_from part first (length words) → length taken ≡ list_length (length part)
  list_kept first t = ap length t ∙ words_length part first (length words) ∙ e

-- ---- as many ones are lent as a list has words

take_ones : (n m : ℕ) → n ≤ m → take n (replicate {A = ℕ} m 1) ≡ replicate n 1
take_ones zero m h = refl
take_ones (suc n) zero h = absurd (omega arith)
take_ones (suc n) (suc m) h = ap (λ (l : List ℕ). 1 ∷ l) (take_ones n m (omega arith))

pub ones_lent : {n : ℕ} (most : ℕ) → n ≡ list_length most
    → schedule (take (n - 0) (drop 0 (replicate 32 1))) (take (n - 0) (drop 0 (replicate 32 1))) ≡ ones (list_length most)
ones_lent {n} most e =
    let few : n ≤ 32 = omega (arith, e, list_few most) in
    let row : take (n - 0) (replicate {A = ℕ} 32 1) ≡ replicate n 1 = ap (λ (k : ℕ). take k (replicate {A = ℕ} 32 1)) (let q : n - 0 ≡ n = omega arith in q) ∙ take_ones n 32 few in
    ap₂ schedule row row ∙ ap ones e
