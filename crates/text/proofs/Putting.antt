-- Texts written to a buffer one behind the other are one text. Past the buffer's end nothing is written, so no law asks for
-- room.
-- Assumes nothing.
use Prim.Native.Nat.{ℕ, ◌+◌, ◌-◌, ◌≤◌, ◌<◌, min}
use mathlib.Core.Path.{◌≡◌, refl, sym, ap, ◌∙◌, subst}
use mathlib.Core.Logic.{⊎_elim}
use mathlib.Core.List.{List, [], ◌∷◌, ◌++◌, flatten}
use native.Mathlib.Omega.{arith}
use native.Mathlib.Nat.{min-eq_left}
use native.Mathlib.Numerals.{add-one}
use lib.ListN.{length, length-append, length-replicate, take, get_or}
use lib.Seq.{sets, length-sets, take-suc}
use Rattle.lists.specs.Tables.{tabulate}
use Rattle.lists.specs.Areas.{cleared, padded}
use Rattle.lists.proofs.Choices.{order}
use Rattle.lists.proofs.Flat.{flat_next}
use Rattle.lists.proofs.Storing.{sets_out, sets_append}
use Rattle.lists.proofs.Padding.{pad_cleared, pad_store}
use Rattle.text.specs.Wrote.{Wrote}

pub wrote_nothing : (out : List ℕ) (at : ℕ) → Wrote out at [] out at
wrote_nothing out at = record { is = refl; up = omega arith }

-- the buffer stays as long as it is
pub wrote_same : {a b : List ℕ} {i j : ℕ} (text : List ℕ) → Wrote a i text b j → length b ≡ length a
wrote_same {a} {b} {i} {j} text w = ap length w.is ∙ length-sets a i text

module _ {a b c xs ys : List ℕ} {i j k : ℕ} (first : Wrote a i xs b j) (then : Wrote b j ys c k) where
  same : length b ≡ length a
  same = wrote_same xs first

  room : length xs ≤ length a - i → Wrote a i (xs ++ ys) c k
  room h =
      let m : min (length xs) (length a - i) ≡ length xs = min-eq_left h in
      let q : j ≡ i + length xs = first.up ∙ ap (λ (n : ℕ). i + n) m in
      record {
        is = then.is ∙ rw (first.is, q) (sym (sets_append a i xs ys));
        up = then.up ∙ rw (length-append xs ys, same, q) (omega (arith, h));
      }

  none : length a - i < length xs → Wrote a i (xs ++ ys) c k
  none h =
      let q : j ≡ i + (length a - i) = first.up ∙ omega arith in
      let past : length b ≤ j = omega (arith, same, q) in
      record {
        is = then.is ∙ sets_out b j ys past ∙ first.is ∙ sym (sets_append a i xs ys ∙ sets_out (sets a i xs) (i + length xs) ys (rw (length-sets a i xs) (omega (arith, h))));
        up = then.up ∙ rw (length-append xs ys, same, q) (omega (arith, h));
      }

  -- one text, and another behind it
  pub wrote_both : Wrote a i (xs ++ ys) c k
  wrote_both = ⊎_elim room none (order (length xs) (length a - i))

-- a text is what it is equal to
pub wrote_as : {a b : List ℕ} {i j : ℕ} (text text' : List ℕ) → text ≡ text' → Wrote a i text b j → Wrote a i text' b j
wrote_as {a} {b} {i} {j} text text' e w = subst (λ (t : List ℕ). Wrote a i t b j) e w

-- ---- loops

-- one piece more of a row of pieces
pub wrote_next : {a b c : List ℕ} {i j k : ℕ} (f : ℕ → List ℕ) (n : ℕ) → Wrote a i (flatten (tabulate n f)) b j → Wrote b j (f n) c k
    → Wrote a i (flatten (tabulate (n + 1) f)) c k
wrote_next f n done piece = rw (add-one n, flat_next f n) (wrote_both done piece)

-- a loop that has come to its end
pub wrote_reached : {a b : List ℕ} {i j : ℕ} (f : ℕ → List ℕ) (k n : ℕ) → k ≤ n → n ≤ k → Wrote a i (f k) b j → Wrote a i (f n) b j
wrote_reached {a} {b} {i} {j} f k n h l w = subst (λ (m : ℕ). Wrote a i (f m) b j) (let q : k ≡ n = omega (arith, h, l) in q) w

-- one byte more of a text
pub wrote_byte : {a b c : List ℕ} {i j k : ℕ} (text : List ℕ) (n : ℕ) → n < length text → Wrote a i (take n text) b j → Wrote b j (get_or text n 0 ∷ []) c k
    → Wrote a i (take (n + 1) text) c k
wrote_byte text n h done piece = rw (add-one n, take-suc text n 0 h) (wrote_both done piece)

-- ---- from the start of a buffer that was cleared

module _ (buffer text : List ℕ) {a b : List ℕ} {end : ℕ} (clear : a ≡ cleared buffer) (done : Wrote a 0 text b end) (fits : length text ≤ length buffer) where
  long : length a ≡ length buffer
  long = ap length clear ∙ length-replicate (length buffer) 0

  pub wrote_padded : b ≡ padded (length buffer) text
  wrote_padded =
      done.is
      ∙ ap (λ (l : List ℕ). sets l 0 text) (pad_cleared buffer 0 clear (omega arith))
      ∙ ap (λ (n : ℕ). sets (padded n []) 0 text) long
      ∙ pad_store (length buffer) [] text 0 refl (omega (arith, fits))

  pub wrote_length : end ≡ length text
  wrote_length = done.up ∙ omega (arith, fits, long)
