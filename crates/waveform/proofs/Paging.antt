-- What the call answers and leaves: nothing is written where the buffer has another length; else the text, which fits, and
-- zeros behind it.
-- Assumes nothing.
use Prim.Native.Nat.{ℕ, ◌+◌, ◌-◌, ◌≤◌}
use mathlib.Core.Path.{◌≡◌, refl, sym, ap, ap₂, ◌∙◌}
use mathlib.Core.Bool.{Bool, true, false, not, cond}
use mathlib.Core.List.{List}
use native.Mathlib.Omega.{arith}
use lib.ListN.{length, take, drop}
use lib.Dec.{eqb}
use borrow.Author.Tests.{eq-eqb, ne_eqb, not-true, not-false}
use Rattle.lists.specs.Areas.{cleared, padded}
use Rattle.lists.proofs.Padding.{pad_least}
use Rattle.numbers.specs.Numbers.{number_at}
use Rattle.waveform.specs.declared.OtherLength.{OtherLength}
use Rattle.std.specs.Prelude.{Result, Ok, Err}
use Rattle.waveform.specs.Input.{whole, file_part, word_part}
use Rattle.text.specs.Text.{refusal}
use Rattle.waveform.specs.Wave.{buffer_length, answer_text, text_of, PrintAnswer, printed, other_length, Page, page, wave_of, on_paper}
use Rattle.text.specs.Wrote.{Wrote}
use Rattle.text.proofs.Putting.{wrote_padded, wrote_length}
use Rattle.numbers.proofs.Bytes.{rest_is}
use Rattle.waveform.proofs.Lengths.{refusal_length}
use Rattle.waveform.proofs.Answering.{answer_fits}

-- ---- the text

module _ (input : List ℕ) where
  refused_text : whole input ≡ false → refusal 0 ≡ text_of input
  unfolding text_of
  refused_text e = rw e refl

  -- the parts as they are cut out of the input
  answer_text_lem : whole input ≡ true → (n : ℕ) → n ≡ number_at input 0
      → answer_text (take (2 + n - 2) (drop 2 input)) (take (length input - (2 + n)) (drop (2 + n) input)) ≡ text_of input
  unfolding text_of file_part word_part
  answer_text_lem e n p =
      let q : 2 + n - 2 ≡ number_at input 0 = omega (arith, p) in
      rw e (ap₂ answer_text (ap (λ (k : ℕ). take k (drop 2 input)) q) (rest_is input (2 + n) ∙ ap (λ (k : ℕ). drop (2 + k) input) p))

-- ---- the page

module _ (input buffer : List ℕ) where
  pub page_other : (length buffer ≡ buffer_length → ⊥) → page (on_paper (Err (record {}))) buffer ≡ wave_of input buffer
  unfolding on_paper wave_of
  page_other n = rw (ne_eqb (length buffer) buffer_length n) refl

  module _ (room : length buffer ≡ buffer_length) {a b : List ℕ} {end : ℕ} (clear : a ≡ cleared buffer) where
    text_page : (text : List ℕ) → text ≡ text_of input → length text ≤ buffer_length → Wrote a 0 text b end → page (on_paper (Ok end)) b ≡ wave_of input buffer
    unfolding on_paper wave_of
    text_page text t few done =
        let fits : length text ≤ length buffer = omega (arith, room, few) in
        rw (eq-eqb (length buffer) buffer_length room, ← t)
        (ap₂ page (ap printed (wrote_length buffer text clear done fits)) (wrote_padded buffer text clear done fits ∙ ap (λ (n : ℕ). padded n text) room))

    -- an input that is not whole
    pub page_refused : {ok : Bool} → ok ≡ whole input → not ok ≡ true → Wrote a 0 (refusal 0) b end → page (on_paper (Ok end)) b ≡ wave_of input buffer
    page_refused {ok} w n done = text_page (refusal 0) (refused_text input (sym w ∙ not-true ok n)) (omega (arith, refusal_length 0)) done

    -- and one that is
    pub page_answer : {ok : Bool} → ok ≡ whole input → not ok ≡ false → (n : ℕ) → n ≡ number_at input 0
        → Wrote a 0 (answer_text (take (2 + n - 2) (drop 2 input)) (take (length input - (2 + n)) (drop (2 + n) input))) b end → page (on_paper (Ok end)) b ≡ wave_of input buffer
    page_answer {ok} w is n p done =
        text_page _ (answer_text_lem input (sym w ∙ not-false ok is) n p)
        (answer_fits (take (2 + n - 2) (drop 2 input)) (take (length input - (2 + n)) (drop (2 + n) input))) done

-- ---- a text that is printed lies within the buffer

-- the length that is answered; 0 for none
abbrev length_of : PrintAnswer → ℕ
length_of (printed n) = n
length_of other_length = 0

pub printed_inside : (input buffer left : List ℕ) {r : Result ℕ OtherLength} {n : ℕ} → page (on_paper r) left ≡ wave_of input buffer → r ≡ Ok n → n ≤ length left
unfolding on_paper wave_of
printed_inside input buffer left {r} {n} e q = go (eqb (length buffer) buffer_length) (ap (λ (x : Result ℕ OtherLength). page (on_paper x) left) (sym q) ∙ e)
  where
    go : (b : Bool) → page (printed n) left ≡ cond b (page (printed (length (text_of input))) (padded buffer_length (text_of input))) (page other_length buffer) → n ≤ length left
    go true p = omega (arith, ap (λ (x : Page). length_of x.answer) p, ap (λ (x : Page). length x.left) p, pad_least buffer_length (text_of input))
    go false p = omega (arith, ap (λ (x : Page). length_of x.answer) p)
