-- The words of the inputs, written input by input.
-- Assumes nothing.
use Prim.Native.Nat.{ℕ, suc, ◌+◌, ◌≤◌, ◌<◌}
use mathlib.Core.Path.{◌≡◌, refl, sym, ap, ap₂, ◌∙◌}
use mathlib.Core.List.{List, ◌∷◌, ◌++◌, flatten}
use native.Mathlib.Omega.{arith}
use native.Mathlib.Numerals.{add-one}
use lib.ListN.{length, get_or, take, set}
use lib.Seq.{sets}
use Rattle.lists.specs.Tables.{tabulate_from}
use Rattle.lists.proofs.Tabled.{from_length, from_at}
use Rattle.lists.proofs.Flat.{flat_next}
use Rattle.lists.proofs.Storing as S
use Rattle.lists.proofs.Storing.{Left, all, take_stored}
use Rattle.method.specs.Changes.{start_of}
use Rattle.method.specs.WordLists.{WordLists, lengths_of}
use Rattle.method.proofs.Changes.{start_mono}
use Rattle.evaluation.specs.Steps.{after_words, input_words, Fed}

-- ---- the inputs

-- behind a before word, at `first`, the after words are stored one a turn
module _ (after : List ℕ) (start n : ℕ) where
  pub after_more : {v₀ v : List ℕ} {at k : ℕ} → Left v₀ at (after_words after start n) v k → k < n → Left v₀ at (after_words after start n) (set v (at + k) (get_or after (start + k) 0)) (k + 1)
  after_more {k = k} l h = S.more l (rw (from_length n start (λ (k : ℕ). get_or after k 0)) h) (sym (from_at n start (λ (k : ℕ). get_or after k 0) 0 k h))

  pub after_all : (v : List ℕ) (first b : ℕ) {v' : List ℕ} {k : ℕ} → Left (set v first b) (first + 1) (after_words after start n) v' k → n ≤ k → v' ≡ sets v first (b ∷ after_words after start n)
  after_all v first b l h = rw (add-one first) at (all l (rw (from_length n start (λ (k : ℕ). get_or after k 0)) h))

module _ (counts : List ℕ) (w : WordLists) where
  pub inputs_none : (v : List ℕ) → take (0 + 0) v ≡ input_words counts w 0
  unfolding input_words tabulate_from flatten
  inputs_none v = refl

  -- where the words of input i lie, there is room for them, in the values and among the after words
  module _ {v : List ℕ} (f : Fed counts (lengths_of w) v) {i start : ℕ} (h : i < length w.before) (s : start ≡ start_of counts i) where
    pub input_after : start + get_or counts i 0 ≤ length w.after
    input_after = omega (arith, start_mono counts i (length w.before) h, f.add_up)

    pub input_room : i + start + 1 + get_or counts i 0 ≤ length v
    input_room = omega (arith, input_after, f.room)

  -- one input more
  pub inputs_more : (v : List ℕ) (i start : ℕ) {v' : List ℕ} → i + start + 1 + get_or counts i 0 ≤ length v → start ≡ start_of counts i
      → v' ≡ sets v (i + start) (get_or w.before i 0 ∷ after_words w.after start (get_or counts i 0)) → take (i + start) v ≡ input_words counts w i
      → take ((i + 1) + (start + get_or counts i 0)) v' ≡ input_words counts w (i + 1)
  unfolding input_words
  inputs_more v i start {v'} room s stored e =
      let row : List ℕ = get_or w.before i 0 ∷ after_words w.after start (get_or counts i 0) in
      let size : length row ≡ suc (get_or counts i 0) = ap suc (from_length (get_or counts i 0) start (λ (k : ℕ). get_or w.after k 0)) in
      let q : (i + 1) + (start + get_or counts i 0) ≡ (i + start) + length row = omega arith in
      rw (q, stored, add-one i)
      (take_stored v row (i + start) (omega arith)
      ∙ ap₂ (λ (x y : List ℕ). x ++ y) e (ap (λ (n : ℕ). get_or w.before i 0 ∷ after_words w.after n (get_or counts i 0)) s)
      ∙ sym (flat_next (λ (i : ℕ). get_or w.before i 0 ∷ after_words w.after (start_of counts i) (get_or counts i 0)) i))
