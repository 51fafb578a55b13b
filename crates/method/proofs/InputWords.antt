-- The packed values of an input are its before word and its after words.
-- Assumes nothing.
use Prim.Native.Nat.{ℕ, zero, suc, ◌<◌, ◌^◌}
use mathlib.Core.Path.{◌≡◌, refl, sym, ap, ◌∙◌}
use mathlib.Core.Bool.{Bool, false}
use mathlib.Core.List.{List, [], ◌∷◌, map}
use native.Mathlib.Omega.{arith}
use lib.ListN.{length, get_or}
use lib.Seq.{ext_get_or}
use Rattle.lists.specs.Tables.{tabulate_from, tabulate}
use Rattle.lists.proofs.Tabled.{from_length, tabulate_at}
use Rattle.method.specs.Circuit.{Circuit}
use Rattle.method.specs.Stimulus.{Change, Moments}
use Rattle.method.specs.Frames.{frames_at}
use Rattle.method.specs.Traces.{trace_at}
use Rattle.method.specs.Words.{lanes, lane}
use Rattle.method.specs.WordLists.{WordLists}
use Rattle.method.specs.Packed.{changes_before, changes_to, lane_of, packed_word, packed_values}
use Rattle.method.proofs.Bits.{pack_is, get_d_lane}
use Rattle.method.proofs.Netwise.{net_by_net}

-- ---- the words of input i

abbrev pub input_words : Moments → WordLists → ℕ → List ℕ
input_words m w i = get_or w.before i 0 ∷ tabulate_from (length (m i)) (changes_before m i) (λ (k : ℕ). get_or w.after k 0)

to_bits : (L : ℕ) (words : List ℕ) (j : ℕ) (ts : List ℕ)
    → map (lane L) (tabulate_from (length ts) j (λ (k : ℕ). get_or words k 0)) ≡ map (λ (x : Change). x.bit) (changes_to L words j ts)
unfolding tabulate_from
to_bits L words j [] = refl
to_bits L words j (t ∷ ts) = ap (λ (l : List Bool). lane L (get_or words j 0) ∷ l) (to_bits L words (suc j) ts)

small_from : (f : ℕ → ℕ) (most : ℕ) → 0 < most → ((k : ℕ) → f k < most) → (n j k : ℕ) → get_or (tabulate_from n j f) k 0 < most
unfolding tabulate_from
small_from f most p h zero j k = p
small_from f most p h (suc n) j zero = h j
small_from f most p h (suc n) j (suc k) = small_from f most p h n (suc j) k

module _ (c : Circuit) (m : Moments) (w : WordLists) (i : ℕ) (l : i < c.inputs)
    (b : get_or w.before i 0 < 2 ^ lanes) (a : (k : ℕ) → get_or w.after k 0 < 2 ^ lanes) where
  abbrev words : List ℕ
  words = input_words m w i

  small : (k : ℕ) → get_or words k 0 < 2 ^ lanes
  small zero = b
  small (suc k) = small_from (λ (k : ℕ). get_or w.after k 0) (2 ^ lanes) (omega arith) a (length (m i)) (changes_before m i) k

  in_lane : (L : ℕ) → map (lane L) words ≡ (trace_at c (lane_of L m w) i).values
  in_lane L =
      ap (λ (l : List Bool). lane L (get_or w.before i 0) ∷ l) (to_bits L w.after (changes_before m i) (m i))
      ∙ sym ((net_by_net c).0.input_values (lane_of L m w) i l)

  pub packed_input : packed_values c m w i ≡ input_words m w i
  unfolding packed_values packed_word
  packed_input =
      let count : ℕ = length (frames_at c m i).times in
      let times : (frames_at c m i).times ≡ 0 ∷ m i = (net_by_net c).0.input_times_lem m i l in
      let size : length words ≡ count = ap suc (from_length (length (m i)) (changes_before m i) (λ (k : ℕ). get_or w.after k 0)) ∙ ap length (sym times) in
      sym (ext_get_or 0 words (tabulate count (packed_word c m w i)) (size ∙ sym (from_length count 0 (packed_word c m w i)))
      (λ k h. pack_is lanes (get_or words k 0) (λ (L : ℕ). get_or (trace_at c (lane_of L m w) i).values k false) (small k)
      (λ L g. get_d_lane L words k ∙ ap (λ (bs : List Bool). get_or bs k false) (in_lane L))
      ∙ sym (tabulate_at count (packed_word c m w i) 0 k (rw size at h))))
