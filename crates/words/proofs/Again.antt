-- The filter on words, lane by lane; and again, which in no lane alters anything.
-- Assumes nothing.
use Prim.Native.Nat.{ℕ, ◌<◌}
use mathlib.Core.Path.{◌≡◌, sym, ap, subst, ◌∙◌}
use mathlib.Core.Logic.{inl, inr}
use mathlib.Core.Bool.{false}
use mathlib.Core.List.{List, map}
use lib.Dec.{eqb}
use lib.ListN.{length, get_or, length-map}
use lib.Seq.{ext_get_or}
use borrow.Author.Tests.{eq-eqb, eqb-true, eqb-false}
use Rattle.lists.proofs.Choices.{either}
use Rattle.lists.proofs.Tabled.{tabulate_at}
use Rattle.method.specs.Filter.{filtered}
use Rattle.method.specs.Words.{lanes, lane, pack}
use Rattle.method.proofs.Bits.{get_d_lane, pack_lt, pack_lane}
use Rattle.method.proofs.Tracing as tracing
use Rattle.method.proofs.Pulses.{filtered_again}
use Rattle.words.specs.Filtered.{filtered_words}
use Rattle.words.specs.Again.{FilterAgain}
use Rattle.words.proofs.Keeping.{Word}
use Rattle.words.proofs.Filtering.{filtered_length, not_indexed, same_words}

module _ (ks ws : List ℕ) (e : length ks ≡ length ws) where
  -- the bits of a filtered word are packed
  word_at : (k : ℕ) → k < length ws → get_or (filtered_words ks ws) k 0 ≡ pack lanes (λ (L : ℕ). get_or (filtered ks (map (lane L) ws)) k false)
  unfolding filtered_words
  word_at k l = rw (eq-eqb (length ks) (length ws) e) (tabulate_at (length ws) _ 0 k l)

  by_lanes : (L : ℕ) → L < lanes → map (lane L) (filtered_words ks ws) ≡ filtered ks (map (lane L) ws)
  by_lanes L h =
      let size : length (map (lane L) (filtered_words ks ws)) ≡ length ws = length-map (filtered_words ks ws) (lane L) ∙ filtered_length ks ws e in
      let bits : length (map (lane L) ws) ≡ length ws = length-map ws (lane L) in
      ext_get_or false _ _ (size ∙ sym (tracing.filtered_length ks (map (lane L) ws) (e ∙ sym bits) ∙ bits))
      (λ k l. sym (get_d_lane L (filtered_words ks ws) k) ∙ ap (lane L) (word_at k (rw size at l)) ∙ pack_lane lanes _ L h)

  once_more : filtered_words ks (filtered_words ks ws) ≡ filtered_words ks ws
  once_more =
      let size = filtered_length ks ws e in
      same_words ks (filtered_words ks ws) (e ∙ sym size) (λ k l. subst Word (sym (word_at k (rw size at l))) (pack_lt lanes _))
      (λ L h. rw (by_lanes L h) (filtered_again ks (map (lane L) ws)))

again : (ks ws : List ℕ) → filtered_words ks (filtered_words ks ws) ≡ filtered_words ks ws
again ks ws =
    elim (either (eqb (length ks) (length ws))) [
      | inl e ↦ once_more ks ws (eqb-true (length ks) (length ws) e)
      | inr e ↦ ap (filtered_words ks) (sym (not_indexed ks ws (eqb-false (length ks) (length ws) e)))
    ]

pub filter_again : FilterAgain
filter_again = record { by_lanes = by_lanes; again = again }
