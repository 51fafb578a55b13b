-- Net n's parts of the areas that a run leaves: the times of its frames, and its packed values. A net has as many values as
-- frames, so both lie behind as much.
-- Assumes nothing.
use Prim.Native.Nat.{ℕ, zero, suc, ◌+◌, ◌-◌, ◌≤◌, ◌<◌}
use mathlib.Core.Path.{◌≡◌, refl, sym, ap, ap₂, ◌∙◌}
use mathlib.Core.List.{List, ◌++◌, flat_map, flatten, append_assoc}
use native.Mathlib.Omega.{arith}
use lib.ListN.{length, take, replicate, length-append}
use lib.Seq.{take-length}
use Rattle.lists.specs.Tables.{tabulate_from, tabulate}
use Rattle.lists.specs.Areas.{padded}
use Rattle.lists.proofs.Flat.{flat_next, flat_at}
use Rattle.lists.proofs.Tabled.{from_length}
use Rattle.method.specs.Circuit.{Circuit}
use Rattle.method.specs.Stimulus.{Moments}
use Rattle.method.specs.Frames.{Frames, frames, frames_at}
use Rattle.method.specs.WordLists.{WordLists}
use Rattle.method.specs.Packed.{packed_values}
use Rattle.method.proofs.Netwise.{net_by_net}
use Rattle.method.specs.Areas.{Areas}
use Rattle.method.specs.Layout.{all_times, laid, part_of}
use Rattle.method.proofs.Laying.{part_at, times_next}
use Rattle.method.specs.Values.{net_count, all_values}

pub nets_count : (c : Circuit) (m : Moments) → length (frames c m) ≡ net_count c
nets_count c m = (net_by_net c).0.frames_count m

-- one net more
none_before : (f : ℕ → List ℕ) (fs : List Frames) → length (flatten (tabulate 0 f)) ≡ length (all_times (take 0 fs))
unfolding flatten flat_map tabulate_from
none_before f fs = refl

module _ (c : Circuit) (m : Moments) (w : WordLists) where
  abbrev words : ℕ → List ℕ
  words = packed_values c m w

  -- a word a frame
  pub word_each : (n : ℕ) → length (packed_values c m w n) ≡ length (frames_at c m n).times
  unfolding packed_values
  word_each n = from_length (length (frames_at c m n).times) 0 _

  -- so the first n nets have as many words as frames
  pub words_before : (n : ℕ) → n ≤ length (frames c m) → length (flatten (tabulate n words)) ≡ length (all_times (take n (frames c m)))
  words_before zero h = none_before words (frames c m)
  words_before (suc n) h =
      ap length (flat_next words n)
      ∙ length-append (flatten (tabulate n words)) (words n)
      ∙ ap₂ ◌+◌ (words_before n (omega arith)) (word_each n)
      ∙ sym (ap length (times_next (frames c m) n h) ∙ length-append (all_times (take n (frames c m))) (frames_at c m n).times)

  pub all_words : length (all_values c m w) ≡ length (all_times (frames c m))
  unfolding all_values
  all_words =
      words_before (net_count c) (omega (arith, nets_count c m))
      ∙ ap (λ (l : List Frames). length (all_times l)) (ap (λ (n : ℕ). take n (frames c m)) (sym (nets_count c m)) ∙ take-length (frames c m))

  -- net n's words stand behind those of the nets before it
  words_behind : (n size : ℕ) → n < net_count c → {area : List ℕ} → area ≡ padded size (all_values c m w)
      → area ≡ flatten (tabulate n words) ++ (words n ++ (flatten (tabulate_from (net_count c - (n + 1)) (n + 1) words) ++ replicate (size - length (all_values c m w)) 0))
  unfolding padded all_values
  words_behind n size h {area} e =
      let z : List ℕ = replicate (size - length (all_values c m w)) 0 in
      let later = tabulate_from (net_count c - (n + 1)) (n + 1) words in
      e ∙ ap (λ (l : List ℕ). l ++ z) (flat_at words (net_count c) n h)
      ∙ append_assoc (flatten (tabulate n words)) (words n ++ flatten later) z
      ∙ ap (λ (l : List ℕ). flatten (tabulate n words) ++ l) (append_assoc (words n) (flatten later) z)

  -- and its pair in the directory finds them
  pub words_part : {p : Areas} → p ≡ laid (frames c m) p → (n size : ℕ) → n < net_count c → {area : List ℕ} → area ≡ padded size (all_values c m w)
      → part_of p.directory area n ≡ packed_values c m w n
  words_part is n size h e =
      let l : n < length (frames c m) = rw (nets_count c m) h in
      part_at (frames c m) is n l (flatten (tabulate n words)) (words n) _ (words_behind n size h e) (words_before n (omega arith)) (word_each n)
