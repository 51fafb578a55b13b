-- In every lane a packed run is that lane's own run: its words were packed from the lanes, and a lane's trace is made from
-- that lane's bits of the words alone.
-- Assumes nothing.
use Prim.Native.Nat.{ℕ, suc, ◌+◌, ◌<◌, ◌≤◌}
use mathlib.Core.Path.{◌≡◌, refl, sym, ap, ap₂, subst, ◌∙◌, fun_ext}
use mathlib.Core.Logic.{◌≢◌}
use mathlib.Core.Bool.{Bool, true, false}
use mathlib.Core.List.{List, [], ◌∷◌, map}
use native.Mathlib.Omega.{arith}
use lib.ListN.{length, get_or, length-map}
use lib.Seq.{ext_get_or}
use Rattle.lists.specs.Tables.{tabulate}
use Rattle.lists.proofs.Tabled.{from_length, tabulate_at}
use Rattle.method.specs.Circuit.{Circuit}
use Rattle.method.specs.Stimulus.{Change, Moments, moments_of, Ordered}
use Rattle.method.specs.Frames.{frames_at}
use Rattle.method.specs.Traces.{Trace, no_trace, trace_at}
use Rattle.method.specs.Look.{level, changes}
use Rattle.method.specs.Machine.{machine}
use Rattle.method.specs.Words.{lanes, lane}
use Rattle.method.specs.WordLists.{WordLists}
use Rattle.method.specs.Packed.{changes_before, changes_to, lane_of, packed_word, packed_values}
use Rattle.method.specs.Agreement.{level_at, potential, changed_times}
use Rattle.method.specs.Lanes.{lane_level, lane_count, AgreeIn, Lanes}
use Rattle.method.proofs.Changes.{before_mono}
use Rattle.method.proofs.Bits.{lane_ext, pack_lane, get_d_lane}
use Rattle.method.proofs.Tracing.{value_each, same_traces}
use Rattle.method.proofs.Agreement.{agreement}

-- ---- a lane's stimulus: the change times of all lanes, and that lane's bits of the words

to_times : (L : ℕ) (words : List ℕ) (j : ℕ) (ts : List ℕ) → map (λ (x : Change). x.time) (changes_to L words j ts) ≡ ts
to_times L words j [] = refl
to_times L words j (t ∷ ts) = ap (λ (l : List ℕ). t ∷ l) (to_times L words (suc j) ts)

pub own_moments : (L : ℕ) (m : Moments) (w : WordLists) → moments_of (lane_of L m w) ≡ m
own_moments L m w = fun_ext (λ i. to_times L w.after (changes_before m i) (m i))

same_to : (L : ℕ) (words words' : List ℕ) (j : ℕ) (ts : List ℕ) → ((k : ℕ) → j ≤ k → k < j + length ts → lane L (get_or words k 0) ≡ lane L (get_or words' k 0))
    → changes_to L words j ts ≡ changes_to L words' j ts
same_to L words words' j [] f = refl
same_to L words words' j (t ∷ ts) f =
    ap₂ (λ (b : Bool) (l : List Change). record { time = t; bit = b } ∷ l) (f j (omega arith) (omega arith))
    (same_to L words words' (suc j) ts (λ k a b. f k (omega arith) (omega arith)))

-- ---- its own run

module _ (c : Circuit) (m : Moments) (w : WordLists) (L n : ℕ) where
  pub lane_each : length (trace_at c (lane_of L m w) n).values ≡ length (frames_at c m n).times
  lane_each = value_each c (lane_of L m w) n ∙ ap (λ (m : Moments). length (frames_at c m n).times) (own_moments L m w)

  module _ (o : Ordered m) where
    pub lane_ordered : Ordered (moments_of (lane_of L m w))
    lane_ordered = subst Ordered (sym (own_moments L m w)) o

    pub lane_level_lem : (t : ℕ) → level (frames_at c m n).times (trace_at c (lane_of L m w) n).values t ≡ machine c (lane_of L m w) n t
    lane_level_lem t =
        subst (λ (x : Moments). level (frames_at c x n).times (trace_at c (lane_of L m w) n).values t ≡ machine c (lane_of L m w) n t) (own_moments L m w)
        (agreement.level_is_machine c (lane_of L m w) lane_ordered n t)

module _ (c : Circuit) (m : Moments) (w : WordLists) (L : ℕ) (h : L < lanes) (n : ℕ) where
  own : map (lane L) (packed_values c m w n) ≡ (trace_at c (lane_of L m w) n).values
  unfolding packed_values packed_word
  own =
      let frame_count : ℕ = length (frames_at c m n).times in
      let ws : List ℕ = tabulate frame_count (packed_word c m w n) in
      let size : length (map (lane L) ws) ≡ frame_count = length-map ws (lane L) ∙ from_length frame_count 0 (packed_word c m w n) in
      ext_get_or false (map (lane L) ws) (trace_at c (lane_of L m w) n).values (size ∙ sym (lane_each c m w L n))
      (λ k l. sym (get_d_lane L ws k)
      ∙ ap (lane L) (tabulate_at frame_count (packed_word c m w n) 0 k (rw size at l))
      ∙ pack_lane lanes (λ (L : ℕ). get_or (trace_at c (lane_of L m w) n).values k false) L h)

  module _ (o : Ordered m) where
    level_own : (t : ℕ) → lane_level L c m w n t ≡ machine c (lane_of L m w) n t
    level_own t = rw own (lane_level_lem c m w L n o t)

    only_at : (t : ℕ) → lane_level L c m w n (suc t) ≢ lane_level L c m w n t → potential c m n (suc t) ≡ true
    only_at t d =
        let s = lane_of L m w in
        let same : level_at c s n (suc t) ≡ level_at c s n t → lane_level L c m w n (suc t) ≡ lane_level L c m w n t =
        λ e. level_own (suc t) ∙ sym (agreement.level_is_machine c s (lane_ordered c m w L n o) n (suc t)) ∙ e ∙ agreement.level_is_machine c s (lane_ordered c m w L n o) n t ∙ sym (level_own t) in
        subst (λ (x : Moments). potential c x n (suc t) ≡ true) (own_moments L m w) (agreement.changes_at_times c s (lane_ordered c m w L n o) n t (λ e. d (same e)))

    count_own : (end : ℕ) → ((t : ℕ) → potential c m n t ≡ true → t ≤ end) → lane_count L c m w n ≡ changed_times (machine c (lane_of L m w) n) end
    count_own end k = rw own (agreement.count_is_machine c (lane_of L m w) (lane_ordered c m w L n o) n end
        (subst (λ (x : Moments). (t : ℕ) → potential c x n t ≡ true → t ≤ end) (sym (own_moments L m w)) k))

module _ (c : Circuit) (m : Moments) (w w' : WordLists) (L : ℕ)
    (a : AgreeIn L c.inputs (changes_before m c.inputs) w w') (n : ℕ) where
  same_stimulus : (i : ℕ) → i < c.inputs → lane_of L m w i ≡ lane_of L m w' i
  same_stimulus i l = ap₂ (λ (x : Bool) (cs : List Change). record { before = x; changes = cs }) (a.before i l)
      (same_to L w.after w'.after (changes_before m i) (m i) (λ k f g. a.after k (omega (arith, before_mono m i c.inputs l))))

  -- a lane's trace is made from that lane's bits alone
  pub same_values : (trace_at c (lane_of L m w) n).values ≡ (trace_at c (lane_of L m w') n).values
  same_values = ap (λ (ns : List Trace). (get_or ns n no_trace).values) (same_traces c (lane_of L m w) (lane_of L m w') same_stimulus)

  -- so its bits of the packed values are
  pub same_bits : L < lanes → map (lane L) (packed_values c m w n) ≡ map (lane L) (packed_values c m w' n)
  same_bits h = own c m w L h n ∙ same_values ∙ sym (own c m w' L h n)

pub in_lanes : Lanes
in_lanes =
    record {
      packed_bit = λ f L h. pack_lane lanes f L h;
      by_lanes = λ a b x y f. lane_ext lanes a b x y f;
      own_times = own_moments;
      own_values = own;
      level_is_machine = λ c m o w L h n. level_own c m w L h n o;
      count_is_machine = λ c m o w L h n. count_own c m w L h n o;
      changes_at_times = λ c m o w L h n. only_at c m w L h n o;
      same_level = λ c m w w' L h a n t. ap (λ (vs : List Bool). level (frames_at c m n).times vs t) (same_bits c m w w' L a n h);
      same_count = λ c m w w' L h a n. ap changes (same_bits c m w w' L a n h);
    }
