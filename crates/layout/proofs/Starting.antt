-- The inputs are planned: areas cleared, the pairs and times of the inputs written.
-- Assumes nothing.
use Prim.Native.Nat.{ℕ, zero, suc, ◌+◌, ◌-◌, ◌*◌, ◌≤◌, ◌<◌, max}
use mathlib.Core.Path.{◌≡◌, refl, sym, ap, ap₂, subst, ◌∙◌}
use mathlib.Core.Bool.{true}
use mathlib.Core.List.{List, [], ◌∷◌, ◌++◌, flat_map, flatten}
use native.Mathlib.Omega.{arith}
use native.Mathlib.Nat.{add-zero}
use native.Mathlib.Numerals.{add-one}
use lib.ListN.{length, get_or, take, drop, replicate, set, length-append, replicate-append-replicate}
use lib.Seq.{sets}
use borrow.Author.Tests.{lt-leb}
use Rattle.lists.specs.Tables.{tabulate_from}
use Rattle.lists.specs.Areas.{padded}
use Rattle.lists.proofs.Padding.{pad_cleared}
use Rattle.method.specs.Stimulus.{Moments, Ordered}
use Rattle.method.specs.Changes.{Schedule, start_of, moments_from, most_changes}
use Rattle.method.specs.Indices.{up_to, inertial_indices}
use Rattle.method.specs.Frames.{Frames, input_frames}
use Rattle.circuit.specs.File.{inputs_of}
use Rattle.circuit.specs.Task.{Task, circuit_in, moments_in}
use Rattle.method.specs.declared.Totals.{Totals}
use Rattle.method.specs.Areas.{Areas, areas, all_cleared}
use Rattle.method.specs.Layout.{all_times, all_inertial, all_fanins}
use Rattle.method.specs.Sums.{fits, latest, totals_of}
use Rattle.method.specs.First.{inputs_only, Room, Inputs}
use Rattle.method.specs.Packed.{changes_before}
use Rattle.layout.specs.Steps.{frames_of, Given, Open, Begun, Going}
use Rattle.method.proofs.Rising.{Rise, rise_lower, test_rise}
use Rattle.method.proofs.Changes.{Suited, suited, start_mono, before_low}
use Rattle.method.proofs.Laying.{pair_stored, inputs_count, inputs_frames, no_pairs, no_times, times_one_more, inputs_on, inputs_laid}
use Rattle.method.proofs.Latest.{latest_append, latest_is}
use Rattle.method.proofs.Prefix.{frames_none}
use Rattle.method.proofs.Fitting.{fits_inputs}
use Rattle.circuit.proofs.Parts.{circuit_inputs, few}

-- ---- what the inputs are

-- no later time is at most a time's own
none_up_to : (e : ℕ) (ts : List ℕ) → Rise e ts → up_to e ts ≡ 0
none_up_to e [] r = refl
none_up_to e (t ∷ ts) r = rw (lt-leb t e r.0) (none_up_to e ts (rise_lower ts (omega arith) r.1))

inertial_zeros : (t : ℕ) (ts : List ℕ) → Rise t ts → inertial_indices 0 (t ∷ ts) ≡ replicate (suc (length ts)) 0
inertial_zeros t [] r = refl
inertial_zeros t (u ∷ ts) r = ap₂ ◌∷◌ (subst (λ (e : ℕ). up_to e (u ∷ ts) ≡ 0) (sym (add-zero t)) (none_up_to t (u ∷ ts) r)) (inertial_zeros u ts r.1)

module _ (m : Moments) (o : Ordered m) where
  inertial_from : (n j : ℕ) → all_inertial (tabulate_from n j (λ (i : ℕ). input_frames (m i))) ≡ replicate (length (all_times (tabulate_from n j (λ (i : ℕ). input_frames (m i))))) 0
  unfolding flat_map tabulate_from
  inertial_from zero j = refl
  inertial_from (suc n) j =
      let rest : List Frames = tabulate_from n (suc j) (λ (i : ℕ). input_frames (m i)) in
      ap₂ ◌++◌ (inertial_zeros 0 (m j) (test_rise 0 (m j) (o j))) (inertial_from n (suc j))
      ∙ replicate-append-replicate (suc (length (m j))) (length (all_times rest)) 0
      ∙ ap (λ (n : ℕ). replicate n 0) (sym (length-append (0 ∷ m j) (all_times rest)))

fanins_from : (m : Moments) (n j : ℕ) → all_fanins (tabulate_from n j (λ (i : ℕ). input_frames (m i))) ≡ []
unfolding flat_map flatten tabulate_from
fanins_from m zero j = refl
fanins_from m (suc n) j = fanins_from m n (suc j)

inputs_totals : (m : Moments) (n : ℕ) (t : Totals) → t.frames ≡ n + changes_before m n → t.fanins ≡ 0 → t.last.0 ≡ latest (all_times (inputs_only m n)) → t ≡ totals_of (inputs_only m n)
unfolding totals_of
inputs_totals m n t f w l =
    let a : t.frames ≡ length (all_times (inputs_only m n)) = f ∙ sym (inputs_frames m n) in
    let b : t.fanins ≡ length (all_fanins (inputs_only m n)) = w ∙ sym (ap length (fanins_from m n 0)) in
    rw (← a, ← b, ← l)

-- ---- one input more

pub begun_none : (m : Moments) {d t : List ℕ} → Inputs m d t 0 → Begun m 0 d t (record { frames = 0; fanins = 0; last = record { 0 = 0 } })
unfolding latest
begun_none m i = record { written = i; totals_are = inputs_totals m 0 _ refl refl (rw (no_times m)) }

-- what is known of input n, which has `count` changes
pub record Next (h : Schedule) (n count : ℕ) (d t : List ℕ) (totals : Totals) : Type 0 where
  pub first_is : totals.frames ≡ n + start_of h.counts n
  pub count_most : count ≤ most_changes
  pub frames_most : totals.frames + (count + 1) ≤ 2048
  pub pair : 2 * n + 1 < length d
  pub room : totals.frames + (count + 1) ≤ length t
  pub within : start_of h.counts n + count ≤ length h.times
  -- once its pair and its times are written
  pub on : (own : List ℕ) → own ≡ take count (drop (start_of h.counts n) h.times) → (last : ℕ) → last ≡ max totals.last.0 (get_or (0 ∷ own) (length own) 0)
      → Begun (moments_from h) (n + 1) (sets d (2 * n) (totals.frames ∷ (count + 1) ∷ [])) (sets t totals.frames (0 ∷ own)) (record { frames = totals.frames + (count + 1); fanins = 0; last = record { 0 = last } })

module _ (h : Schedule) {d t : List ℕ} (open-areas : Open h d t) {n : ℕ} (l : n < length h.counts) {totals : Totals} (b : Begun (moments_from h) n d t totals)
    {count : ℕ} (is : count ≡ get_or h.counts n 0) where
  abbrev m : Moments
  m = moments_from h

  change_times_lem : Suited (length h.counts) h
  change_times_lem = suited (length h.counts) h open-areas.suits

  before : changes_before m n ≡ start_of h.counts n
  before = change_times_lem.starts n (omega arith)

  own_count : length (m n) ≡ count
  own_count = change_times_lem.count n ∙ sym is

  first_is : totals.frames ≡ n + start_of h.counts n
  unfolding totals_of
  first_is = ap (λ (x : Totals). x.frames) b.totals_are ∙ inputs_frames m n ∙ ap (λ (k : ℕ). n + k) before

  last_is : totals.last.0 ≡ latest (all_times (inputs_only m n))
  unfolding totals_of
  last_is = ap (λ (x : Totals). x.last.0) b.totals_are

  within : start_of h.counts n + count ≤ length h.times
  within = omega (arith, start_mono h.counts n (length h.counts) l, change_times_lem.total)

  count_most : count ≤ most_changes
  count_most = omega (arith, change_times_lem.few n, own_count)

  next_latest : {last : ℕ} → last ≡ max totals.last.0 (get_or (0 ∷ m n) (length (m n)) 0) → last ≡ latest (all_times (inputs_only m (suc n)))
  next_latest {last} e =
      let r : Rise 0 (m n) = test_rise 0 (m n) (change_times_lem.ordered n) in
      let q : latest (0 ∷ m n) ≡ get_or (0 ∷ m n) (length (m n)) 0 = latest_is (0 ∷ m n) (refl, r) ∙ ap (λ (k : ℕ). get_or (0 ∷ m n) k 0) (let z : suc (length (m n)) - 1 ≡ length (m n) = omega arith in z) in
      e ∙ ap₂ max last_is (sym q) ∙ sym (ap latest (times_one_more m n) ∙ latest_append (all_times (inputs_only m n)) (0 ∷ m n))

  next_totals : {last : ℕ} → last ≡ max totals.last.0 (get_or (0 ∷ m n) (length (m n)) 0)
      → ◌≡◌ {A = Totals} (record { frames = totals.frames + (count + 1); fanins = 0; last = record { 0 = last } }) (totals_of (inputs_only m (suc n)))
  next_totals e = inputs_totals m (suc n) _ (omega (arith, first_is, before, own_count)) refl (next_latest e)

  next_written : Inputs m (sets d (2 * n) (totals.frames ∷ (count + 1) ∷ [])) (sets t totals.frames (0 ∷ m n)) (n + 1)
  next_written =
      let f : n + changes_before m n ≡ totals.frames = omega (arith, first_is, before) in
      let c : 1 + length (m n) ≡ count + 1 = omega (arith, own_count) in
      rw (f, c) at (inputs_on m b.written (omega (arith, open-areas.directory)) (omega (arith, open-areas.times, within, before, own_count)))

  pub next : Next h n count d t totals
  next =
      record {
        first_is = first_is;
        count_most = count_most;
        frames_most = omega (arith, first_is, before, before_low m change_times_lem.few n, count_most, open-areas.few);
        pair = omega (arith, open-areas.directory);
        room = omega (arith, first_is, open-areas.times, within);
        within = within;
        on = λ own e last q.
            let o : own ≡ m n = rw is at e in
            record { written = rw o next_written; totals_are = rw (add-one n) (next_totals (rw o at q)) };
      }

-- as the code stores them
pub stored : {h : Schedule} {n count : ℕ} {d t : List ℕ} {totals : Totals} → Next h n count d t totals
    → {start end : ℕ} → start ≡ totals.frames - n → end ≡ start + count → {own : List ℕ} → own ≡ take (end - start) (drop start h.times)
    → {t' : List ℕ} → t' ≡ sets (set t totals.frames 0) (totals.frames + 1) own → {last both : ℕ} → last ≡ get_or (0 ∷ own) (length own) 0 → both ≡ max totals.last.0 last
    → Begun (moments_from h) (n + 1) (set (set d (2 * n) totals.frames) (2 * n + 1) (count + 1)) t' (record { frames = totals.frames + (count + 1); fanins = 0; last = record { 0 = both } })
stored {h} {n} {count} {d} {t} {totals} k {start} {end} a b {own} o {t'} e {last} {both} p q =
    let first : start ≡ start_of h.counts n = omega (arith, k.first_is) in
    let size : end - start ≡ count = omega arith in
    rw (pair_stored d n totals.frames (count + 1), e, add-one totals.frames) (k.on own (rw (size, first) at o) both (rw p at q))

-- ---- of a file

module _ (task : Task) {a : Areas} (given : Given task a) where
  abbrev inputs : ℕ
  inputs = inputs_of task.file

  changes_of : Suited inputs task.schedule
  changes_of = suited inputs task.schedule given.suits

  all_changes : changes_before (moments_in task) inputs ≡ length task.schedule.times
  all_changes = changes_of.starts inputs (omega arith) ∙ changes_of.total

  nets_are : frames_of task 0 ≡ inputs_only (moments_in task) inputs
  nets_are = frames_none (circuit_in task) (moments_in task) ∙ rw (circuit_inputs task.file)

  fit : fits (frames_of task 0) ≡ true
  fit =
      rw nets_are
      (fits_inputs (moments_in task) inputs (λ i. omega (arith, changes_of.few i)) (omega (arith, few task.file given.read, before_low (moments_in task) changes_of.few inputs)))

  room : Room (inputs_only (moments_in task) inputs) a
  room = rw nets_are at (given.room 0 (omega arith) fit)

  -- in areas as long
  pub inputs_open : {d t : List ℕ} → length d ≡ length a.directory → length t ≡ length a.times → Open task.schedule d t
  inputs_open p q =
      record {
        suits = rw changes_of.each given.suits;
        few = omega (arith, changes_of.each, few task.file given.read);
        directory = omega (arith, changes_of.each, room.directory, inputs_count (moments_in task) inputs);
        times = omega (arith, changes_of.each, room.times, inputs_frames (moments_in task) inputs, all_changes);
      }

  -- the areas were cleared
  module _ {a' : Areas} (cleared : a' ≡ all_cleared a) where
    pub inputs_none : Inputs (moments_in task) a'.directory a'.times 0
    unfolding all_cleared
    inputs_none =
        record {
          pairs_are = rw (no_pairs (moments_in task)) (pad_cleared a.directory 0 (ap (λ (x : Areas). x.directory) cleared) (omega arith));
          times_are = rw (no_times (moments_in task)) (pad_cleared a.times 0 (ap (λ (x : Areas). x.times) cleared) (omega arith));
        }

    inertial_0 : a'.inertial ≡ padded (length a'.inertial) (all_inertial (inputs_only (moments_in task) inputs))
    unfolding all_cleared
    inertial_0 =
        rw (inertial_from (moments_in task) changes_of.ordered inputs 0)
        (pad_cleared a.inertial (length (all_times (inputs_only (moments_in task) inputs))) (ap (λ (x : Areas). x.inertial) cleared) room.inertial)

    fanins_0 : a'.fanins ≡ padded (length a'.fanins) (all_fanins (inputs_only (moments_in task) inputs))
    unfolding all_cleared
    fanins_0 = rw (fanins_from (moments_in task) inputs 0) (pad_cleared a.fanins 0 (ap (λ (x : Areas). x.fanins) cleared) (omega arith))

    pub going_none : {d t : List ℕ} {start : Totals} → Begun (moments_in task) (length task.schedule.counts) d t start
        → Going task 0 (areas d t a'.inertial a'.fanins) start
    going_none b =
        let e = changes_of.each in
        record {
          is = rw nets_are (inputs_laid (moments_in task) inputs (rw e at b.written) inertial_0 fanins_0);
          totals = rw nets_are (rw e at b.totals_are);
          fit = fit;
        }
