-- The values area: the words of the inputs, those of all nets, and zeros behind them.
-- Assumes nothing.
use Prim.Native.Nat.{ℕ, ◌+◌, ◌-◌, ◌^◌, ◌≤◌, ◌<◌}
use mathlib.Core.Path.{◌≡◌, sym, ap, ◌∙◌}
use mathlib.Core.Logic.{inl, inr}
use mathlib.Core.Bool.{true}
use mathlib.Core.List.{List, [], ◌∷◌, ◌++◌, flatten, append-nil}
use native.Mathlib.Omega.{arith}
use lib.ListN.{length, get_or, take, drop, replicate, length-drop, drop_of_length-le}
use lib.Seq.{take_all, take-length, length-take-le}
use borrow.Rule.Slice.PartMut.{mid_len}
use Rattle.lists.specs.Areas.{cleared, padded}
use Rattle.lists.specs.Tables.{tabulate}
use Rattle.lists.proofs.Choices.{order}
use Rattle.lists.proofs.Tabled.{from_ext}
use Rattle.method.specs.Circuit.{Circuit}
use Rattle.method.specs.Stimulus.{Moments}
use Rattle.method.specs.Changes.{start_of, changes_suit}
use Rattle.method.specs.Frames.{Frames}
use Rattle.method.specs.Words.{lanes}
use Rattle.method.specs.Packed.{changes_before, packed_values}
use Rattle.method.specs.WordLists.{WordLists, lengths_of}
use Rattle.method.specs.Layout.{all_times}
use Rattle.method.specs.Values.{all_values}
use Rattle.method.proofs.Changes.{Suited, suited}
use Rattle.method.proofs.InputWords.{packed_input}
use Rattle.method.proofs.Laying.{frames_end}
use Rattle.method.proofs.Netwise.{net_by_net}
use Rattle.method.proofs.Prefix.{input_frames_lem}
use Rattle.circuit.specs.File.{inputs_of, gates_of}
use Rattle.circuit.specs.Task.{Task, circuit_in, moments_in, nets_in, frames_in, all_packed_in}
use Rattle.circuit.proofs.Parts.{gates_length, circuit_inputs}
use Rattle.evaluation.specs.Steps.{Planned, Holds, Driven, Fed, after_words, input_words}

-- the first nets have no more frames than all
frames_first : (fs : List Frames) (n : ℕ) → length (all_times (take n fs)) ≤ length (all_times fs)
frames_first fs n = elim (order (length fs) n) [ inl h ↦ rw (take_all n fs h) (omega arith) | inr h ↦ omega (arith, frames_end fs n h) ]

-- ---- the inputs

module _ (task : Task) (w : WordLists) (suits : changes_suit (inputs_of task.file) task.schedule ≡ true) where
  abbrev c : Circuit
  c = circuit_in task

  abbrev m : Moments
  m = moments_in task

  abbrev counts : List ℕ
  counts = task.schedule.counts

  chosen : Suited (inputs_of task.file) task.schedule
  chosen = suited (inputs_of task.file) task.schedule suits

  inputs_are : c.inputs ≡ inputs_of task.file
  inputs_are = circuit_inputs task.file

  start_is : (i : ℕ) → i ≤ c.inputs → changes_before m i ≡ start_of counts i
  start_is i h = chosen.starts i (omega (arith, inputs_are))

  -- they have a frame each, and one a change
  inputs_end : length (all_times (take c.inputs (frames_in task))) ≡ c.inputs + length task.schedule.times
  inputs_end =
      input_frames_lem c m c.inputs (omega arith)
      ∙ ap (λ (k : ℕ). c.inputs + k) (start_is c.inputs (omega arith) ∙ ap (start_of counts) inputs_are ∙ chosen.total)

  -- so there is room for their words
  pub fed : {v : List ℕ} {total : ℕ} → Driven task (lengths_of w) v total → Fed counts (lengths_of w) v
  fed {v} d =
      record {
        each = chosen.each ∙ sym d.before_each;
        add_up = ap (start_of counts) d.before_each ∙ chosen.total ∙ sym d.after_each;
        room = omega (arith, inputs_end, frames_first (frames_in task) c.inputs, inputs_are, d.before_each, d.after_each, d.words.words);
      }

  module _ (b : (i : ℕ) → get_or w.before i 0 < 2 ^ lanes) (a : (k : ℕ) → get_or w.after k 0 < 2 ^ lanes) where
    -- the packed values of an input are its words
    own_words : (i : ℕ) → i < c.inputs → get_or w.before i 0 ∷ after_words w.after (start_of counts i) (get_or counts i 0) ≡ packed_values c m w i
    own_words i h = rw (← start_is i (omega arith), ← chosen.count i) (sym (packed_input c m w i h (b i) a))

    all_inputs : input_words counts w c.inputs ≡ flatten (tabulate c.inputs (packed_values c m w))
    unfolding input_words
    all_inputs = ap flatten (from_ext c.inputs 0 _ (packed_values c m w) (λ i l u. own_words i (omega arith)))

    pub holds_inputs : {inputs : ℕ} → inputs ≡ inputs_of task.file → length w.before ≡ inputs_of task.file → length w.after ≡ length task.schedule.times
        → {v : List ℕ} → take (length w.before + length w.after) v ≡ input_words counts w (length w.before) → Holds task w inputs v
    holds_inputs {inputs} e lb la {v} h =
        let n : inputs ≡ c.inputs = e ∙ sym inputs_are in
        let k : length w.before ≡ c.inputs = lb ∙ sym inputs_are in
        record { is = rw (n, inputs_end, ← all_inputs) (rw (k, la) at h) }

module _ (task : Task) (w : WordLists) where
  -- ---- all nets

  module _ {inputs gates : ℕ} (i : inputs ≡ inputs_of task.file) (g : gates ≡ gates_of task.file) {v : List ℕ} (h : Holds task w (inputs + gates) v) where
    count_is : inputs + gates ≡ nets_in task
    count_is = omega (arith, circuit_inputs task.file, gates_length task.file)

    pub values_are : take (length (all_times (frames_in task))) v ≡ all_packed_in task w
    unfolding all_values
    values_are =
        let whole : take (nets_in task) (frames_in task) ≡ frames_in task =
        rw (← (net_by_net (circuit_in task)).0.frames_count (moments_in task)) (take-length (frames_in task)) in
        rw (count_is, whole) at h.is

-- ---- the rest

-- what is behind the first n entries of the area was cleared
pub rest_cleared : (v : List ℕ) (n : ℕ) {size : ℕ} → length v ≡ size → n ≤ size → {xs : List ℕ} → take n v ≡ xs → {ys : List ℕ} → ys ≡ cleared (take (length v - n) (drop n v))
    → take n v ++ (ys ++ drop (length v - n) (drop n v)) ≡ padded size xs
unfolding padded
rest_cleared v n l h {xs} e {ys} c =
    let count : length xs ≡ n = ap length (sym e) ∙ length-take-le n v (omega arith) in
    let zeros : ys ≡ replicate (length v - n) 0 = c ∙ ap (λ (m : ℕ). replicate m 0) (mid_len n (length v) v (omega arith)) in
    let none : drop (length v - n) (drop n v) ≡ [] = drop_of_length-le (drop n v) {i = length v - n} (omega (arith, length-drop n v)) in
    rw (none, append-nil ys, e, zeros, count, l)

-- ---- the whole

pub evaluated : (task : Task) (w : WordLists) {d i f : List ℕ} → Planned task d i f → ((i : ℕ) → get_or w.before i 0 < 2 ^ lanes) → ((k : ℕ) → get_or w.after k 0 < 2 ^ lanes)
    → {inputs gates total : ℕ} → inputs ≡ inputs_of task.file → gates ≡ gates_of task.file → {v : List ℕ} → Driven task (lengths_of w) v total
    → {v1 v2 ys : List ℕ} → take (length w.before + length w.after) v1 ≡ input_words task.schedule.counts w (length w.before)
    → ((x : WordLists) → Holds task x inputs v1 → Holds task x (inputs + gates) v2)
    → length v2 ≡ length v → ys ≡ cleared (take (length v2 - total) (drop total v2))
    → take total v2 ++ (ys ++ drop (length v2 - total) (drop total v2)) ≡ padded (length v) (all_packed_in task w)
evaluated task w p b a {inputs} {gates} {total} ni ng {v} d {v1} {v2} {ys} h g l z =
    let all = values_are task w ni ng (g w (holds_inputs task w p.suits b a ni d.before_each d.after_each h)) in
    rest_cleared v2 total l (omega (arith, d.total_is, d.words.words)) (rw (← d.total_is) at all) z
