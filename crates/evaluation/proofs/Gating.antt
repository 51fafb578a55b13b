-- Gate by gate over the areas of a plan: a gate's fan-in rows point to frames of nets that are evaluated already, and there
-- its words are in every lane the gate's own trace of that lane. So one gate more makes the packed values of one net more.
-- Assumes nothing.
use Prim.Native.Nat.{ℕ, suc, ◌+◌, ◌*◌, ◌<◌, ◌≤◌}
use mathlib.Core.Path.{◌≡◌, sym, ap, subst, ◌∙◌}
use mathlib.Core.Bool.{Bool, false}
use mathlib.Core.List.{List, ◌++◌, map}
use native.Mathlib.Omega.{arith}
use native.Mathlib.Nat.{add-zero}
use lib.ListN.{length, get_or, take, length-append}
use lib.Seq.{sets}
use borrow.Author.Tests.{eq-eqb}
use Rattle.lists.proofs.Tabled.{from_ext, tabulate_at, map_from, map_at}
use Rattle.lists.proofs.Flat.{flat_next}
use Rattle.lists.proofs.Storing.{take_stored}
use Rattle.method.specs.Kinds.{gate_fn}
use Rattle.method.specs.Circuit.{Gate, Circuit, gate_at, NoFeedback}
use Rattle.method.specs.Stimulus.{Stimuli, Moments, Ordered}
use Rattle.method.specs.Indices.{fanin_index}
use Rattle.method.specs.Frames.{Frames, frames, frames_at}
use Rattle.method.specs.Filter.{filtered}
use Rattle.method.specs.Traces.{trace_at}
use Rattle.method.specs.Words.{lanes, lane}
use Rattle.method.specs.Packed.{lane_of, packed_word, packed_values}
use Rattle.method.specs.Netwise.{EveryGate}
use Rattle.method.specs.WordLists.{WordLists}
use Rattle.method.specs.Layout.{first_frame, frame_count, part_of, all_times, all_fanins}
use Rattle.method.proofs.Netwise.{net_by_net, indices_each}
use Rattle.method.proofs.Changes.{suited}
use Rattle.method.proofs.Lanes.{own_moments}
use Rattle.method.proofs.Lasting.{starts_counted}
use Rattle.method.proofs.Planned.{times_start}
use Rattle.method.proofs.Bits.{pack_lane, pack_ext}
use Rattle.method.proofs.Laying.{frames_end, times_next}
use Rattle.method.proofs.Parts.{nets_count, word_each, words_before}
use Rattle.method.proofs.Prefix.{no_rows}
use Rattle.editions.specs.declared.GateRecord.{GateRecord}
use Rattle.circuit.specs.File.{inputs_of, gates_of, fanin_at, record_of}
use Rattle.circuit.specs.Task.{Task, circuit_in, moments_in, frames_in}
use Rattle.circuit.proofs.Bounded.{no_feedback}
use Rattle.circuit.proofs.Parts.{circuit_inputs, circuit_within}
use Rattle.words.specs.Filtered.{filtered_words}
use Rattle.evaluation.specs.Steps.{gate_word, source_at, sources, raw_words, bases_of, gate_words, Ready, Planned, Holds}
use Rattle.evaluation.proofs.Writing.{raw_length}
use Rattle.evaluation.proofs.Readying.{Indexed, there, listed, gate_is, index_fits, source_at_lem, own_first, own_count, inertial_is, rows_next, gate_ready}

-- ---- gate j of an accepted file, in the areas of its plan

module _ {task : Task} {d i f : List ℕ} (p : Planned task d i f) where
  abbrev c : Circuit
  c = circuit_in task

  abbrev m : Moments
  m = moments_in task

  abbrev fs : List Frames
  fs = frames c m

  ordered : Ordered m
  ordered = (suited (inputs_of task.file) task.schedule p.suits).ordered

  acyclic : NoFeedback c
  acyclic = no_feedback c (circuit_within task.file p.read)

  every_gate : EveryGate c
  every_gate = (net_by_net c).1 acyclic

  -- the plan has the frames of the method, at the gates' own delays; without an inertial delay no frame counts
  indexed : Indexed task.file (λ (j : ℕ). (gate_at c j).delay) fs d i f
  indexed =
      record {
        read = p.read;
        times = p.times;
        is = p.is;
        pairs = p.pairs;
        indices = p.indices;
        room = p.rows;
        nets = nets_count c m;
        even = indices_each c acyclic m;
        still = λ j l z k. rw (every_gate.gate_inertial m j l, z) (starts_counted (frames_at c m (c.inputs + j)).times (times_start c m ordered (c.inputs + j)) k);
        rows = every_gate.gate_rows m;
        within = λ j. (net_by_net c).0.index_within m ordered (gate_at c j).delay;
      }

  module _ (j : ℕ) (h : j < gates_of task.file) where
    abbrev net : ℕ
    net = c.inputs + j

    abbrev g : GateRecord
    g = record_of task.file j

    abbrev fanin : ℕ → ℕ
    fanin e = fanin_at task.file g.list e

    abbrev ts : List ℕ
    ts = (frames_at c m net).times

    abbrev rows_at : ℕ
    rows_at = length (all_fanins (take net fs))

    -- ---- its words, where the nets before it have theirs

    module _ (w : WordLists) (v : List ℕ) (holds : Holds task w net v) where
      abbrev words : ℕ → List ℕ
      words = packed_values c m w

      module _ (L : ℕ) (b : L < lanes) where
        abbrev s : Stimuli
        s = lane_of L m w

        -- the bit of a fan-in at a frame of time t, and the gate's raw value there, with the frames of these change times
        abbrev bit_at : Moments → ℕ → ℕ → Bool
        bit_at x t n = get_or (trace_at c s n).values (fanin_index (gate_at c j).delay (frames_at c x n).times t) false

        abbrev raw_at : Moments → ℕ → Bool
        raw_at x t = gate_fn (gate_at c j).kind (map (bit_at x t) (gate_at c j).fanins)

        -- the lane's own values: it has the change times of all lanes
        own_values : (trace_at c s net).values ≡ filtered (frames_at c m net).inertial (map (raw_at m) ts)
        own_values =
            subst (λ (x : Moments). (trace_at c s net).values ≡ filtered (frames_at c x net).inertial (map (raw_at x) (frames_at c x net).times)) (own_moments L m w)
            (every_gate.gate_values s j (listed indexed j h))

        -- the bit that an entry of a fan-in row points to
        source_lane : (k e : ℕ) → k < length ts → e < g.entries
            → lane L (source_at v (bases_of task.file d g) f (rows_at + k * g.entries) e) ≡ bit_at m (get_or ts k 0) (fanin e)
        unfolding packed_values packed_word
        source_lane k e l a =
            ap (lane L) (source_at_lem indexed j h words (word_each c m w) (words_before c m w) v holds.is k e l a ∙ tabulate_at (length (frames_at c m (fanin e)).times) _ 0 _ (index_fits indexed j h k e))
            ∙ pack_lane lanes _ L b

        -- so a raw word has the lane's raw value
        raw_lane : (k : ℕ) → k < length ts → lane L (gate_word g.kind (sources v (bases_of task.file d g) f (rows_at + k * g.entries) g.entries)) ≡ raw_at m (get_or ts k 0)
        unfolding gate_word
        raw_lane k l =
            pack_lane lanes _ L b
            ∙ ap (gate_fn g.kind)
            (map_from (lane L) g.entries 0 (source_at v (bases_of task.file d g) f (rows_at + k * g.entries))
            ∙ from_ext g.entries 0 _ _ (λ e z a. source_lane k e l (omega arith))
            ∙ sym (map_from (bit_at m (get_or ts k 0)) g.entries 0 (fanin_at task.file g.list)))
            ∙ ap (λ (x : Gate). gate_fn x.kind (map (bit_at m (get_or ts k 0)) x.fanins)) (sym (gate_is indexed j h))

        raws_lane : map (lane L) (raw_words v (bases_of task.file d g) f g.kind g.entries rows_at (length ts)) ≡ map (raw_at m) ts
        unfolding raw_words
        raws_lane =
            map_from (lane L) (length ts) 0 (λ (k : ℕ). gate_word g.kind (sources v (bases_of task.file d g) f (rows_at + k * g.entries) g.entries))
            ∙ from_ext (length ts) 0 _ _ (λ k z l. raw_lane k (omega arith))
            ∙ sym (map_at (raw_at m) ts)

        -- and the filter makes of them the lane's own values
        lane_values_lem : filtered (part_of d i net) (map (lane L) (raw_words v (bases_of task.file d g) f g.kind g.entries rows_at (length ts))) ≡ (trace_at c s net).values
        lane_values_lem = rw (inertial_is indexed j h, raws_lane) (sym own_values)

      words_are : gate_words task.file d i f net g rows_at v ≡ packed_values c m w net
      unfolding gate_words filtered_words packed_values packed_word
      words_are =
          let raws = raw_words v (bases_of task.file d g) f g.kind g.entries rows_at (length ts) in
          let size : length raws ≡ length ts = raw_length v (bases_of task.file d g) f g.kind g.entries rows_at (length ts) in
          let even : length (part_of d i net) ≡ length raws = rw (inertial_is indexed j h, size) (indexed.even net (there indexed j h)) in
          rw (own_count indexed j h, eq-eqb (length (part_of d i net)) (length raws) even, size)
          (from_ext (length ts) 0 _ _ (λ k z l. pack_ext lanes _ _ (λ L b. ap (λ (bs : List Bool). get_or bs k false) (lane_values_lem L b))))

      -- one net more
      gate_holds : {v' : List ℕ} → length (all_times fs) ≤ length v → v' ≡ sets v (first_frame d net) (gate_words task.file d i f net g rows_at v) → Holds task w (suc net) v'
      gate_holds {v'} size e =
          let last : net < length fs = there indexed j h in
          let count : length (words net) ≡ length ts = word_each c m w net in
          let room : length (all_times (take net fs)) + length (words net) ≤ length v = omega (arith, frames_end fs net last) in
          record {
            is =
                rw (e, own_first indexed j h, words_are, times_next fs net last, length-append (all_times (take net fs)) ts, ← count, flat_next words net)
                (take_stored v (words net) (length (all_times (take net fs))) room ∙ ap (λ (l : List ℕ). l ++ words net) holds.is);
          }

-- ---- the loop over the gates

module _ {task : Task} {d i f : List ℕ} (p : Planned task d i f) {inputs : ℕ} (e : inputs ≡ inputs_of task.file) where
  net_is : inputs ≡ (circuit_in task).inputs
  net_is = e ∙ sym (circuit_inputs task.file)

  pub rows_start_lem : 0 ≡ length (all_fanins (take (inputs + 0) (frames_in task)))
  rows_start_lem = rw (net_is, add-zero) (sym (no_rows (circuit_in task) (moments_in task) (circuit_in task).inputs (omega arith)))

  -- j gates are done, the rows of the next start at `at`
  module _ {j : ℕ} (h : j < gates_of task.file) {at : ℕ} (rows : at ≡ length (all_fanins (take (inputs + j) (frames_in task)))) {g : GateRecord} (is : g ≡ record_of task.file j) where
    pub turn_ready : (size : ℕ) → length (all_times (frames_in task)) ≤ size → Ready task.file d i f size (inputs + j) g at
    turn_ready size s = rw (rows, is, net_is) (gate_ready (indexed p) j h s)

    pub turn_rows : at + frame_count d (inputs + j) * g.entries ≡ length (all_fanins (take (inputs + (j + 1)) (frames_in task)))
    turn_rows = rw (rows, is, net_is, let q : (circuit_in task).inputs + (j + 1) ≡ suc ((circuit_in task).inputs + j) = omega arith in q) (sym (rows_next (indexed p) j h))

    pub turn_holds : {w : WordLists} {v v' : List ℕ} → length (all_times (frames_in task)) ≤ length v → v' ≡ sets v (first_frame d (inputs + j)) (gate_words task.file d i f (inputs + j) g at v)
        → Holds task w (inputs + j) v → Holds task w (inputs + (j + 1)) v'
    turn_holds {w} {v} {v'} size stored holds =
        let q : inputs + (j + 1) ≡ suc ((circuit_in task).inputs + j) = omega (arith, net_is) in
        rw q (gate_holds p j h w v (rw net_is at holds) size (rw (rows, is, net_is) at stored))
