-- The pulse law after every accepted run: its areas hold the frames and the packed values, each lane's bits are that lane's own
-- values, and the rows in the fan-in area are those of the frames. So what holds of the lane's values holds of the areas.
-- Assumes nothing.
use Prim.Native.Nat.{ℕ, suc, ◌+◌, ◌≤◌, ◌<◌}
use mathlib.Core.Path.{◌≡◌, sym, ap, ap₂, subst, ◌∙◌}
use mathlib.Core.Logic.{◌≢◌}
use mathlib.Core.Bool.{Bool}
use mathlib.Core.List.{List, map}
use native.Mathlib.Omega.{arith}
use lib.Dec.{ltb}
use lib.ListN.{length, get_or}
use borrow.Author.Tests.{ltb-true}
use Rattle.lists.specs.Ladder.{first_no, accepted}
use Rattle.lists.specs.Tables.{all_below}
use Rattle.lists.proofs.Ladders.{accepted_none}
use Rattle.lists.proofs.Tabled.{tabulate_at}
use Rattle.lists.proofs.ByNumber.{map_where}
use Rattle.method.specs.Circuit.{Circuit, gate_at, NoFeedback}
use Rattle.method.specs.Stimulus.{Moments, Ordered}
use Rattle.method.specs.Frames.{frames, frames_at}
use Rattle.method.specs.Traces.{raw_value, raw_values, trace_at}
use Rattle.method.specs.Look.{changes}
use Rattle.method.specs.Words.{lanes, lane}
use Rattle.method.specs.WordLists.{WordLists}
use Rattle.method.specs.Packed.{lane_of, packed_word, packed_values}
use Rattle.method.specs.Pulses.{Pulses}
use Rattle.method.proofs.Bits.{pack_lt}
use Rattle.method.proofs.Changes.{suited}
use Rattle.method.proofs.Laying.{inertial_part}
use Rattle.method.proofs.Lanes.{in_lanes}
use Rattle.method.proofs.Netwise.{indices_each}
use Rattle.method.proofs.Parts.{nets_count, word_each}
use Rattle.method.proofs.Rows.{rows_in_lem}
use Rattle.method.proofs.Pulses.{lane_pulses, machine_apart}
use Rattle.circuit.specs.File.{inputs_of}
use Rattle.circuit.specs.Task.{Task, circuit_in, moments_in, nets_in, machine_in}
use Rattle.circuit.proofs.Bounded.{no_feedback}
use Rattle.circuit.proofs.Parts.{circuit_within}
use Rattle.words.specs.Filtered.{filtered_words}
use Rattle.words.proofs.Keeping.{Word}
use Rattle.words.proofs.Filtering.{same_words}
use Rattle.looks.specs.Look.{look_questions, count_of}
use Rattle.engine.specs.Areas.{Areas}
use Rattle.engine.specs.After.{times_of, values_of, level_in, count_in}
use Rattle.engine.proofs.Accepted.{Held}
use Rattle.engine.proofs.After.{times_are, values_are}
use Rattle.demands.specs.Runs.{Ran}
use Rattle.demands.specs.Pulses.{net_of, inertial_delay, inertial_of, bits_of, raw_in, PulseLaw}
use Rattle.demands.proofs.Holding.{held_ran, past_run}

-- ---- areas that hold the plan and the packed values of a task

module _ (task : Task) (w : WordLists) {a : Areas} (b : Held task w a) where
  abbrev c : Circuit
  c = circuit_in task

  abbrev m : Moments
  m = moments_in task

  acyclic : NoFeedback c
  acyclic = no_feedback c (circuit_within task.file b.read)

  ordered : Ordered m
  ordered = (suited (inputs_of task.file) task.schedule b.timed).ordered

  -- a lane's bits are the values of that lane's own trace
  bits_are : (L : ℕ) → L < lanes → (n : ℕ) → n < nets_in task → bits_of a L n ≡ (trace_at c (lane_of L m w) n).values
  bits_are L l n h = ap (map (lane L)) (values_are task w b n h) ∙ in_lanes.own_values c m w L l n

  -- gate j, which drives net n
  module _ (j : ℕ) (h : j < length c.gates) where
    abbrev n : ℕ
    n = net_of task j

    there : n < length (frames c m)
    there = omega (arith, nets_count c m)

    inertial_are : inertial_of a n ≡ (frames_at c m n).inertial
    inertial_are = inertial_part (frames c m) b.plan_is n there (indices_each c acyclic m)

    -- its fan-ins stand before it, so its raw values are those of the lane's own trace
    raw_are : (L : ℕ) → L < lanes → raw_in task a L j ≡ raw_values (gate_at c j) (λ (i : ℕ). (trace_at c (lane_of L m w) i).values) (frames_at c m n).rows
    unfolding all_below
    raw_are L l =
        ap₂ (λ (vs : List (List Bool)) (rows : List (List ℕ)). map (raw_value (gate_at c j).kind vs) rows)
        (map_where (λ (i : ℕ). ltb i n) (bits_of a L) (λ (i : ℕ). (trace_at c (lane_of L m w) i).values) (λ i e. bits_are L l i (omega (arith, h, ltb-true i n e))) (gate_at c j).fanins (acyclic j h))
        (rows_in_lem c acyclic m b.plan_is j h)

    pulses : (L : ℕ) → L < lanes → Pulses (inertial_delay task j) (times_of a n) (inertial_of a n) (raw_in task a L j) (bits_of a L n)
    pulses L l =
        rw (times_are task w b n (omega (arith, h)), inertial_are, raw_are L l, bits_are L l n (omega (arith, h))) (lane_pulses c acyclic j h m ordered w L)

    packed : (k : ℕ) → k < length (values_of a n) → Word (get_or (values_of a n) k 0)
    unfolding packed_values packed_word
    packed k l =
        let is = values_are task w b n (omega (arith, h)) in
        let e = word_each c m w n in
        subst Word (sym (ap (λ (ws : List ℕ). get_or ws k 0) is ∙ tabulate_at (length (frames_at c m n).times) (packed_word c m w n) 0 k (omega (arith, l, ap length is, e)))) (pack_lt lanes _)

    index_each : length (inertial_of a n) ≡ length (values_of a n)
    index_each = ap length inertial_are ∙ indices_each c acyclic m n there ∙ sym (ap length (values_are task w b n (omega (arith, h))) ∙ word_each c m w n)

    filter_alters_nothing : filtered_words (inertial_of a n) (values_of a n) ≡ values_of a n
    filter_alters_nothing = same_words (inertial_of a n) (values_of a n) index_each packed (λ L l. (pulses L l).again)

-- what Count answers is the number of changes of the bits
counted : (times values : List ℕ) (L : ℕ) {count : ℕ} → count_of times values L ≡ accepted count → changes (map (lane L) values) ≡ count
unfolding count_of
counted times values L e = (accepted_none (first_no (look_questions times values L)) (changes (map (lane L) values)) e).1

-- ---- every accepted run

module _ (task : Task) (w : WordLists) (left : Areas) (r : Ran task w left) where
  holds : Held task w left
  holds = held_ran task w r

  -- where Level's answer changes, the machine's level does
  level_changes : (n L t : ℕ) → n < nets_in task → L < lanes → level_in left n L (suc t) ≢ level_in left n L t → machine_in task w L n (suc t) ≢ machine_in task w L n t
  level_changes n L t h l d e =
      let is = (past_run task w left r).level_is_machine n L in
      d (is (suc t) h l ∙ ap accepted e ∙ sym (is t h l))

  levels_apart : (j L t u : ℕ) → j < length (circuit_in task).gates → L < lanes → t < u
      → level_in left (net_of task j) L (suc t) ≢ level_in left (net_of task j) L t → level_in left (net_of task j) L (suc u) ≢ level_in left (net_of task j) L u
      → suc t + inertial_delay task j < suc u
  levels_apart j L t u h l before p q =
      let n : ℕ = net_of task j in
      let there : n < nets_in task = omega (arith, h) in
      machine_apart (circuit_in task) (acyclic task w holds) j h (lane_of L (moments_in task) w) t u before (level_changes n L t there l p) (level_changes n L u there l q)

  count_most : (j L count : ℕ) → j < length (circuit_in task).gates → L < lanes → count_in left (net_of task j) L ≡ accepted count → count ≤ changes (raw_in task left L j)
  count_most j L count h l e =
      omega (arith, counted (times_of left (net_of task j)) (values_of left (net_of task j)) L e, (pulses task w holds j h L l).fewer)

pub pulse_law : PulseLaw
pulse_law =
    record {
      pulses = λ task w left r j L h l. pulses task w (holds task w left r) j h L l;
      levels_apart = λ task w left r j L t u h l before last p q. omega (arith, levels_apart task w left r j L t u h l before p q);
      index_each = λ task w left r j h. index_each task w (holds task w left r) j h;
      filter_alters_nothing = λ task w left r j h. filter_alters_nothing task w (holds task w left r) j h;
      count_most = count_most;
    }
