-- A gate over frames that lie in the areas: what its fan-in entries are, where they point to, and that it can be evaluated.
-- Of any frames of an accepted file's nets whose gates' rows are fan-in indices at some delay a gate: which times the nets
-- have is not asked, so that frames by another rule of delays can use it. `Gating` takes it at the frames of the method,
-- with each gate's own delay.
-- Assumes nothing.
use Prim.Native.Nat.{ℕ, suc, ◌+◌, ◌-◌, ◌*◌, ◌<◌, ◌≤◌}
use mathlib.Core.Path.{◌≡◌, sym, ap, ap₂, ◌∙◌, fun_ext}
use mathlib.Core.Bool.{true}
use mathlib.Core.List.{List, map, flatten}
use native.Mathlib.Omega.{arith}
use lib.ListN.{length, get_or, take}
use lib.Seq.{get_or-take}
use Rattle.lists.specs.Ladder.{accepted}
use Rattle.lists.specs.Tables.{tabulate, tabulate_from}
use Rattle.lists.proofs.Tabled.{from_length, tabulate_at, map_from}
use Rattle.lists.proofs.Flat.{seam_at, flat_at}
use Rattle.method.specs.Kinds.{takes}
use Rattle.method.specs.Circuit.{Circuit, gate_at}
use Rattle.method.specs.Indices.{fanin_index}
use Rattle.method.specs.Frames.{Frames, no_frames}
use Rattle.method.specs.Areas.{areas}
use Rattle.method.specs.Values.{net_count}
use Rattle.method.specs.Layout.{laid, first_frame, frame_count, part_of, all_times, all_fanins}
use Rattle.method.proofs.Laying.{pair_first, pair_count, inertial_part, frames_end, fanins_end, frames_below}
use Rattle.method.proofs.Rows as rows
use Rattle.method.proofs.Rows.{rows_wide}
use Rattle.editions.specs.declared.GateRecord.{GateRecord}
use Rattle.circuit.specs.File.{inputs_of, gates_of, fanin_at, record_of, circuit_of}
use Rattle.circuit.specs.Questions.{read_of}
use Rattle.editions.specs.Edition.{present}
use Rattle.editions.proofs.Accepted as reader
use Rattle.editions.proofs.Faithful.{gate_within}
use Rattle.circuit.proofs.Parts.{gates_length, gate_from, gate_from_lem, RecordWithin, circuit_inputs, within, gate_read}
use Rattle.evaluation.specs.Steps.{target, source_at, bases_of, Ready}

-- the times of net n
abbrev pub times_at : List Frames → ℕ → List ℕ
times_at fs n = (get_or fs n no_frames).times

-- fs, the frames of an accepted file's nets, lie in the areas, and the rows of gate j are fan-in indices at the delay near j
pub record Indexed (file : List ℕ) (near : ℕ → ℕ) (fs : List Frames) (d i f : List ℕ) : Type 0 where
  pub read : read_of file ≡ accepted (record { inputs = inputs_of file; gates = gates_of file })
  -- the areas hold them, with some times, and are long enough
  pub times : List ℕ
  pub is : areas d times i f ≡ laid fs (areas d times i f)
  pub pairs : 2 * length fs ≤ length d
  pub indices : length (all_times fs) ≤ length i
  pub room : length (all_fanins fs) ≤ length f
  -- there is an inertial index a frame, 0 where the gate has no inertial delay
  pub nets : length fs ≡ net_count (circuit_of file)
  pub even : (n : ℕ) → n < length fs → length (get_or fs n no_frames).inertial ≡ length (times_at fs n)
  pub still : (j : ℕ) → j < length (circuit_of file).gates → (gate_at (circuit_of file) j).inertial ≡ 0
      → (k : ℕ) → get_or (get_or fs ((circuit_of file).inputs + j) no_frames).inertial k 0 ≡ 0
  -- a row a frame, and its entries name frames of the fan-ins
  pub rows : (j : ℕ) → j < length (circuit_of file).gates
      → (get_or fs ((circuit_of file).inputs + j) no_frames).rows
      ≡ map (λ (t : ℕ). map (λ (ss : List ℕ). fanin_index (near j) ss t) (map (times_at fs) (gate_at (circuit_of file) j).fanins))
      (times_at fs ((circuit_of file).inputs + j))
  pub within : (j n t : ℕ) → fanin_index (near j) (times_at fs n) t < length (times_at fs n)

module _ {file : List ℕ} {near : ℕ → ℕ} {fs : List Frames} {d i f : List ℕ} (x : Indexed file near fs d i f) (j : ℕ) (h : j < gates_of file) where
  abbrev c : Circuit
  c = circuit_of file

  abbrev net : ℕ
  net = c.inputs + j

  abbrev g : GateRecord
  g = record_of file j

  -- its fan-ins, and its times
  abbrev fanin : ℕ → ℕ
  fanin e = fanin_at file g.list e

  abbrev ts : List ℕ
  ts = times_at fs net

  -- where its fan-in rows start
  abbrev rows_at : ℕ
  rows_at = length (all_fanins (take net fs))

  pub there : net < length fs
  there = omega (arith, x.nets, gates_length file)

  pub listed : j < length c.gates
  listed = rw (gates_length file) h

  own : RecordWithin file (inputs_of file + j) g
  own = within file x.read j h

  pub fanin_below : (e : ℕ) → e < g.entries → fanin e < net
  fanin_below e l = rw (circuit_inputs file) (own.below e l)

  pub gate_is : gate_at c j ≡ gate_from file g
  gate_is = gate_read file x.read j h

  taken : takes g.kind g.entries ≡ true
  taken =
      let own-within = gate_within present file j ((reader.passed present file _ x.read).gate j h) in
      let e : takes g.kind (length (tabulate g.entries (fanin_at file g.list))) ≡ true = rw (gate_from_lem file j) at own-within.entries in
      rw (from_length g.entries 0 (fanin_at file g.list)) at e

  -- ---- its entries

  -- a row of its fan-in indices
  row_of : ℕ → List ℕ
  row_of t = tabulate g.entries (λ (e : ℕ). fanin_index (near j) (times_at fs (fanin e)) t)

  row_length : (t : ℕ) → length (row_of t) ≡ g.entries
  unfolding row_of
  row_length t = from_length g.entries 0 _

  rows_are : (get_or fs net no_frames).rows ≡ map row_of ts
  unfolding row_of
  rows_are =
      x.rows j listed
      ∙ ap (λ (r : ℕ → List ℕ). map r ts) (fun_ext (λ t.
      rw gate_is
      (ap (map (λ (ss : List ℕ). fanin_index (near j) ss t)) (map_from (times_at fs) g.entries 0 (fanin_at file g.list))
      ∙ map_from (λ (ss : List ℕ). fanin_index (near j) ss t) g.entries 0 (λ (e : ℕ). times_at fs (fanin e)))))

  rows_length : length (flatten (get_or fs net no_frames).rows) ≡ length ts * g.entries
  rows_length = rows_wide fs net there row_of g.entries row_length ts rows_are

  -- the entries of the fan-in area
  pub entry_at : (k e : ℕ) → k < length ts → e < g.entries → get_or f (rows_at + k * g.entries + e) 0 ≡ fanin_index (near j) (times_at fs (fanin e)) (get_or ts k 0)
  unfolding row_of
  entry_at k e l m = rows.entry_at fs net there row_of g.entries row_length ts rows_are x.is k e l m ∙ tabulate_at g.entries _ 0 e m

  fanin_first : (e : ℕ) → e < g.entries → first_frame d (fanin e) ≡ length (all_times (take (fanin e) fs))
  fanin_first e l = pair_first fs x.is (fanin e) (omega (arith, fanin_below e l, there))

  -- where they point to
  pub target_at : (k e : ℕ) → k < length ts → e < g.entries
      → target (bases_of file d g) f (rows_at + k * g.entries) e ≡ length (all_times (take (fanin e) fs)) + fanin_index (near j) (times_at fs (fanin e)) (get_or ts k 0)
  target_at k e l m = ap₂ ◌+◌ (tabulate_at g.entries _ 0 e m ∙ fanin_first e m) (entry_at k e l m)

  pub index_fits : (k e : ℕ) → fanin_index (near j) (times_at fs (fanin e)) (get_or ts k 0) < length (times_at fs (fanin e))
  index_fits k e = x.within j (fanin e) (get_or ts k 0)

  -- and the word there, in an area that starts with the words of the nets before it, a word a frame
  module _ (words : ℕ → List ℕ) (each : (n : ℕ) → length (words n) ≡ length (times_at fs n))
      (before : (n : ℕ) → n ≤ length fs → length (flatten (tabulate n words)) ≡ length (all_times (take n fs)))
      (v : List ℕ) (holds : take (length (all_times (take net fs))) v ≡ flatten (tabulate net words)) where
    word_at : (n k : ℕ) → n < net → k < length (times_at fs n) → get_or v (length (all_times (take n fs)) + k) 0 ≡ get_or (words n) k 0
    word_at n k l b =
        let last = there in
        let low : length (all_times (take n fs)) + k < length (all_times (take net fs)) = omega (arith, frames_below fs n net l (omega arith)) in
        sym (get_or-take (length (all_times (take net fs))) v (length (all_times (take n fs)) + k) 0 low)
        ∙ ap (λ (l : List ℕ). get_or l (length (all_times (take n fs)) + k) 0) holds
        ∙ ap (λ (p : ℕ). get_or (flatten (tabulate net words)) (p + k) 0) (sym (before n (omega arith)))
        ∙ seam_at (flatten (tabulate n words)) (words n) (flatten (tabulate_from (net - (n + 1)) (n + 1) words)) (flat_at words net n l) k 0 (rw (each n) b)

    pub source_at_lem : (k e : ℕ) → k < length ts → e < g.entries
        → source_at v (bases_of file d g) f (rows_at + k * g.entries) e ≡ get_or (words (fanin e)) (fanin_index (near j) (times_at fs (fanin e)) (get_or ts k 0)) 0
    source_at_lem k e l m = rw (target_at k e l m) (word_at (fanin e) (fanin_index (near j) (times_at fs (fanin e)) (get_or ts k 0)) (fanin_below e m) (index_fits k e))

  -- ---- its own frames

  pub own_first : first_frame d net ≡ length (all_times (take net fs))
  own_first = pair_first fs x.is net there

  pub own_count : frame_count d net ≡ length ts
  own_count = pair_count fs x.is net there

  pub inertial_is : part_of d i net ≡ (get_or fs net no_frames).inertial
  inertial_is = inertial_part fs x.is net there x.even

  -- where the rows of the next gate start
  pub rows_next : length (all_fanins (take (suc net) fs)) ≡ rows_at + frame_count d net * g.entries
  rows_next = rw own_count (rows.rows_next fs net there row_of g.entries row_length ts rows_are)

  -- ---- it can be evaluated

  pub gate_ready : {size : ℕ} → length (all_times fs) ≤ size → Ready file d i f size net g rows_at
  gate_ready {size} s =
      record {
        pair = omega (arith, there, x.pairs);
        fanin_list = own.listed;
        fanin_pair = λ e m. omega (arith, fanin_below e m, there, x.pairs);
        raw = record {
          taken = taken;
          few = own.entries_most;
          room = omega (arith, own_first, own_count, frames_end fs net there);
          within = rw own_count (omega (arith, rows_length, fanins_end fs net there, x.room));
          points = λ k e a b.
              let a' : k < length ts = rw own_count at a in
              rw (target_at k e a' b, own_first) (omega (arith, index_fits k e, frames_below fs (fanin e) net (fanin_below e b) (omega (arith, there))));
        };
        indices = omega (arith, own_first, own_count, frames_end fs net there, x.indices);
        still = λ z k. rw inertial_is (x.still j listed (rw gate_is z) k);
      }
