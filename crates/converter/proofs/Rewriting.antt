-- A file written anew, gate by gate: the loops over the gates and over a gate's fan-ins.
-- Assumes nothing.
use Prim.Native.Nat.{ℕ, zero, suc, ◌+◌, ◌-◌, ◌*◌, ◌<◌, ◌≤◌}
use lib.Dec.{leb}
use mathlib.Core.Path.{◌≡◌, refl, sym, ap, ◌∙◌}
use Rattle.std.specs.List.{list_all, range_with_len}
use mathlib.Core.Bool.{◌&&◌, Bool}
use mathlib.Core.List.{List, [], ◌∷◌, ◌++◌, flat_map, append_assoc}
use native.Mathlib.Omega.{arith}
use native.Mathlib.Nat.{sub-zero}
use native.Mathlib.Numerals.{add-one}
use lib.ListN.{length, length-append}
use lib.Seq.{sets}
use Rattle.lists.specs.Tables.{tabulate_from, tabulate}
use Rattle.lists.specs.Areas.{cleared, padded}
use Rattle.lists.proofs.Tabled.{from_step, from_end}
use Rattle.method.specs.Kinds.{most_fanins}
use Rattle.method.specs.Circuit.{Gate, Circuit}
use Rattle.editions.specs.declared.Edition.{Edition}
use Rattle.editions.specs.declared.GateRecord.{GateRecord}
use Rattle.editions.specs.File.{inputs_of, gates_of, head_length, record_head, record_length, entries_of, fanin_at, fanins_of, gate_of, circuit_of, record_of}
use Rattle.editions.specs.Limits.{delay_range}
use Rattle.editions.specs.Encode.{two_bytes, encode_head, encode_gate, encode_pairs, encode}
use Rattle.editions.proofs.Bytewise.{two_length}
use Rattle.editions.proofs.Written.{head_length_lem, gate_length}
use Rattle.editions.proofs.Encoded.{head_most}
use Rattle.editions.proofs.Parts.{circuit_inputs, gates_listed, gates_length}
use Rattle.editions.proofs.Faithful.{fanins_length_lem}
use Rattle.filing.proofs.Putting.{Storing, store_more, store_all, put_both}
use Rattle.filing.proofs.Filed.{file_length, filed}
use Rattle.converter.specs.Convert.{delays_up_to}
use Rattle.converter.specs.Steps.{gates_in, Fit, Fits, Ready, Wrote, WroteFile}

-- ---- what is small

pub record_few : (ed : Edition) (file : List ℕ) (j : ℕ) {g : GateRecord} → g ≡ record_of ed file j → entries_of ed file j ≤ most_fanins → g.entries ≤ most_fanins
unfolding record_of
record_few ed file j a few = omega (arith, few, ap (λ (r : GateRecord). r.entries) a)

pub head_few : (ed : Edition) {head : ℕ} → head ≡ record_head ed → head ≤ 5
head_few ed h = omega (arith, head_most ed, h)

pub all_fit : (from to : Edition) (file area : List ℕ) → Ready from to file area → {gates : ℕ} → gates ≡ gates_of file → Fits from to file gates
all_fit from to file area r g = rw g r.gates

pub record_small : (from to : Edition) (file : List ℕ) (j : ℕ) {g : GateRecord} → g ≡ record_of from file j → Fit from to file j → (g.delay < delay_range to) × (g.inertial < delay_range to)
unfolding record_of
record_small from to file j a f =
    (omega (arith, f.delay, ap (λ (r : GateRecord). r.delay) a), omega (arith, f.inertial, ap (λ (r : GateRecord). r.inertial) a))

-- ---- question 23: n gates from gate j on

-- is no delay of gate i above the greatest?
abbrev pub low : Edition → List ℕ → ℕ → ℕ → Bool
low ed file most i = leb (record_of ed file i).delay most && leb (record_of ed file i).inertial most

pub low_all : (ed : Edition) (file : List ℕ) (most n j : ℕ) → list_all (low ed file most) (range_with_len j n) ≡ delays_up_to most (tabulate_from n j (gate_of ed file))
unfolding delays_up_to tabulate_from gate_of record_of
low_all ed file most zero j = refl
low_all ed file most (suc n) j = rw (add-one j) (ap (λ (b : Bool). low ed file most j && b) (low_all ed file most n (suc j)))

-- ---- the fan-ins of a gate: i of n are written

abbrev pub Copying : (ℕ → ℕ) → List ℕ → ℕ → ℕ → List ℕ → ℕ → Type 0
Copying f area₀ at n area i =
    Storing area₀ at (flat_map two_bytes (tabulate n f)) area (at + 2 * i) (flat_map two_bytes (tabulate_from (n - i) i f))

module _ (f : ℕ → ℕ) {area₀ area : List ℕ} (at n i : ℕ) (s : Copying f area₀ at n area i) where
  pub copy_more : i < n → {r : ℕ} → r ≡ f i → {area' : List ℕ} → area' ≡ sets area (at + 2 * i) (two_bytes r) → Copying f area₀ at n area' (i + 1)
  unfolding flat_map
  copy_more l {r} e g =
      store_more s (two_bytes (f i)) (flat_map two_bytes (tabulate_from (n - (i + 1)) (i + 1) f)) (rw (from_step n i f l)) (g ∙ rw e)
      (omega (arith, two_length (f i)))

  pub copy_all : n ≤ i → area ≡ sets area₀ at (flat_map two_bytes (tabulate n f))
  unfolding flat_map
  copy_all l = store_all s (rw (from_end n i f l))

-- ---- the record of a gate

module _ (from to : Edition) (file : List ℕ) (j : ℕ) {g : GateRecord} (a : g ≡ record_of from file j) (entry : List ℕ) (at : ℕ) {head : ℕ} (h : head ≡ record_head to) where
  pub wrote_record : {area area' : List ℕ} → area ≡ sets entry at (encode_head to g.kind g.delay g.inertial)
      → area' ≡ sets area (at + head) (flat_map two_bytes (tabulate g.entries (fanin_at file g.list)))
      → Wrote entry at (encode_gate to (gate_of from file j)) area' (at + head + 2 * g.entries)
  unfolding encode_gate gate_of fanins_of record_of
  wrote_record {area} {area'} e f =
      let own = gate_of from file j in
      record {
        is = put_both entry at (encode_head to own.kind own.delay own.inertial) (flat_map two_bytes own.fanins) {area₁ = area} {q = at + head} (e ∙ rw a)
            (rw (head_length_lem to own, h)) (f ∙ rw a);
        ends = omega (arith, gate_length to own, fanins_length_lem from file j, ap (λ (r : GateRecord). r.entries) a, h);
      }

-- ---- the gates one after the other: j of n are written

module _ (from to : Edition) (file : List ℕ) (n : ℕ) where
  gate_first : (j : ℕ) → j < n → gates_in from file n j ≡ gate_of from file j ∷ gates_in from file n (j + 1)
  gate_first j l = from_step n j (gate_of from file) l

  gate_none : (j : ℕ) → n ≤ j → gates_in from file n j ≡ []
  gate_none j l = from_end n j (gate_of from file) l

  entries_are : (j : ℕ) → length (gate_of from file j).fanins ≡ entries_of from file j
  unfolding gate_of
  entries_are j = fanins_length_lem from file j

  pub record Pairing (area₀ area : List ℕ) (start j : ℕ) : Type 0 where
    pub low : start ≤ head_length n + 21 * j
    pub stored : Storing area₀ 4 (encode_pairs to (head_length n) (gates_in from file n 0)) area (4 + 4 * j) (encode_pairs to start (gates_in from file n j))

  module _ {area₀ area : List ℕ} {start j : ℕ} (p : Pairing area₀ area start j) where
    pub pairing_more : j < n → {g : GateRecord} → g ≡ record_of from file j → entries_of from file j ≤ most_fanins → {head : ℕ} → head ≡ record_head to
        → {area' : List ℕ} → area' ≡ sets area (4 + 4 * j) (two_bytes start ++ two_bytes (head + 2 * g.entries)) → Pairing area₀ area' (start + (head + 2 * g.entries)) (j + 1)
    unfolding encode_pairs record_of
    pairing_more l {g} a few {head} h {area'} e =
        let own = gate_of from file j in
        let len = record_length to (length own.fanins) in
        let same : head + 2 * g.entries ≡ len = omega (arith, entries_are j, ap (λ (r : GateRecord). r.entries) a, h) in
        let rest = encode_pairs to (start + len) (gates_in from file n (j + 1)) in
        let most = p.low in
        record {
          low = omega (arith, most, record_few from file j a few, head_most to, h);
          stored = rw same
              (store_more p.stored (two_bytes start ++ two_bytes len) rest (rw (gate_first j l) (sym (append_assoc (two_bytes start) (two_bytes len) rest))) (rw (← same) e)
              (omega (arith, length-append (two_bytes start) (two_bytes len), two_length start, two_length len)));
        }

    pub pairing_all : n ≤ j → area ≡ sets area₀ 4 (encode_pairs to (head_length n) (gates_in from file n 0))
    unfolding encode_pairs
    pairing_all l = store_all p.stored (rw (gate_none j l))

  records : ℕ → List ℕ
  records j = flat_map (encode_gate to) (gates_in from file n j)

  records_first : (j : ℕ) → j < n → records j ≡ encode_gate to (gate_of from file j) ++ records (j + 1)
  unfolding records flat_map
  records_first j l = rw (gate_first j l)

  pub record Recording (area₀ area : List ℕ) (at j : ℕ) : Type 0 where
    pub low : at ≤ head_length n + 21 * j
    pub sum : at + length (flat_map (encode_gate to) (gates_in from file n j)) ≡ head_length n + length (flat_map (encode_gate to) (gates_in from file n 0))
    pub stored : Storing area₀ (head_length n) (flat_map (encode_gate to) (gates_in from file n 0)) area at (flat_map (encode_gate to) (gates_in from file n j))

  module _ {area₀ area : List ℕ} {at j : ℕ} (p : Recording area₀ area at j) where
    pub recording_more : j < n → entries_of from file j ≤ most_fanins → {area' : List ℕ} {end : ℕ} → Wrote area at (encode_gate to (gate_of from file j)) area' end → Recording area₀ area' end (j + 1)
    unfolding records
    recording_more l few {area'} {end} w =
        let own = gate_of from file j in
        let first = records_first j l in
        let long = gate_length to own in
        record {
          low = omega (arith, w.ends, long, entries_are j, few, head_most to, p.low);
          sum = omega (arith, w.ends, p.sum, ap length first, length-append (encode_gate to own) (records (j + 1)));
          stored = store_more p.stored (encode_gate to own) (records (j + 1)) first w.is w.ends;
        }

    pub recording_all : n ≤ j → Wrote area₀ (head_length n) (flat_map (encode_gate to) (gates_in from file n 0)) area at
    unfolding flat_map
    recording_all l =
        let none : flat_map (encode_gate to) (gates_in from file n j) ≡ [] = rw (gate_none j l) in
        record { is = store_all p.stored none; ends = omega (arith, p.sum, ap length none) }

-- ---- all of the file

module _ (to : Edition) (c : Circuit) (entry : List ℕ) {inputs gates : ℕ} {gs : List Gate} (i : c.inputs ≡ inputs) (n : length c.gates ≡ gates) (l : c.gates ≡ gs) (room : length (encode to c) ≤ length entry) where
  all_filed : {area₀ area₁ area₂ area₃ : List ℕ} → area₀ ≡ cleared entry → area₁ ≡ sets area₀ 0 (two_bytes (inputs + to.added) ++ two_bytes gates)
      → area₂ ≡ sets area₁ 4 (encode_pairs to (head_length gates) gs) → area₃ ≡ sets area₂ (head_length gates) (flat_map (encode_gate to) gs)
      → area₃ ≡ padded (length entry) (encode to c)
  all_filed a b d e = filed to c entry room a (b ∙ rw (i, n)) (d ∙ rw (n, l)) (e ∙ rw (n, l))

  all_long : head_length gates + length (flat_map (encode_gate to) gs) ≡ length (encode to c)
  all_long = sym (file_length to c ∙ rw (n, l))

module _ (from to : Edition) (file entry : List ℕ) {inputs gates : ℕ} (i : inputs ≡ inputs_of from file) (g : gates ≡ gates_of file) (room : length (encode to (circuit_of from file)) ≤ length entry) where
  inputs_same : (circuit_of from file).inputs ≡ inputs
  inputs_same = circuit_inputs from file ∙ sym i

  gates_counted : length (circuit_of from file).gates ≡ gates
  gates_counted = gates_length from file ∙ sym g

  gates_same : (circuit_of from file).gates ≡ gates_in from file gates 0
  gates_same = gates_listed from file ∙ rw (g, sub-zero)

  pub wrote_file : {area₀ area₁ area₂ area₃ : List ℕ} {end : ℕ} → area₀ ≡ cleared entry → area₁ ≡ sets area₀ 0 (two_bytes (inputs + to.added) ++ two_bytes gates)
      → area₂ ≡ sets area₁ 4 (encode_pairs to (head_length gates) (gates_in from file gates 0))
      → Wrote area₂ (head_length gates) (flat_map (encode_gate to) (gates_in from file gates 0)) area₃ end → WroteFile from to file entry area₃ end
  wrote_file a b d w =
      record {
        is = all_filed to (circuit_of from file) entry inputs_same gates_counted gates_same room a b d w.is;
        ends = w.ends ∙ all_long to (circuit_of from file) entry inputs_same gates_counted gates_same room;
      }
