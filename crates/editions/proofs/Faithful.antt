-- The reader accepts exactly the files of circuits within the limits: `specs/Faithful`, proved.
-- Assumes nothing.
use Prim.Native.Nat.{ℕ, zero, suc, ◌+◌, ◌<◌, ◌≤◌}
use mathlib.Core.Path.{◌≡◌, refl, sym, ◌∙◌}
use mathlib.Core.List.{List, ◌++◌, flat_map}
use mathlib.Core.Bool.{true}
use native.Mathlib.Omega.{arith}
use native.Mathlib.Nat.{add-suc, add-zero}
use lib.ListN.{length, length-append}
use lib.Dec.{eqb, leb}
use borrow.Author.Tests.{eqb-true}
use Rattle.lists.specs.Ladder.{between, accepted, refused}
use Rattle.lists.specs.Tables.{tabulate_from, tabulate}
use Rattle.lists.proofs.Choices.{and_left, and_right, between_least_true, between_most_true, between_out}
use Rattle.lists.proofs.Tabled.{from_length}
use Rattle.lists.proofs.Standing.{stands_append, stands_whole}
use Rattle.method.specs.Kinds.{takes}
use Rattle.method.specs.Circuit.{Circuit}
use Rattle.editions.specs.File.{inputs_of, gates_of, head_length, offset_of, length_of, record_head, record_length, kind_byte, delay_of, inertial_of, entries_of, fanins_of, kind_of, gate_of, circuit_of}
use Rattle.editions.specs.Limits.{most_inputs, delays_suit, GateWithin, GatesWithin, Within, delay_range, Writable}
use Rattle.editions.specs.declared.InputsAndGates.{InputsAndGates}
use Rattle.editions.specs.Questions.{fills, length_suits, inputs_and_gates_of, read_of}
use Rattle.editions.specs.Encode.{two_bytes, encode_gate, encode_pairs, encode}
use Rattle.editions.specs.Faithful.{Bytes, inputs_and_gates_in, Faithful, BothFaithful}
use Rattle.editions.proofs.Heads.{no_2}
use Rattle.editions.proofs.Gated.{refused_head}
use Rattle.editions.proofs.Accepted.{GatePassed, counted, passed, passed_read}
use Rattle.numbers.specs.Numbers.{number_at}
use Rattle.editions.specs.Edition.{former, present}
use Rattle.editions.proofs.Bytewise.{number_kind, stands_number}
use Rattle.editions.proofs.Written.{gate_length, pairs_length, Written, WrittenFrom, written→pairs, written→records, written_gates}
use Rattle.editions.proofs.Encoded.{encoded, encoded_head, encoded_gates, encoded_bytes}
use Rattle.editions.specs.declared.Edition.{Edition}

module _ (ed : Edition) where
  -- ---- the file of a circuit

  accepts : (c : Circuit) → Within ed c → read_of ed (encode ed c) ≡ accepted (inputs_and_gates_in c)
  unfolding inputs_and_gates_of
  accepts c l =
      let e = encoded ed c in
      passed_read ed (encode ed c) (encoded_head ed c (encode ed c) l e) (encoded_gates ed c (encode ed c) l e) ∙ rw (e.inputs, e.gates)

  means : (c : Circuit) → circuit_of ed (encode ed c) ≡ c
  unfolding circuit_of
  means c =
      let e = encoded ed c in
      rw (e.inputs, e.gates, written_gates ed (encode ed c) 0 (head_length (length c.gates)) c.gates e.written)

  -- ---- an accepted file

  module _ (s : List ℕ) where
    pub fanins_length_lem : (j : ℕ) → length (fanins_of ed s j) ≡ entries_of ed s j
    unfolding fanins_of
    fanins_length_lem j = from_length (entries_of ed s j) 0 _

    -- what the file says of gate j is the gate that it means
    gate_written : (j at : ℕ) → GatePassed ed s j → offset_of s j ≡ at → Written ed s j at (gate_of ed s j)
    unfolding gate_of length_suits
    gate_written j at g o =
        record {
          offset = o;
          len = rw (fanins_length_lem j) (eqb-true (length_of s j) (record_length ed (entries_of ed s j)) (and_left _ (takes (kind_of (kind_byte s j)) (entries_of ed s j)) g.suits));
          kind = number_kind (kind_byte s j) g.kind_most;
          delay = refl;
          inertial = refl;
          fanins = refl;
        }

    gates_written : (n j at : ℕ) → fills (record_head ed) s n j at ≡ true → ((k : ℕ) → j ≤ k → k < j + n → GatePassed ed s k)
        → WrittenFrom ed s j at (tabulate_from n j (gate_of ed s)) × (at + length (flat_map (encode_gate ed) (tabulate_from n j (gate_of ed s))) ≡ length s)
    unfolding fills tabulate_from flat_map
    gates_written zero j at f g = (tt, omega (arith, eqb-true at (length s) f))
    gates_written (suc n) j at f g =
        let starts : offset_of s j ≡ at = eqb-true (offset_of s j) at (and_left (eqb (offset_of s j) at) _ f) in
        let rest = and_right (leb (record_head ed) (length_of s j)) (fills (record_head ed) s n (suc j) (offset_of s j + length_of s j)) (and_right (eqb (offset_of s j) at) _ f) in
        let w = gate_written j at (g j (omega arith) (omega arith)) starts in
        let m = record_length ed (length (gate_of ed s j).fanins) in
        let next : offset_of s j + length_of s j ≡ at + m = omega (arith, w.len) in
        let more = gates_written n (suc j) (at + m) (rw next at rest) (λ k a b. g k (omega arith) (omega arith)) in (
          (w, more.0),
          omega (arith, more.1, gate_length ed (gate_of ed s j), length-append (encode_gate ed (gate_of ed s j)) (flat_map (encode_gate ed) (tabulate_from n (suc j) (gate_of ed s)))),
        )

    pub gate_within : (j : ℕ) → GatePassed ed s j → GateWithin ed (inputs_of ed s + j) (gate_of ed s j)
    unfolding gate_of delays_suit length_suits
    gate_within j g =
        let d = and_left (between 1 ed.most (delay_of ed s j)) (between 0 ed.most (inertial_of ed s j)) g.delays in
        let di = and_right (between 1 ed.most (delay_of ed s j)) (between 0 ed.most (inertial_of ed s j)) g.delays in
        record {
          delay_least = between_least_true _ _ _ d;
          delay_most = between_most_true _ _ _ d;
          inertial_most = between_most_true _ _ _ di;
          entries = rw (fanins_length_lem j) (and_right (eqb (length_of s j) (record_length ed (entries_of ed s j))) (takes (kind_of (kind_byte s j)) (entries_of ed s j)) g.suits);
          below = g.below;
        }

    gates_within : (n j : ℕ) → ((k : ℕ) → j ≤ k → k < j + n → GatePassed ed s k) → GatesWithin ed (inputs_of ed s + j) (tabulate_from n j (gate_of ed s))
    unfolding tabulate_from
    gates_within zero j g = tt
    gates_within (suc n) j g =
        (gate_within j (g j (omega arith) (omega arith)), rw (← add-suc (inputs_of ed s) j) (gates_within n (suc j) (λ k a b. g k (omega arith) (omega arith))))

    pub accepted_within : (z : InputsAndGates) → read_of ed s ≡ accepted z → Within ed (circuit_of ed s)
    unfolding circuit_of
    accepted_within z e =
        let p = passed ed s z e in
        record {
          inputs_least = (counted ed s p.head).inputs_least;
          inputs_most = (counted ed s p.head).inputs_most;
          gates_most = rw (from_length (gates_of s) 0 (gate_of ed s)) p.head.gates_most;
          gates_within = rw (add-zero (inputs_of ed s)) at (gates_within (gates_of s) 0 (λ k a b. p.gate k (omega arith)));
        }

    answers : (z : InputsAndGates) → read_of ed s ≡ accepted z → z ≡ inputs_and_gates_in (circuit_of ed s)
    unfolding inputs_and_gates_of circuit_of
    answers z e = sym (passed ed s z e).answers ∙ rw (from_length (gates_of s) 0 (gate_of ed s))

    written : (z : InputsAndGates) → Bytes s → read_of ed s ≡ accepted z → encode ed (circuit_of ed s) ≡ s
    unfolding circuit_of encode two_bytes
    written z b e =
        let p = passed ed s z e in
        let g = gates_of s in
        let gs = tabulate g (gate_of ed s) in
        let n : length gs ≡ g = from_length g 0 (gate_of ed s) in
        let w = gates_written g 0 (head_length g) p.head.filled (λ k a b. p.gate k (omega arith)) in
        let pairs = encode_pairs ed (head_length g) gs in
        let records = flat_map (encode_gate ed) gs in
        let place : head_length g ≡ 4 + length pairs = omega (arith, pairs_length ed (head_length g) gs, n) in
        let back = stands_append s 4 pairs records (written→pairs ed s b 0 (head_length g) gs w.0) (rw place at (written→records ed s b 0 (head_length g) gs w.0)) in
        let tail = stands_append s 2 (two_bytes g) (pairs ++ records) (stands_number s b 2 g refl) back in
        let i = inputs_of ed s + ed.added in
        let all = stands_append s 0 (two_bytes i) (two_bytes g ++ (pairs ++ records)) (stands_number s b 0 i (counted ed s p.head).held) tail in
        rw n (stands_whole s (two_bytes i ++ (two_bytes g ++ (pairs ++ records))) all (omega (arith, w.1, place, length-append pairs records)))

  pub faithful : Writable ed → Faithful ed
  faithful fit =
      record {
        bytes = encoded_bytes ed fit;
        accepts = accepts;
        means = λ c l. means c;
        answers = answers;
        within = accepted_within;
        written = written;
        exactly = λ s b. (
          λ a. (circuit_of ed s, accepted_within s a.0 a.1, written s a.0 b a.1),
          λ c. (inputs_and_gates_in c.0, rw (← c.2) (accepts c.0 c.1)),
        );
      }

-- ---- the two editions

pub former_writable : Writable former
unfolding delay_range
former_writable = record { counts = omega arith; delays = omega arith }

pub present_writable : Writable present
unfolding delay_range
present_writable = record { counts = omega arith; delays = omega arith }

pub former_faithful : Faithful former
former_faithful = faithful former former_writable

pub present_faithful : Faithful present
present_faithful = faithful present present_writable

-- a file of 4 bytes or more whose bytes 0-1 no I of the edition gives
refused_2 : (ed : Edition) (s : List ℕ) → 4 ≤ length s → (1 + ed.added ≤ number_at s 0 → number_at s 0 ≤ most_inputs + ed.added → ⊥) → read_of ed s ≡ refused 2
refused_2 ed s l n =
    sym (refused_head ed s (no_2 ed s l refl refl (rw (between_out (1 + ed.added) (most_inputs + ed.added) (number_at s 0) n))) (λ z. omega arith))

pub both_faithful : BothFaithful
both_faithful =
    record {
      former_faithful = former_faithful;
      present_faithful = present_faithful;
      not_present = λ s z e. let h = (passed former s z e).head in refused_2 present s h.long (λ a b. omega (arith, h.held_least, h.held_most));
      not_former = λ s z e. let h = (passed present s z e).head in refused_2 former s h.long (λ a b. omega (arith, h.held_least, h.held_most));
    }
