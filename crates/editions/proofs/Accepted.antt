-- What an accepted file says: its head, and each gate's record.
-- Assumes nothing.
use Prim.Native.Nat.{ℕ, zero, suc, ◌+◌, ◌<◌, ◌≤◌}
use mathlib.Core.Path.{◌≡◌, sym, ◌∙◌}
use mathlib.Core.List.{List, flatten}
use mathlib.Core.Bool.{true}
use native.Mathlib.Omega.{arith}
use lib.ListN.{length}
use borrow.Author.Tests.{leb-true, le-leb}
use Rattle.lists.specs.Ladder.{first_no, accepted}
use Rattle.lists.specs.Tables.{tabulate_from, tabulate, all_below}
use Rattle.lists.proofs.Choices.{here_or_later, between_yes, between_least_true, between_most_true}
use Rattle.lists.proofs.Ladders.{asked, all_asked, ask_yes, accepted_none, unless_none, first_no_append, first_none}
use Rattle.numbers.specs.Numbers.{number_at}
use Rattle.editions.specs.File.{inputs_of, gates_of, head_length, length_of, record_head, kind_byte, delay_of, inertial_of, entries_of, fanins_of, kind_of}
use Rattle.editions.specs.Limits.{most_inputs, most_gates, delays_suit}
use Rattle.editions.specs.declared.InputsAndGates.{InputsAndGates}
use Rattle.editions.specs.Questions.{fills, length_suits, head_questions, gate_questions, questions, inputs_and_gates_of, read_of}
use Rattle.editions.proofs.Gated.{head_numbered, gate_numbered}
use Rattle.editions.specs.declared.Edition.{Edition}

module _ (ed : Edition) where
  -- questions 1 to 5 are answered yes
  pub record Head (file : List ℕ) : Type 0 where
    pub long : 4 ≤ length file
    pub held_least : 1 + ed.added ≤ number_at file 0
    pub held_most : number_at file 0 ≤ most_inputs + ed.added
    pub gates_most : gates_of file ≤ most_gates
    pub room : head_length (gates_of file) ≤ length file
    pub filled : fills (record_head ed) file (gates_of file) 0 (head_length (gates_of file)) ≡ true

  pub head_passed : (file : List ℕ) → first_no (head_questions ed file) ≡ 0 → Head file
  unfolding head_questions
  head_passed file e1 =
      let a1 = asked _ _ _ (λ z. omega arith) e1 in
      let a2 = asked _ _ _ (λ z. omega arith) a1.1 in
      let a3 = asked _ _ _ (λ z. omega arith) a2.1 in
      let a4 = asked _ _ _ (λ z. omega arith) a3.1 in
      let a5 = asked _ _ _ (λ z. omega arith) a4.1 in
      record {
        long = leb-true _ _ a1.0;
        held_least = between_least_true _ _ _ a2.0;
        held_most = between_most_true _ _ _ a2.0;
        gates_most = between_most_true _ _ _ a3.0;
        room = leb-true _ _ a4.0;
        filled = a5.0;
      }

  -- so I is in its range, and bytes 0-1 hold it and what the edition adds
  pub record Counted (file : List ℕ) : Type 0 where
    pub inputs_least : 1 ≤ inputs_of ed file
    pub inputs_most : inputs_of ed file ≤ most_inputs
    pub held : number_at file 0 ≡ inputs_of ed file + ed.added

  pub counted : (file : List ℕ) → Head file → Counted file
  unfolding inputs_of
  counted file h =
      let least = h.held_least in
      let most = h.held_most in
      record { inputs_least = omega arith; inputs_most = omega arith; held = omega arith }

  -- questions 6 to 9 of gate j are answered yes
  pub record GatePassed (file : List ℕ) (j : ℕ) : Type 0 where
    pub kind_most : kind_byte file j ≤ 7
    pub delays : delays_suit ed (delay_of ed file j) (inertial_of ed file j) ≡ true
    pub suits : length_suits ed (length_of file j) (kind_of (kind_byte file j)) (entries_of ed file j) ≡ true
    pub below : all_below (inputs_of ed file + j) (fanins_of ed file j) ≡ true

  pub gate_passed : (file : List ℕ) (j : ℕ) → first_no (gate_questions ed file j) ≡ 0 → GatePassed file j
  unfolding gate_questions
  gate_passed file j e1 =
      let a1 = asked _ _ _ (λ z. omega arith) e1 in
      let a2 = asked _ _ _ (λ z. omega arith) a1.1 in
      let a3 = asked _ _ _ (λ z. omega arith) a2.1 in
      let a4 = asked _ _ _ (λ z. omega arith) a3.1 in
      record { kind_most = leb-true _ _ a1.0; delays = a2.0; suits = a3.0; below = a4.0 }

  gates_passed : (file : List ℕ) (n j : ℕ) → first_no (flatten (tabulate_from n j (gate_questions ed file))) ≡ 0 → (k : ℕ) → j ≤ k → k < j + n → GatePassed file k
  unfolding tabulate_from flatten
  gates_passed file zero j e k a b = absurd (omega arith)
  gates_passed file (suc n) j e k a b =
      let q = first_none (first_no (gate_questions ed file j)) _ (sym (first_no_append (gate_questions ed file j) (flatten (tabulate_from n (suc j) (gate_questions ed file))) (gate_numbered ed file j)) ∙ e) in
      here_or_later (GatePassed file) j k a (gate_passed file j q.0) (λ h. gates_passed file n (suc j) q.1 k h (omega arith))

  -- an accepted file, whole
  pub record Passed (file : List ℕ) (s : InputsAndGates) : Type 0 where
    pub head : Head file
    pub gate : (j : ℕ) → j < gates_of file → GatePassed file j
    pub answers : inputs_and_gates_of ed file ≡ s

  pub passed : (file : List ℕ) (s : InputsAndGates) → read_of ed file ≡ accepted s → Passed file s
  unfolding read_of questions
  passed file s e =
      let a = accepted_none (first_no (questions ed file)) (inputs_and_gates_of ed file) e in
      let q = first_none (first_no (head_questions ed file)) _ (sym (first_no_append (head_questions ed file) (flatten (tabulate (gates_of file) (gate_questions ed file))) (head_numbered ed file)) ∙ a.0) in
      record {
        head = head_passed file q.0;
        gate = λ j h. gates_passed file (gates_of file) 0 q.1 j (omega arith) (omega arith);
        answers = a.1;
      }

  -- ---- and the other way round: a file of which all this holds is accepted

  head_asked : (file : List ℕ) → Head file → first_no (head_questions ed file) ≡ 0
  unfolding head_questions
  head_asked file h =
      ask_yes _ _ _ (le-leb _ _ h.long)
      ∙ ask_yes _ _ _ (between_yes _ _ _ h.held_least h.held_most)
      ∙ ask_yes _ _ _ (between_yes _ _ _ (omega arith) h.gates_most)
      ∙ ask_yes _ _ _ (le-leb _ _ h.room)
      ∙ ask_yes _ _ _ h.filled
      ∙ all_asked

  gate_asked : (file : List ℕ) (j : ℕ) → GatePassed file j → first_no (gate_questions ed file j) ≡ 0
  unfolding gate_questions
  gate_asked file j g =
      ask_yes _ _ _ (le-leb _ _ g.kind_most) ∙ ask_yes _ _ _ g.delays ∙ ask_yes _ _ _ g.suits ∙ ask_yes _ _ _ g.below ∙ all_asked

  gates_asked : (file : List ℕ) (n j : ℕ) → ((k : ℕ) → j ≤ k → k < j + n → GatePassed file k) → first_no (flatten (tabulate_from n j (gate_questions ed file))) ≡ 0
  unfolding tabulate_from flatten
  gates_asked file zero j h = all_asked
  gates_asked file (suc n) j h =
      first_no_append (gate_questions ed file j) (flatten (tabulate_from n (suc j) (gate_questions ed file))) (gate_numbered ed file j)
      ∙ rw (gate_asked file j (h j (omega arith) (omega arith))) (gates_asked file n (suc j) (λ k a b. h k (omega arith) (omega arith)))

  pub passed_read : (file : List ℕ) → Head file → ((k : ℕ) → k < gates_of file → GatePassed file k) → read_of ed file ≡ accepted (inputs_and_gates_of ed file)
  unfolding read_of questions
  passed_read file h g =
      unless_none (first_no (questions ed file)) (inputs_and_gates_of ed file)
      (first_no_append (head_questions ed file) (flatten (tabulate (gates_of file) (gate_questions ed file))) (head_numbered ed file)
      ∙ rw (head_asked file h) (gates_asked file (gates_of file) 0 (λ k a b. g k (omega arith))))
