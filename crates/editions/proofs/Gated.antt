-- Questions 6 to 9: of one gate, and gate by gate.
-- Assumes nothing.
use Prim.Native.Nat.{ℕ, zero, suc, ◌+◌, ◌-◌, ◌*◌, ◌/◌, ◌<◌, ◌≤◌}
use mathlib.Core.Path.{◌≡◌, refl, sym, ◌∙◌}
use mathlib.Core.List.{List, flatten}
use mathlib.Core.Bool.{Bool, true, false, not}
use lib.ListN.{drop}
use borrow.Author.Tests.{eq-eqb, ne_eqb, le-leb, lt-leb, not-true, not-false}
use Rattle.lists.specs.Ladder.{first_no, between, accepted, refused}
use Rattle.lists.specs.Tables.{tabulate_from, tabulate, all_below}
use Rattle.lists.proofs.Ladders.{ask_yes, ask_no, all_asked, first_no_append, first, first_here, unless_none, unless_some, numbered, quiet, leaves_alone, each_append, quiet_numbered}
use Rattle.lists.proofs.Tabled.{from_step, from_end}
use Rattle.method.specs.Kinds.{takes}
use Rattle.method.specs.declared.Kind.{Kind}
use Rattle.editions.specs.declared.GateRecord.{GateRecord}
use Rattle.numbers.specs.Numbers.{byte_at, number_at}
use Rattle.editions.specs.File.{offset_of, inputs_of, gates_of, length_of, record_head, kind_byte, delay_at, delay_of, inertial_of, entries_of, fanin_at, fanins_of, kind_of, record_of}
use Rattle.editions.specs.Edition.{present, delay_bytes}
use Rattle.editions.specs.Limits.{delays_suit}
use Rattle.editions.specs.Questions.{length_suits, head_questions, gate_questions, questions, inputs_and_gates_of, read_of}
use Rattle.editions.specs.declared.Edition.{Edition}
use Rattle.editions.proofs.Widths.{two_bytes_lem, head_of_five, wide_delay}

-- the kind, from the numbers read
pub kind_read : (file : List ℕ) (j : ℕ) {start k : ℕ} → start ≡ offset_of file j → k ≡ byte_at file start → k ≡ kind_byte file j
kind_read file j a b = b ∙ rw a

module _ (ed : Edition) where
  -- question 7
  module _ (d di : ℕ) {b : Bool} (e : b ≡ between 1 ed.most d) where
    pub delay_out : not b ≡ true → false ≡ delays_suit ed d di
    unfolding delays_suit
    delay_out n = rw (← e, not-true b n)

    pub inertial_decides : not b ≡ false → {r : Bool} → r ≡ between 0 ed.most di → r ≡ delays_suit ed d di
    unfolding delays_suit
    inertial_decides y f = f ∙ rw (← e, not-false b y)

  -- question 8
  module _ (len : ℕ) (kind : Kind) (m : ℕ) {head : ℕ} (h : head ≡ record_head ed) where
    pub length_out : (len ≡ head + 2 * m → ⊥) → false ≡ length_suits ed len kind m
    unfolding length_suits
    length_out d = rw (← h, ne_eqb _ _ d)

    pub kind_decides : len ≡ head + 2 * m → {r : Bool} → r ≡ takes kind m → r ≡ length_suits ed len kind m
    unfolding length_suits
    kind_decides e f = f ∙ rw (← h, eq-eqb _ _ e)

  -- questions 6 to 9 of gate j, from what the functions answer: a level for each question passed
  module _ (file : List ℕ) (j : ℕ) {kind : ℕ} (a : kind ≡ kind_byte file j) where
    pub no_6 : 7 < kind → 6 ≡ first_no (gate_questions ed file j)
    unfolding gate_questions
    no_6 n = sym (ask_no _ _ _ (rw (← a) (lt-leb _ _ n)))

    module _ (y6 : kind ≤ 7) {b7 : Bool} (e7 : b7 ≡ delays_suit ed (delay_of ed file j) (inertial_of ed file j)) where
      past_6 : first_no (gate_questions ed file j) ≡ first_no (drop 1 (gate_questions ed file j))
      unfolding gate_questions
      past_6 = ask_yes _ _ _ (rw (← a) (le-leb _ _ y6))

      pub no_7 : not b7 ≡ true → 7 ≡ first_no (gate_questions ed file j)
      unfolding gate_questions
      no_7 n = sym (past_6 ∙ ask_no _ _ _ (sym e7 ∙ not-true b7 n))

      module _ (y7 : not b7 ≡ false) {b8 : Bool} (e8 : b8 ≡ length_suits ed (length_of file j) (kind_of kind) (entries_of ed file j)) where
        past_7 : first_no (gate_questions ed file j) ≡ first_no (drop 2 (gate_questions ed file j))
        unfolding gate_questions
        past_7 = past_6 ∙ ask_yes _ _ _ (sym e7 ∙ not-false b7 y7)

        test_8 : length_suits ed (length_of file j) (kind_of (kind_byte file j)) (entries_of ed file j) ≡ b8
        test_8 = rw (← a) (sym e8)

        pub no_8 : not b8 ≡ true → 8 ≡ first_no (gate_questions ed file j)
        unfolding gate_questions
        no_8 n = sym (past_7 ∙ ask_no _ _ _ (test_8 ∙ not-true b8 n))

        module _ (y8 : not b8 ≡ false) {b9 : Bool} (e9 : b9 ≡ all_below (inputs_of ed file + j) (fanins_of ed file j)) where
          past_8 : first_no (gate_questions ed file j) ≡ first_no (drop 3 (gate_questions ed file j))
          unfolding gate_questions
          past_8 = past_7 ∙ ask_yes _ _ _ (test_8 ∙ not-false b8 y8)

          pub no_9 : not b9 ≡ true → 9 ≡ first_no (gate_questions ed file j)
          unfolding gate_questions
          no_9 n = sym (past_8 ∙ ask_no _ _ _ (sym e9 ∙ not-true b9 n))

          pub none_9 : not b9 ≡ false → 0 ≡ first_no (gate_questions ed file j)
          unfolding gate_questions
          none_9 n = sym (past_8 ∙ ask_yes _ _ _ (sym e9 ∙ not-false b9 n) ∙ all_asked)

  -- a record, from the numbers read
  pub record_is : (file : List ℕ) (j : ℕ) {start : ℕ} → start ≡ offset_of file j → {head two : ℕ} → head ≡ record_head ed → two ≡ delay_bytes ed
      → {kind : Kind} {k : ℕ} → kind ≡ kind_of k → k ≡ byte_at file start
      → {d di : ℕ} → d ≡ delay_at ed file (start + 1) → di ≡ delay_at ed file (start + (1 + two))
      → {m len : ℕ} → m ≡ (len - head) / 2 → len ≡ length_of file j
      → ◌≡◌ {A = GateRecord} (record { kind = kind; delay = d; inertial = di; list = start + head; entries = m }) (record_of ed file j)
  unfolding record_of
  record_is file j a h t k b d di m len = rw (k, b, d, di, m, len, h, t, a)

  -- the answers on what was read are the answers on the file
  module _ (file : List ℕ) (j : ℕ) {g : GateRecord} (e : g ≡ record_of ed file j) {b : Bool} where
    pub read_7 : b ≡ delays_suit ed g.delay g.inertial → b ≡ delays_suit ed (delay_of ed file j) (inertial_of ed file j)
    unfolding record_of
    read_7 f = f ∙ rw e

    pub read_8 : {k : Kind} (n : ℕ) → k ≡ kind_of n → {len : ℕ} → len ≡ length_of file j → b ≡ length_suits ed len k g.entries → b ≡ length_suits ed (length_of file j) (kind_of n) (entries_of ed file j)
    unfolding record_of
    read_8 n k l f = f ∙ rw (e, l, k)

    pub read_9 : {net : ℕ} → net ≡ inputs_of ed file + j → b ≡ all_below net (tabulate g.entries (fanin_at file g.list)) → b ≡ all_below (inputs_of ed file + j) (fanins_of ed file j)
    unfolding record_of fanins_of
    read_9 n f = f ∙ rw (e, n)

  -- gate by gate: g of them, j passed
  pub gate_quiet : (file : List ℕ) (j : ℕ) → quiet (gate_questions ed file j) ≡ true
  unfolding gate_questions
  gate_quiet file j = refl

  pub gate_numbered : (file : List ℕ) (j : ℕ) → numbered (gate_questions ed file j) ≡ true
  gate_numbered file j = quiet_numbered (gate_questions ed file j) (gate_quiet file j)

  module _ (file : List ℕ) (g j : ℕ) (l : j < g) {whole : ℕ} (h : whole ≡ first_no (flatten (tabulate_from (g - j) j (gate_questions ed file)))) {r : ℕ} (f : r ≡ first_no (gate_questions ed file j)) where
    gates_step : whole ≡ first r (first_no (flatten (tabulate_from (g - (j + 1)) (j + 1) (gate_questions ed file))))
    unfolding flatten
    gates_step = h ∙ rw (from_step g j (gate_questions ed file) l) (first_no_append (gate_questions ed file j) (flatten (tabulate_from (g - (j + 1)) (j + 1) (gate_questions ed file))) (gate_numbered file j) ∙ rw (← f))

    pub fault_here : (r ≡ 0 → ⊥) → r ≡ whole
    fault_here n = sym (gates_step ∙ first_here r _ n)

    pub fault_next : r ≡ 0 → whole ≡ first_no (flatten (tabulate_from (g - (j + 1)) (j + 1) (gate_questions ed file)))
    fault_next e = gates_step ∙ rw e

  pub fault_none : (file : List ℕ) (g j : ℕ) → g ≤ j → {whole : ℕ} → whole ≡ first_no (flatten (tabulate_from (g - j) j (gate_questions ed file))) → 0 ≡ whole
  unfolding flatten
  fault_none file g j l h = sym (h ∙ rw (from_end g j (gate_questions ed file) l) all_asked)

  -- questions 1 to 9, from what the two parts answered
  pub head_quiet : (file : List ℕ) → quiet (head_questions ed file) ≡ true
  unfolding head_questions
  head_quiet file = refl

  pub head_numbered : (file : List ℕ) → numbered (head_questions ed file) ≡ true
  head_numbered file = quiet_numbered (head_questions ed file) (head_quiet file)

  gates_quiet : (file : List ℕ) (n j : ℕ) → quiet (flatten (tabulate_from n j (gate_questions ed file))) ≡ true
  unfolding tabulate_from flatten
  gates_quiet file zero j = refl
  gates_quiet file (suc n) j =
      each_append leaves_alone (gate_questions ed file j) (flatten (tabulate_from n (suc j) (gate_questions ed file))) (gate_quiet file j) (gates_quiet file n (suc j))

  -- none of the reader's questions clears the areas
  pub questions_quiet : (file : List ℕ) → quiet (questions ed file) ≡ true
  unfolding questions
  questions_quiet file =
      each_append leaves_alone (head_questions ed file) (flatten (tabulate (gates_of file) (gate_questions ed file))) (head_quiet file) (gates_quiet file (gates_of file) 0)

  pub questions_numbered : (file : List ℕ) → numbered (questions ed file) ≡ true
  questions_numbered file = quiet_numbered (questions ed file) (questions_quiet file)

  module _ (file : List ℕ) {q : ℕ} (f : q ≡ first_no (head_questions ed file)) where
    joined : first_no (questions ed file) ≡ first q (first_no (flatten (tabulate (gates_of file) (gate_questions ed file))))
    unfolding questions
    joined = first_no_append (head_questions ed file) (flatten (tabulate (gates_of file) (gate_questions ed file))) (head_numbered file) ∙ rw (← f)

    pub refused_head : (q ≡ 0 → ⊥) → refused q ≡ read_of ed file
    unfolding read_of
    refused_head n = rw (joined ∙ first_here q _ n) (sym (unless_some q (inputs_and_gates_of ed file) n))

    module _ (z : q ≡ 0) {i g : ℕ} (a : i ≡ inputs_of ed file) (b : g ≡ gates_of file) {r : ℕ} (h : r ≡ first_no (flatten (tabulate g (gate_questions ed file)))) where
      rest : first_no (questions ed file) ≡ r
      rest = joined ∙ rw z (sym (h ∙ rw b))

      pub refused_gates : (r ≡ 0 → ⊥) → refused r ≡ read_of ed file
      unfolding read_of
      refused_gates n = rw rest (sym (unless_some r (inputs_and_gates_of ed file) n))

      pub accepted_all : r ≡ 0 → accepted (record { inputs = i; gates = g }) ≡ read_of ed file
      unfolding read_of inputs_and_gates_of
      accepted_all e = rw (rest, a, b) (sym (unless_none r (inputs_and_gates_of ed file) e))

-- a record of the present edition, from the numbers read
pub present_record : (file : List ℕ) (j : ℕ) {start : ℕ} → start ≡ offset_of file j → {kind : Kind} {k : ℕ} → kind ≡ kind_of k → k ≡ byte_at file start
    → {d di : ℕ} → d ≡ number_at file (start + 1) → di ≡ number_at file (start + 3) → {m len : ℕ} → m ≡ (len - 5) / 2 → len ≡ length_of file j
    → ◌≡◌ {A = GateRecord} (record { kind = kind; delay = d; inertial = di; list = start + 5; entries = m }) (record_of present file j)
present_record file j {start} a k b d di m len =
    record_is present file j a (head_of_five present refl) (two_bytes_lem present refl) k b (wide_delay present refl file (start + 1) d)
    (wide_delay present refl file (start + 3) di) m len
