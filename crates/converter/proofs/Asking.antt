-- The ladder's cases in their order, and what an accepted file gives the functions that write it anew.
-- Assumes nothing.
use Prim.Native.Nat.{ℕ, ◌<◌, ◌≤◌}
use mathlib.Core.Path.{◌≡◌, sym, ap, ◌∙◌}
use mathlib.Core.Bool.{Bool, true, false, not, ◌&&◌}
use mathlib.Core.List.{List, [], ◌∷◌}
use native.Mathlib.Omega.{arith}
use lib.ListN.{length}
use lib.Dec.{leb}
use borrow.Author.Tests.{eq-eqb, ne_eqb, leb-true, not-true, not-false}
use Rattle.lists.specs.Ladder.{Question, ◌or_else◌, first_no, accepted, refused}
use Rattle.lists.specs.Tables.{tabulate}
use Rattle.lists.specs.Outcome.{outcome}
use Rattle.lists.proofs.Choices.{and_left, and_right}
use Rattle.lists.proofs.Ladders.{ask_yes, ask_no, all_asked, first_no_append, first, first_here, accepted_none, refused_some}
use Rattle.lists.proofs.Tabled.{every_from}
use Rattle.method.specs.Circuit.{Gate}
use Rattle.method.proofs.Taking.{takes_range}
use Rattle.editions.specs.declared.Edition.{Edition}
use Rattle.editions.specs.File.{inputs_of, gates_of, delay_of, inertial_of, gate_of, circuit_of, record_head, kind_byte, kind_of}
use Rattle.editions.specs.Lies.{Lies}
use Rattle.editions.proofs.Lying.{gate_lies, list_lies}
use Rattle.editions.specs.Limits.{Writable}
use Rattle.editions.specs.Questions as reader
use Rattle.editions.proofs.Gated.{questions_numbered}
use Rattle.editions.proofs.Accepted.{Passed, passed, counted}
use Rattle.editions.proofs.Parts.{gates_listed, inputs_are, gates_are}
use Rattle.editions.proofs.Faithful.{fanins_length_lem, gate_within, accepted_within}
use Rattle.filing.specs.Filed.{area_length, area_question}
use Rattle.filing.proofs.Filed.{file_most, filed_no, filed_yes}
use Rattle.converter.specs.Convert.{delays_up_to}
use Rattle.converter.specs.Steps.{questions_by, converted_by, Fit, Ready, WroteFile}
use Rattle.editions.specs.declared.InputsAndGates.{InputsAndGates}

-- ---- delays

low_at : (ed : Edition) (file : List ℕ) (most n : ℕ) → delays_up_to most (tabulate n (gate_of ed file)) ≡ true → (j : ℕ) → j < n → (delay_of ed file j ≤ most) × (inertial_of ed file j ≤ most)
unfolding delays_up_to gate_of
low_at ed file most n e j l =
    let b = every_from (λ (g : Gate). leb g.delay most && leb g.inertial most) (gate_of ed file) n 0 e j (omega arith) (omega arith) in (
      leb-true (delay_of ed file j) most (and_left (leb (delay_of ed file j) most) (leb (inertial_of ed file j) most) b),
      leb-true (inertial_of ed file j) most (and_right (leb (delay_of ed file j) most) (leb (inertial_of ed file j) most) b),
    )

module _ (from to : Edition) (file area : List ℕ) where
  abbrev pub rest : List Question
  rest = area_question area ∷ (delays_up_to to.most (circuit_of from file).gates or_else 23) ∷ []

  pub joined : first_no (questions_by from to file area) ≡ first (first_no (reader.questions from file)) (first_no rest)
  unfolding questions_by
  joined = first_no_append (reader.questions from file) rest (questions_numbered from file)

  -- the reader's own number
  pub refused_read : {number : ℕ} → refused number ≡ reader.read_of from file → outcome (refused number) area ≡ converted_by from to file area
  unfolding reader.read_of converted_by
  refused_read {number} e =
      let q = refused_some (first_no (reader.questions from file)) (reader.inputs_and_gates_of from file) (sym e) in
      let some : number ≡ 0 → ⊥ = λ z. omega (arith, q.1, z) in
      filed_no (questions_by from to file area) _ area (joined ∙ rw q.0 (first_here number _ some)) some

  module _ {s : InputsAndGates} (e : accepted s ≡ reader.read_of from file) where
    read_yes : reader.read_of from file ≡ accepted s
    read_yes = sym e

    all : Passed from file s
    all = passed from file _ read_yes

    read_none : first_no (reader.questions from file) ≡ 0
    unfolding reader.read_of
    read_none = (accepted_none (first_no (reader.questions from file)) (reader.inputs_and_gates_of from file) read_yes).0

    joined_rest : first_no (questions_by from to file area) ≡ first_no rest
    joined_rest = joined ∙ rw read_none

    -- what the function that asks 23 asks for
    pub gates_lie : (j : ℕ) → j < s.gates → Lies (record_head from) file j
    gates_lie j l = gate_lies from file all.head j (omega (arith, gates_are from file read_yes))

    pub no_10 : (length area ≡ area_length → ⊥) → outcome (refused 10) area ≡ converted_by from to file area
    unfolding converted_by
    no_10 n = filed_no (questions_by from to file area) _ area (joined_rest ∙ ask_no _ _ _ (ne_eqb _ _ n)) (λ z. omega arith)

    module _ (y : length area ≡ area_length) {b : Bool} (d : b ≡ delays_up_to to.most (tabulate s.gates (gate_of from file))) where
      low : delays_up_to to.most (circuit_of from file).gates ≡ b
      low = rw (gates_listed from file, ← gates_are from file read_yes) (sym d)

      past_10 : first_no (questions_by from to file area) ≡ first_no ((delays_up_to to.most (circuit_of from file).gates or_else 23) ∷ [])
      past_10 = joined_rest ∙ ask_yes _ _ _ (eq-eqb _ _ y)

      pub no_23 : not b ≡ true → outcome (refused 23) area ≡ converted_by from to file area
      unfolding converted_by
      no_23 n = filed_no (questions_by from to file area) _ area (past_10 ∙ ask_no _ _ _ (low ∙ not-true b n)) (λ z. omega arith)

      module _ (n : not b ≡ false) where
        each_fit : Writable to → (j : ℕ) → j < gates_of file → Fit from to file j
        unfolding gate_of
        each_fit fit j l =
            let both = low_at from file to.most (gates_of file) (rw (gates_listed from file) at (low ∙ not-false b n)) j l in
            let own = gate_within from file j (all.gate j l) in
            let there = gate_lies from file all.head j l in
            record {
              lies = there;
              listed = list_lies from file j there (kind_of (kind_byte file j)) (all.gate j l).suits;
              entries = omega (arith, (takes_range _ _ own.entries).1, fanins_length_lem from file j);
              delay = omega (arith, both.0, fit.delays);
              inertial = omega (arith, both.1, fit.delays);
            }

        -- what the function that writes asks for
        pub ready : Writable to → Ready from to file area × (s.inputs ≡ inputs_of from file) × (s.gates ≡ gates_of file)
        ready fit =
            let h = all.head in
            let w = accepted_within from file _ read_yes in (
              record {
                gates = record { few = h.gates_most; each = each_fit fit };
                counts = omega (arith, (counted from file h).inputs_most, fit.counts);
                room = omega (arith, file_most to from (circuit_of from file) w, y);
              },
              inputs_are from file read_yes,
              gates_are from file read_yes,
            )

        pub written_all : {end : ℕ} {area' : List ℕ} → WroteFile from to file area area' end → outcome (accepted end) area' ≡ converted_by from to file area
        unfolding converted_by
        written_all w =
            filed_yes (questions_by from to file area) _ area (past_10 ∙ ask_yes _ _ _ (low ∙ not-false b n) ∙ all_asked) w.ends w.is
