-- The reader's questions ahead of a call's own.
-- Assumes nothing.
use Prim.Native.Nat.{ℕ, ◌≤◌}
use mathlib.Core.Path.{◌≡◌, sym, ap, ◌∙◌}
use mathlib.Core.List.{List, ◌++◌}
use native.Mathlib.Omega.{arith}
use Rattle.lists.specs.Ladder.{Question, first_no, Answer, answer, accepted, refused, unless}
use Rattle.lists.proofs.Ladders.{first, first_here, first_none, first_no_append, accepted_none, refused_some, unless_none, unless_some}
use Rattle.editions.specs.Questions as editions
use Rattle.circuit.specs.File.{inputs_of, gates_of}
use Rattle.editions.specs.declared.InputsAndGates.{InputsAndGates}
use Rattle.circuit.specs.Questions.{questions, read_of, inputs_and_gates_of}
use Rattle.circuit.proofs.Present.{questions_numbered}
use Rattle.circuit.proofs.Parts.{inputs_are, gates_are}

module _ (file : List ℕ) (own : List Question) where
  joined : first_no (questions file ++ own) ≡ first (first_no (questions file)) (first_no own)
  joined = first_no_append (questions file) own (questions_numbered file)

  -- no "no": the file is accepted, and none of the call's own
  module _ (e : first_no (questions file ++ own) ≡ 0) where
    parts : (first_no (questions file) ≡ 0) × (first_no own ≡ 0)
    parts = first_none (first_no (questions file)) (first_no own) (sym joined ∙ e)

    pub own_none : first_no own ≡ 0
    own_none = parts.1

    pub file_read : read_of file ≡ accepted (record { inputs = inputs_of file; gates = gates_of file })
    unfolding editions.read_of editions.inputs_and_gates_of
    file_read = unless_none (first_no (questions file)) (inputs_and_gates_of file) parts.0

  -- an accepted file: the call's own decide
  pub own_decide : {inputs gates : ℕ} → read_of file ≡ accepted (record { inputs = inputs; gates = gates }) → first_no (questions file ++ own) ≡ first_no own
  unfolding editions.read_of
  own_decide e =
      let q : first_no (questions file) ≡ 0 = (accepted_none (first_no (questions file)) (inputs_and_gates_of file) e).0 in
      joined ∙ rw q

  -- what the reader answers: the number of its refusal is the first, and its own
  pub read_no : {n : ℕ} → refused n ≡ read_of file → (first_no (questions file ++ own) ≡ n) × (1 ≤ n) × (first_no (questions file) ≡ n)
  unfolding editions.read_of
  read_no {n} e =
      let q = refused_some (first_no (questions file)) (inputs_and_gates_of file) (sym e) in
      (joined ∙ rw q.0 (first_here n _ (λ z. omega (arith, q.1))), q.1, q.0)

  pub read_yes : {s : InputsAndGates} → accepted s ≡ read_of file
      → (read_of file ≡ accepted (record { inputs = inputs_of file; gates = gates_of file })) × (s.inputs ≡ inputs_of file) × (s.gates ≡ gates_of file)
  read_yes e =
      let i = inputs_are file (sym e) in
      let g = gates_are file (sym e) in
      (sym e ∙ rw (i, g), i, g)

-- ---- a call's questions by themselves, answered as the reader answers: the number of the first "no", or I and G

module _ (file : List ℕ) (own : List Question) where
  abbrev answered : Answer InputsAndGates
  answered = answer (questions file ++ own) (inputs_and_gates_of file)

  refusal : {n : ℕ} → first_no (questions file ++ own) ≡ n → (n ≡ 0 → ⊥) → refused n ≡ answered
  refusal {n} e some = sym (rw e (unless_some n (inputs_and_gates_of file) some))

  pub reader_no : {n : ℕ} → refused n ≡ read_of file → refused n ≡ answered
  reader_no e = let q = read_no file own e in refusal q.0 (λ z. omega (arith, q.1))

  module _ {s : InputsAndGates} (e : accepted s ≡ read_of file) {n : ℕ} (is : n ≡ first_no own) where
    own_is : first_no (questions file ++ own) ≡ n
    own_is = own_decide file own (read_yes file own e).0 ∙ sym is

    pub own_no : (n ≡ 0 → ⊥) → refused n ≡ answered
    own_no some = refusal own_is some

    pub own_yes : n ≡ 0 → accepted s ≡ answered
    unfolding editions.inputs_and_gates_of
    own_yes z = let y = read_yes file own e in sym (unless_none _ (inputs_and_gates_of file) (own_is ∙ z) ∙ rw (← y.1, ← y.2))

  -- what their answer says
  pub asked_no : {n : ℕ} → refused n ≡ answered → (n ≡ first_no (questions file ++ own)) × (n ≡ 0 → ⊥)
  asked_no {n} e = let q = refused_some (first_no (questions file ++ own)) (inputs_and_gates_of file) (sym e) in (sym q.0, λ z. omega (arith, q.1))

  pub asked_yes : {s : InputsAndGates} → accepted s ≡ answered → (first_no (questions file ++ own) ≡ 0) × (s.inputs ≡ inputs_of file) × (s.gates ≡ gates_of file)
  unfolding editions.inputs_and_gates_of
  asked_yes e =
      let y = accepted_none (first_no (questions file ++ own)) (inputs_and_gates_of file) (sym e) in
      (y.0, sym (ap (λ (s : InputsAndGates). s.inputs) y.1), sym (ap (λ (s : InputsAndGates). s.gates) y.1))
