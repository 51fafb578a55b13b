-- Questions 1 to 11 and 20, as they are asked, and what it says that all of them were answered yes.
-- Assumes nothing.
use Prim.Native.Nat.{ℕ, ◌+◌, ◌≤◌}
use mathlib.Core.Path.{◌≡◌, sym, ap₂, ◌∙◌}
use mathlib.Core.Bool.{Bool, true, false, not}
use mathlib.Core.List.{List, [], ◌∷◌}
use native.Mathlib.Omega.{arith}
use lib.ListN.{length}
use borrow.Author.Tests.{eqb-true, eq-eqb, ne_eqb, not-true, not-false}
use Rattle.lists.specs.Ladder.{Question, ◌or_else◌, first_no, accepted, refused}
use Rattle.lists.proofs.Choices.{and_left, and_right}
use Rattle.lists.proofs.Ladders.{asked, ask_yes, ask_no, all_asked}
use Rattle.method.specs.Changes.{Schedule, changes_suit}
use Rattle.method.specs.WordLists.{Lengths, words_suit}
use Rattle.circuit.specs.File.{inputs_of, gates_of}
use Rattle.circuit.specs.Questions as reader
use Rattle.circuit.specs.Task.{Task, nets_in, frames_in}
use Rattle.method.specs.Areas as planner
use Rattle.planner.specs.Questions as plan
use Rattle.engine.specs.Areas.{Areas, areas}
use Rattle.engine.specs.Questions.{values_length, areas_suit, own_questions, first_questions, questions_of}
use Rattle.circuit.proofs.Ahead as ahead
use Rattle.circuit.proofs.Parts.{circuit_inputs, gates_length, few}
use Rattle.method.proofs.Fitting.{fits_total}
use Rattle.planner.proofs.Calling.{given_all}
use Rattle.simulation.specs.Simulated.{Ready}
use Rattle.editions.specs.declared.InputsAndGates.{InputsAndGates}

-- ---- questions 10, 11 and 20

module _ (inputs : ℕ) (h : Schedule) (l : Lengths) (d t i f v : List ℕ) {ok : Bool} (is : ok ≡ plan.areas_suit (planner.areas d t i f)) where
  pub plan_no : not ok ≡ true → 10 ≡ first_no (own_questions inputs h l (areas d t i f v))
  unfolding areas_suit
  plan_no n = sym (ask_no (areas_suit (areas d t i f v)) 10 _ (rw (← is, not-true ok n)))

  module _ (y1 : not ok ≡ false) where
    pub values_no : (length v ≡ values_length → ⊥) → 10 ≡ first_no (own_questions inputs h l (areas d t i f v))
    unfolding areas_suit
    values_no n = sym (ask_no (areas_suit (areas d t i f v)) 10 _ (rw (← is, not-false ok y1, ne_eqb _ _ n)))

    module _ (y2 : length v ≡ values_length) where
      past_10 : first_no (own_questions inputs h l (areas d t i f v)) ≡ first_no ((words_suit inputs (length h.times) l or_else 11) ∷ (changes_suit inputs h or_else 20) ∷ [])
      unfolding areas_suit
      past_10 = ask_yes (areas_suit (areas d t i f v)) 10 _ (rw (← is, not-false ok y1, eq-eqb _ _ y2))

      module _ {fed : Bool} (each : fed ≡ words_suit inputs (length h.times) l) where
        pub words_no : not fed ≡ true → 11 ≡ first_no (own_questions inputs h l (areas d t i f v))
        words_no n = sym (past_10 ∙ ask_no (words_suit inputs (length h.times) l) 11 _ (sym each ∙ not-true fed n))

        module _ (y3 : not fed ≡ false) {on : Bool} (at : on ≡ changes_suit inputs h) where
          past_11 : first_no (own_questions inputs h l (areas d t i f v)) ≡ first_no ((changes_suit inputs h or_else 20) ∷ [])
          past_11 = past_10 ∙ ask_yes (words_suit inputs (length h.times) l) 11 _ (sym each ∙ not-false fed y3)

          pub changes_no : not on ≡ true → 20 ≡ first_no (own_questions inputs h l (areas d t i f v))
          changes_no n = sym (past_11 ∙ ask_no (changes_suit inputs h) 20 [] (sym at ∙ not-true on n))

          pub none_20 : not on ≡ false → 0 ≡ first_no (own_questions inputs h l (areas d t i f v))
          none_20 y = sym (past_11 ∙ ask_yes (changes_suit inputs h) 20 [] (sym at ∙ not-false on y) ∙ all_asked)

-- ---- questions 1 to 11 and 20, as `questions` answers them

module _ (task : Task) (l : Lengths) (a : Areas) where
  abbrev own : List Question
  own = own_questions (inputs_of task.file) task.schedule l a

  pub reader_no : {n : ℕ} → refused n ≡ reader.read_of task.file → refused n ≡ questions_of task l a
  unfolding questions_of first_questions
  reader_no e = ahead.reader_no task.file own e

  module _ {s : InputsAndGates} (e : accepted s ≡ reader.read_of task.file) {n : ℕ} (is : n ≡ first_no (own_questions s.inputs task.schedule l a)) where
    own_is : n ≡ first_no own
    own_is = is ∙ rw (ahead.read_yes task.file own e).1

    pub own_no : (n ≡ 0 → ⊥) → refused n ≡ questions_of task l a
    unfolding questions_of first_questions
    own_no some = ahead.own_no task.file own e own_is some

    pub own_yes : n ≡ 0 → accepted s ≡ questions_of task l a
    unfolding questions_of first_questions
    own_yes z = ahead.own_yes task.file own e own_is z

  -- what their answer says
  pub asked_no : {n : ℕ} → refused n ≡ questions_of task l a → (n ≡ first_no (first_questions task l a)) × (n ≡ 0 → ⊥)
  unfolding questions_of first_questions
  asked_no e = ahead.asked_no task.file own e

  module _ {s : InputsAndGates} (e : accepted s ≡ questions_of task l a) where
    yes : (first_no (first_questions task l a) ≡ 0) × (s.inputs ≡ inputs_of task.file) × (s.gates ≡ gates_of task.file)
    unfolding questions_of first_questions
    yes = ahead.asked_yes task.file own e

    pub asked_none : first_no (first_questions task l a) ≡ 0
    asked_none = yes.0

    pub asked_inputs : s.inputs ≡ inputs_of task.file
    asked_inputs = yes.1

    pub asked_gates : s.gates ≡ gates_of task.file
    asked_gates = yes.2

    -- I and G are how many nets there are
    pub asked_nets : nets_in task ≡ s.inputs + s.gates
    asked_nets = ap₂ ◌+◌ (circuit_inputs task.file ∙ sym asked_inputs) (gates_length task.file ∙ sym asked_gates)

-- ---- all answered yes

pub record Passed (task : Task) (l : Lengths) (a : Areas) : Type 0 where
  pub read : reader.read_of task.file ≡ accepted (record { inputs = inputs_of task.file; gates = gates_of task.file })
  pub suits : plan.areas_suit a.plan ≡ true
  pub values : length a.values ≡ values_length
  pub worded : words_suit (inputs_of task.file) (length task.schedule.times) l ≡ true
  pub timed : changes_suit (inputs_of task.file) task.schedule ≡ true

areas_pass : (a : Areas) → areas_suit a ≡ true → (plan.areas_suit a.plan ≡ true) × (length a.values ≡ values_length)
unfolding areas_suit
areas_pass a e = (and_left (plan.areas_suit a.plan) _ e, eqb-true _ _ (and_right (plan.areas_suit a.plan) _ e))

pub passed : (task : Task) (l : Lengths) (a : Areas) → first_no (first_questions task l a) ≡ 0 → Passed task l a
unfolding first_questions
passed task l a h =
    let s = asked (areas_suit a) 10 _ (λ z. omega arith) (ahead.own_none task.file (own task l a) h) in
    let w = asked (words_suit (inputs_of task.file) (length task.schedule.times) l) 11 _ (λ z. omega arith) s.1 in
    let t = asked (changes_suit (inputs_of task.file) task.schedule) 20 [] (λ z. omega arith) w.1 in
    let x = areas_pass a s.0 in
    record { read = ahead.file_read task.file (own task l a) h; suits = x.0; values = x.1; worded = w.0; timed = t.0 }

-- so there are at most 160 nets
pub few_nets : (task : Task) (l : Lengths) (a : Areas) → first_no (first_questions task l a) ≡ 0 → nets_in task ≤ 160
few_nets task l a e = let most = few task.file (passed task l a e).read in omega (arith, circuit_inputs task.file, gates_length task.file, most)

-- and a run may follow
pub asked_yes : (task : Task) (l : Lengths) (a : Areas) {s : InputsAndGates} → accepted s ≡ questions_of task l a
    → Ready task l a.plan a.values × (s.inputs ≡ inputs_of task.file) × (s.gates ≡ gates_of task.file)
asked_yes task l a e =
    let y = passed task l a (asked_none task l a e) in
    (record { given = given_all task a.plan y.read y.suits y.timed; worded = y.worded; words = λ fit. omega (arith, fits_total (frames_in task) fit, y.values) }, asked_inputs task l a e, asked_gates task l a e)

-- what passed once, with whatever areas, passes in areas that suit
pub passed_again : (task : Task) (l : Lengths) (a : Areas) → reader.read_of task.file ≡ accepted (record { inputs = inputs_of task.file; gates = gates_of task.file }) → areas_suit a ≡ true → words_suit (inputs_of task.file) (length task.schedule.times) l ≡ true
    → changes_suit (inputs_of task.file) task.schedule ≡ true → first_no (first_questions task l a) ≡ 0
unfolding first_questions
passed_again task l a e s w t = ahead.own_decide task.file (own task l a) e ∙ (ask_yes (areas_suit a) 10 _ s ∙ ask_yes (words_suit (inputs_of task.file) (length task.schedule.times) l) 11 _ w ∙ ask_yes (changes_suit (inputs_of task.file) task.schedule) 20 [] t ∙ all_asked)
