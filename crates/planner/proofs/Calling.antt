-- The plan as a whole: room for it, and the ladder of Plan's questions.
-- Assumes nothing.
use Prim.Native.Nat.{ℕ, ◌≤◌}
use mathlib.Core.Path.{◌≡◌, refl, sym, ap, ◌∙◌}
use mathlib.Core.Bool.{Bool, true, false, not}
use mathlib.Core.List.{List, ◌∷◌}
use native.Mathlib.Omega.{arith}
use lib.Dec.{eqb}
use lib.ListN.{length}
use borrow.Author.Tests.{eqb-true, not-true, not-false}
use Rattle.lists.specs.Ladder.{Question, ◌or_else◌, first_no, accepted, unless, refused}
use Rattle.lists.specs.Outcome.{left_by, outcome}
use Rattle.lists.proofs.Choices.{and_left, and_right}
use Rattle.lists.proofs.Ladders.{is_number, numbered, each_append, asked, ask_yes, ask_no, unless_some}
use Rattle.lists.proofs.Leaving.{left_other, left_quiet, accepted_left}
use Rattle.circuit.specs.File.{inputs_of, gates_of}
use Rattle.circuit.specs.Questions as reader
use Rattle.circuit.specs.Task.{Task, frames_in}
use Rattle.method.specs.Changes.{changes_suit}
use Rattle.circuit.proofs.Present.{questions_quiet, questions_numbered}
use Rattle.circuit.proofs.Ahead.{own_none, file_read, own_decide, read_no, read_yes}
use Rattle.method.specs.declared.Totals.{Totals}
use Rattle.limiting.specs.Questions.{last_questions}
use Rattle.limiting.specs.Planned.{planned_by, within_of}
use Rattle.limiting.proofs.Last.{last_none}
use Rattle.planner.specs.Limits.{directory_length, times_length, fanins_length}
use Rattle.method.specs.Areas.{Areas, all_cleared}
use Rattle.method.specs.Layout.{laid}
use Rattle.method.specs.Sums.{fits, totals_of}
use Rattle.planner.specs.Questions.{areas_suit, own_questions, questions}
use Rattle.planner.specs.Plan.{plan_of}
use Rattle.method.specs.First.{Room}
use Rattle.layout.specs.Steps.{Given}
use Rattle.method.proofs.Laying.{laid_lengths, laid_kept}
use Rattle.layout.proofs.Accepted.{given_long}
use Rattle.layout.proofs.Filling.{given_room, even_rows}
use Rattle.editions.specs.declared.InputsAndGates.{InputsAndGates}

-- ---- question 10 gives room for every plan that fits

pub suited : (a : Areas) → areas_suit a ≡ true → (length a.directory ≡ directory_length) × (length a.times ≡ times_length) × (length a.inertial ≡ times_length) × (length a.fanins ≡ fanins_length)
unfolding areas_suit
suited a e =
    let e2 = and_right (eqb (length a.directory) directory_length) _ e in
    let e3 = and_right (eqb (length a.times) times_length) _ e2 in (
      eqb-true _ _ (and_left (eqb (length a.directory) directory_length) _ e),
      eqb-true _ _ (and_left (eqb (length a.times) times_length) _ e2),
      eqb-true _ _ (and_left (eqb (length a.inertial) times_length) _ e3),
      eqb-true _ _ (and_right (eqb (length a.inertial) times_length) _ e3),
    )

pub given_all : (task : Task) (a : Areas) → reader.read_of task.file ≡ accepted (record { inputs = inputs_of task.file; gates = gates_of task.file }) → areas_suit a ≡ true → changes_suit (inputs_of task.file) task.schedule ≡ true → Given task a
given_all task a e y s =
    let l = suited a y in
    given_long task a e s (omega (arith, l.0)) (omega (arith, l.1)) (omega (arith, l.2)) (omega (arith, l.3))

module _ (task : Task) (read : reader.read_of task.file ≡ accepted (record { inputs = inputs_of task.file; gates = gates_of task.file })) where
  module _ (a : Areas) (y : areas_suit a ≡ true) (s : changes_suit (inputs_of task.file) task.schedule ≡ true) (fit : fits (frames_in task) ≡ true) {a' : Areas} (is : a' ≡ laid (frames_in task) a) where
    plan_room : Room (frames_in task) a
    plan_room = given_room task (given_all task a read y s) fit

    -- so the areas that hold the plan of an accepted file hold it at their own lengths
    pub plan_kept : a' ≡ laid (frames_in task) a'
    plan_kept = laid_kept (frames_in task) is plan_room (even_rows task read)

    -- and keep the lengths of question 10
    pub plan_lengths : areas_suit a' ≡ true
    unfolding areas_suit
    plan_lengths =
        let l = laid_lengths (frames_in task) a plan_room (even_rows task read) in
        rw (is, l.0, l.1, l.2, l.3) y

-- ---- the ladder

module _ (task : Task) (limit : ℕ) (a : Areas) where
  abbrev changes_asked : Question
  changes_asked = changes_suit (inputs_of task.file) task.schedule or_else 20

  abbrev last : List Question
  last = last_questions limit (frames_in task)

  -- what the first "no" leaves
  abbrev left : ℕ → Areas
  left n = left_by n (laid (frames_in task) a) (all_cleared a) a

  planned : {n : ℕ} → first_no (questions task limit a) ≡ n → plan_of task limit a ≡ outcome (unless n (totals_of (frames_in task))) (left n)
  unfolding plan_of
  planned e = rw e

  refusal : {n : ℕ} → first_no (questions task limit a) ≡ n → 1 ≤ n → {b : Areas} → b ≡ left n → outcome (refused n) b ≡ plan_of task limit a
  refusal {n} e h l = sym (planned e ∙ rw (unless_some n (totals_of (frames_in task)) (λ z. omega arith), ← l))

  pub plan_numbered : numbered (questions task limit a) ≡ true
  unfolding questions
  plan_numbered = each_append is_number (reader.questions task.file) (own_questions task limit a) (questions_numbered task.file) refl

  -- what an acceptance says: the file is accepted, its frames fit, and the areas have the lengths of question 10 and are
  -- laid out
  module _ {totals : Totals} {b : Areas} (e : outcome (accepted totals) b ≡ plan_of task limit a) where
    says : (first_no (questions task limit a) ≡ 0) × (totals_of (frames_in task) ≡ totals) × (b ≡ laid (frames_in task) a)
    unfolding plan_of
    says = accepted_left (first_no (questions task limit a)) (totals_of (frames_in task)) (laid (frames_in task) a) (all_cleared a) a e

    own : (areas_suit a ≡ true) × (first_no (changes_asked ∷ last) ≡ 0)
    unfolding questions
    own = asked (areas_suit a) 10 (changes_asked ∷ last) (λ z. omega arith) (own_none task.file (own_questions task limit a) says.0)

    timed : (changes_suit (inputs_of task.file) task.schedule ≡ true) × (first_no last ≡ 0)
    timed = asked (changes_suit (inputs_of task.file) task.schedule) 20 last (λ z. omega arith) own.1

    plan_fits : fits (frames_in task) ≡ true
    plan_fits = (last_none limit (frames_in task) timed.1).0

    -- the change times passed 20
    pub accepted_timed : changes_suit (inputs_of task.file) task.schedule ≡ true
    accepted_timed = timed.0

    pub accepted_read : reader.read_of task.file ≡ accepted (record { inputs = inputs_of task.file; gates = gates_of task.file })
    unfolding questions
    accepted_read = file_read task.file (own_questions task limit a) says.0

    pub accepted_kept : b ≡ laid (frames_in task) b
    accepted_kept = plan_kept task accepted_read a own.0 timed.0 plan_fits says.2

    pub accepted_lengths : areas_suit b ≡ true
    accepted_lengths = plan_lengths task accepted_read a own.0 timed.0 plan_fits says.2

  -- 1 to 9
  pub plan_read : {n : ℕ} → refused n ≡ reader.read_of task.file → outcome (refused n) a ≡ plan_of task limit a
  unfolding questions
  plan_read {n} e =
      let q = read_no task.file (own_questions task limit a) e in
      refusal q.0 q.1 (sym (left_quiet _ _ a (reader.questions task.file) (questions_quiet task.file) (sym q.2) (λ z. omega (arith, q.1))))

  module _ {s : InputsAndGates} (e : accepted s ≡ reader.read_of task.file) where
    answered : (reader.read_of task.file ≡ accepted (record { inputs = inputs_of task.file; gates = gates_of task.file })) × (s.inputs ≡ inputs_of task.file) × (s.gates ≡ gates_of task.file)
    answered = read_yes task.file (own_questions task limit a) e

    rest : first_no (questions task limit a) ≡ first_no (own_questions task limit a)
    unfolding questions
    rest = own_decide task.file (own_questions task limit a) answered.0

    pub plan_10 : {ok : Bool} → ok ≡ areas_suit a → not ok ≡ true → outcome (refused 10) a ≡ plan_of task limit a
    plan_10 {ok} is n =
        refusal (rest ∙ ask_no (areas_suit a) 10 _ (sym is ∙ not-true ok n)) (omega arith) (sym (left_other _ _ a 10 (λ z. omega arith) refl))

    module _ {ok : Bool} (is : ok ≡ areas_suit a) (y : not ok ≡ false) where
      suits : areas_suit a ≡ true
      suits = sym is ∙ not-false ok y

      pub plan_20 : {on : Bool} → on ≡ changes_suit s.inputs task.schedule → not on ≡ true → outcome (refused 20) a ≡ plan_of task limit a
      plan_20 {on} at n =
          refusal (rest ∙ ask_yes (areas_suit a) 10 _ suits ∙ ask_no (changes_suit (inputs_of task.file) task.schedule) 20 _ (rw answered.1 at (sym at ∙ not-true on n))) (omega arith)
          (sym (left_other _ _ a 20 (λ z. omega arith) refl))

      module _ {on : Bool} (at : on ≡ changes_suit s.inputs task.schedule) (t : not on ≡ false) where
        timely : changes_suit (inputs_of task.file) task.schedule ≡ true
        timely = rw answered.1 at (sym at ∙ not-false on t)

        -- what filling asks
        pub fill_given : Given task a × (s.inputs ≡ inputs_of task.file) × (s.gates ≡ gates_of task.file)
        fill_given = (given_all task a answered.0 suits timely, answered.1, answered.2)

        first_ones : first_no (questions task limit a) ≡ first_no last
        first_ones = rest ∙ ask_yes (areas_suit a) 10 _ suits ∙ ask_yes (changes_suit (inputs_of task.file) task.schedule) 20 _ timely

        -- the rest is planning within the limit
        pub plan_last : within_of task limit a ≡ plan_of task limit a
        unfolding plan_of within_of
        plan_last = ap (λ (n : ℕ). planned_by n (frames_in task) a) (sym first_ones)
