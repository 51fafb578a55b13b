-- Mark's ladder beside Run's: where 12 is answered yes, they ask alike, and leave the areas alike.
-- Assumes nothing.
use Prim.Native.Nat.{ℕ, ◌+◌, ◌≤◌, ◌<◌}
use mathlib.Core.Path.{◌≡◌, refl, sym, ap, ap₂, ◌∙◌}
use mathlib.Core.Bool.{Bool, true, false}
use mathlib.Core.List.{List, ◌∷◌}
use native.Mathlib.Omega.{arith}
use lib.Dec.{leb}
use borrow.Author.Tests.{le-leb, lt-leb}
use Rattle.lists.specs.Ladder.{Question, ◌or_else◌, first_no, unless, refused, accepted, Answer}
use Rattle.lists.specs.Outcome.{outcome}
use Rattle.lists.proofs.Ladders.{is_number, numbered, each_append, first, first_here, first_none, first_no_append, first_no_behind, asked, ask_yes, ask_no, accepted_none, refused_some}
use Rattle.lists.proofs.Leaving.{left_other, left_quiet}
use Rattle.method.specs.WordLists.{WordLists, Lengths, lengths_of}
use Rattle.circuit.specs.Questions as reader
use Rattle.circuit.specs.Task.{Task, nets_in, frames_in}
use Rattle.circuit.proofs.Parts.{circuit_inputs, gates_length}
use Rattle.method.specs.declared.Totals.{Totals}
use Rattle.method.specs.Sums.{totals_of}
use Rattle.limiting.specs.Questions.{last_questions}
use Rattle.engine.specs.Areas.{Areas}
use Rattle.engine.specs.Questions.{first_questions, questions_of, questions}
use Rattle.engine.specs.Run.{run_left, run_of}
use Rattle.engine.proofs.Asking.{asked_no, asked_none, asked_nets}
use Rattle.engine.proofs.Answering.{first_quiet, first_numbered, run_is}
use Rattle.marking.specs.Questions.{asked_with}
use Rattle.marking.specs.Steps as steps
use Rattle.editions.specs.declared.InputsAndGates.{InputsAndGates}

module _ (task : Task) (limit : ℕ) (l : Lengths) (a : Areas) (suit : Bool) where
  abbrev last : List Question
  last = last_questions limit (frames_in task)

  pub ladder_numbered : numbered (asked_with task limit l a suit) ≡ true
  unfolding asked_with
  ladder_numbered = each_append is_number (first_questions task l a) ((suit or_else 12) ∷ last) (first_numbered task l a) refl

  parted : first_no (asked_with task limit l a suit) ≡ first (first_no (first_questions task l a)) (first_no ((suit or_else 12) ∷ last))
  unfolding asked_with
  parted = first_no_append (first_questions task l a) ((suit or_else 12) ∷ last) (first_numbered task l a)

  pub ladder_early : (first_no (first_questions task l a) ≡ 0 → ⊥) → first_no (asked_with task limit l a suit) ≡ first_no (first_questions task l a)
  ladder_early h = parted ∙ first_here _ _ h

  ladder_12 : first_no (first_questions task l a) ≡ 0 → suit ≡ false → first_no (asked_with task limit l a suit) ≡ 12
  ladder_12 z n = parted ∙ rw z (ask_no suit 12 last n)

  -- where 12 is answered yes, the first "no" is Run's
  pub ladder_run : suit ≡ true → first_no (asked_with task limit l a suit) ≡ first_no (questions task limit l a)
  unfolding asked_with questions
  ladder_run y = first_no_behind (first_questions task l a) ((suit or_else 12) ∷ last) last (ask_yes suit 12 last y)

  pub ladder_none : first_no (first_questions task l a) ≡ 0 → suit ≡ true → first_no last ≡ 0 → first_no (asked_with task limit l a suit) ≡ 0
  ladder_none z y e = parted ∙ rw z (ask_yes suit 12 last y ∙ e)

  -- no "no": 12 is answered yes, and so are Run's questions
  pub ladder_yes : first_no (asked_with task limit l a suit) ≡ 0 → (suit ≡ true) × (first_no (questions task limit l a) ≡ 0)
  ladder_yes e =
      let p = first_none (first_no (first_questions task l a)) _ (sym parted ∙ e) in
      let s = asked suit 12 last (λ z. omega arith) p.1 in
      (s.0, sym (ladder_run s.0) ∙ e)

-- ---- what `run_asked` answers and leaves

module _ (task : Task) (limit : ℕ) (w : WordLists) (a : Areas) (suit : Bool) where
  abbrev first_no_lem : ℕ
  first_no_lem = first_no (first_questions task (lengths_of w) a)

  abbrev left : ℕ → Areas
  left n = run_left n task w a

  answers : {n : ℕ} → first_no (asked_with task limit (lengths_of w) a suit) ≡ n → steps.asked_of task limit w a suit ≡ steps.asked n (left n)
  unfolding steps.asked_of
  answers e = rw e

  -- all but 13 and 22 write nothing
  unwritten : {n : ℕ} → first_no (asked_with task limit (lengths_of w) a suit) ≡ n → left n ≡ a → steps.asked n a ≡ steps.asked_of task limit w a suit
  unwritten {n} e l = sym (answers e ∙ ap (steps.asked n) l)

  -- what `questions` answered
  pub early_no : {n : ℕ} → refused n ≡ questions_of task (lengths_of w) a → steps.asked n a ≡ steps.asked_of task limit w a suit
  early_no {n} e =
      let q = asked_no task (lengths_of w) a e in
      unwritten (ladder_early task limit (lengths_of w) a suit (λ z. q.1 (q.0 ∙ z)) ∙ sym q.0)
      (left_quiet _ _ a (first_questions task (lengths_of w) a) (first_quiet task (lengths_of w) a) q.0 q.1)

  pub unsuited_no : {s : InputsAndGates} → accepted s ≡ questions_of task (lengths_of w) a → suit ≡ false → steps.asked 12 a ≡ steps.asked_of task limit w a suit
  unsuited_no e n = unwritten (ladder_12 task limit (lengths_of w) a suit (asked_none task (lengths_of w) a e) n) (left_other _ _ a 12 (λ q. omega arith) refl)

  -- what Run answers and leaves
  module _ (y : suit ≡ true) {x : Answer Totals} {b : Areas} (ran : outcome x b ≡ run_of task limit w a) where
    abbrev run_no : ℕ
    run_no = first_no (questions task limit (lengths_of w) a)

    answer_is : x ≡ unless run_no (totals_of (frames_in task))
    answer_is = (run_is task limit w a ran).0

    left_is : b ≡ left run_no
    left_is = (run_is task limit w a ran).1

    ends : {n : ℕ} → run_no ≡ n → steps.asked n b ≡ steps.asked_of task limit w a suit
    ends {n} e = sym (answers (ladder_run task limit (lengths_of w) a suit y ∙ e) ∙ ap (steps.asked n) (ap left (sym e) ∙ sym left_is))

  pub run_refused : suit ≡ true → {n : ℕ} {b : Areas} → outcome (refused n) b ≡ run_of task limit w a → steps.asked n b ≡ steps.asked_of task limit w a suit
  run_refused y e = ends y e (refused_some (run_no y e) _ (sym (answer_is y e))).0

  pub run_accepted : suit ≡ true → {totals : Totals} {b : Areas} → outcome (accepted totals) b ≡ run_of task limit w a → steps.asked 0 b ≡ steps.asked_of task limit w a suit
  run_accepted y e = ends y e (accepted_none (run_no y e) _ (sym (answer_is y e))).0

-- ---- question 12: whether there are as many nets as the list needs, by what `questions` answered

module _ (task : Task) (l : Lengths) (a : Areas) {s : InputsAndGates} (e : accepted s ≡ questions_of task l a) where
  pub too_few : {needed : ℕ} → s.inputs + s.gates < needed → leb needed (nets_in task) ≡ false
  too_few {needed} h = rw (asked_nets task l a e) (lt-leb needed (s.inputs + s.gates) h)

  pub enough : {needed : ℕ} → needed ≤ s.inputs + s.gates → leb needed (nets_in task) ≡ true
  enough {needed} h = rw (asked_nets task l a e) (le-leb needed (s.inputs + s.gates) h)
