-- The charge call's ladder beside Run's: where 16 and 21 are answered yes, they ask alike, and leave the areas alike.
-- Assumes nothing.
use Prim.Native.Nat.{ℕ, ◌+◌, ◌≤◌, ◌<◌}
use mathlib.Core.Path.{◌≡◌, refl, sym, ap₂, ◌∙◌}
use mathlib.Core.Bool.{Bool, true, false}
use mathlib.Core.List.{List, ◌∷◌}
use native.Mathlib.Omega.{arith}
use lib.Dec.{eqb, ltb}
use borrow.Author.Tests.{eq-eqb, ne_eqb, lt-ltb, le-ltb}
use Rattle.lists.specs.Ladder.{Question, ◌or_else◌, first_no, unless, refused, accepted}
use Rattle.lists.specs.Outcome.{outcome}
use Rattle.lists.proofs.Ladders.{is_number, numbered, each_append, first, first_here, first_none, first_no_append, first_no_behind, asked, ask_yes, ask_no, unless_some}
use Rattle.lists.proofs.Leaving.{left_other, left_quiet}
use Rattle.method.specs.Words.{lanes}
use Rattle.method.specs.WordLists.{WordLists, Lengths, lengths_of}
use Rattle.circuit.specs.Questions as reader
use Rattle.circuit.specs.Task.{Task, nets_in, frames_in}
use Rattle.method.specs.Sums.{totals_of}
use Rattle.limiting.specs.Questions.{last_questions}
use Rattle.engine.specs.Areas.{Areas}
use Rattle.engine.specs.Questions.{first_questions, questions_of, questions}
use Rattle.engine.specs.Run.{run_left, run_of}
use Rattle.engine.proofs.Asking.{asked_no, asked_none, asked_nets}
use Rattle.engine.proofs.Answering.{first_quiet, first_numbered}
use Rattle.charge.specs.Questions.{asked_with}
use Rattle.charge.specs.Steps.{ran_of}
use Rattle.editions.specs.declared.InputsAndGates.{InputsAndGates}

module _ (task : Task) (limit : ℕ) (l : Lengths) (a : Areas) (below suit : Bool) where
  abbrev last : List Question
  last = last_questions limit (frames_in task)

  pub ladder_numbered : numbered (asked_with task limit l a below suit) ≡ true
  unfolding asked_with
  ladder_numbered = each_append is_number (first_questions task l a) ((below or_else 16) ∷ (suit or_else 21) ∷ last) (first_numbered task l a) refl

  parted : first_no (asked_with task limit l a below suit) ≡ first (first_no (first_questions task l a)) (first_no ((below or_else 16) ∷ (suit or_else 21) ∷ last))
  unfolding asked_with
  parted = first_no_append (first_questions task l a) ((below or_else 16) ∷ (suit or_else 21) ∷ last) (first_numbered task l a)

  pub ladder_early : (first_no (first_questions task l a) ≡ 0 → ⊥) → first_no (asked_with task limit l a below suit) ≡ first_no (first_questions task l a)
  ladder_early h = parted ∙ first_here _ _ h

  ladder_16 : first_no (first_questions task l a) ≡ 0 → below ≡ false → first_no (asked_with task limit l a below suit) ≡ 16
  ladder_16 z n = parted ∙ rw z (ask_no below 16 _ n)

  ladder_21 : first_no (first_questions task l a) ≡ 0 → below ≡ true → suit ≡ false → first_no (asked_with task limit l a below suit) ≡ 21
  ladder_21 z y n = parted ∙ rw z (ask_yes below 16 _ y ∙ ask_no suit 21 last n)

  -- where both are answered yes, the first "no" is Run's
  pub ladder_run : below ≡ true → suit ≡ true → first_no (asked_with task limit l a below suit) ≡ first_no (questions task limit l a)
  unfolding asked_with questions
  ladder_run y z = first_no_behind (first_questions task l a) ((below or_else 16) ∷ (suit or_else 21) ∷ last) last (ask_yes below 16 _ y ∙ ask_yes suit 21 last z)

  -- no "no": both are answered yes, and so are Run's questions
  pub ladder_yes : first_no (asked_with task limit l a below suit) ≡ 0 → (below ≡ true) × (suit ≡ true) × (first_no (questions task limit l a) ≡ 0)
  ladder_yes e =
      let p = first_none (first_no (first_questions task l a)) _ (sym parted ∙ e) in
      let o = asked below 16 _ (λ z. omega arith) p.1 in
      let s = asked suit 21 last (λ z. omega arith) o.1 in
      (o.0, s.0, sym (ladder_run o.0 s.0) ∙ e)

-- ---- what `run_asked` answers and leaves

module _ (task : Task) (limit : ℕ) (w : WordLists) (a : Areas) (below suit : Bool) where
  answers : {n : ℕ} → first_no (asked_with task limit (lengths_of w) a below suit) ≡ n → ran_of task limit w a below suit ≡ outcome (unless n (totals_of (frames_in task))) (run_left n task w a)
  unfolding ran_of
  answers e = rw e

  -- all but 13 and 22 write nothing
  unwritten : {n : ℕ} → first_no (asked_with task limit (lengths_of w) a below suit) ≡ n → (n ≡ 0 → ⊥) → run_left n task w a ≡ a → outcome (refused n) a ≡ ran_of task limit w a below suit
  unwritten {n} e z l = sym (answers e ∙ ap₂ outcome (unless_some n (totals_of (frames_in task)) z) l)

  -- what `questions` answered
  pub early_no : {n : ℕ} → refused n ≡ questions_of task (lengths_of w) a → outcome (refused n) a ≡ ran_of task limit w a below suit
  early_no {n} e =
      let q = asked_no task (lengths_of w) a e in
      unwritten (ladder_early task limit (lengths_of w) a below suit (λ z. q.1 (q.0 ∙ z)) ∙ sym q.0) q.1
      (left_quiet _ _ a (first_questions task (lengths_of w) a) (first_quiet task (lengths_of w) a) q.0 q.1)

  module _ {s : InputsAndGates} (e : accepted s ≡ questions_of task (lengths_of w) a) where
    pub lane_no : below ≡ false → outcome (refused 16) a ≡ ran_of task limit w a below suit
    lane_no n = unwritten (ladder_16 task limit (lengths_of w) a below suit (asked_none task (lengths_of w) a e) n) (λ q. omega arith) (left_other _ _ a 16 (λ q. omega arith) refl)

    pub loads_no : below ≡ true → suit ≡ false → outcome (refused 21) a ≡ ran_of task limit w a below suit
    loads_no y n = unwritten (ladder_21 task limit (lengths_of w) a below suit (asked_none task (lengths_of w) a e) y n) (λ q. omega arith) (left_other _ _ a 21 (λ q. omega arith) refl)

  pub run_asks : below ≡ true → suit ≡ true → run_of task limit w a ≡ ran_of task limit w a below suit
  unfolding run_of
  run_asks y z = sym (answers (ladder_run task limit (lengths_of w) a below suit y z))

-- ---- 16, and 21 by what `questions` answered

pub lane_high : (L : ℕ) → 63 < L → ltb L lanes ≡ false
lane_high L h = le-ltb L 64 (omega arith)

pub lane_low : (L : ℕ) → L ≤ 63 → ltb L lanes ≡ true
lane_low L h = lt-ltb L 64 (omega arith)

module _ (task : Task) (l : Lengths) (a : Areas) {s : InputsAndGates} (e : accepted s ≡ questions_of task l a) where
  pub other_count : {loaded : ℕ} → (s.inputs + s.gates ≡ loaded → ⊥) → eqb loaded (nets_in task) ≡ false
  other_count {loaded} h = rw (asked_nets task l a e) (ne_eqb loaded (s.inputs + s.gates) (λ q. h (sym q)))

  pub same_count : {loaded : ℕ} → s.inputs + s.gates ≡ loaded → eqb loaded (nets_in task) ≡ true
  same_count {loaded} h = rw (asked_nets task l a e) (eq-eqb loaded (s.inputs + s.gates) (sym h))
