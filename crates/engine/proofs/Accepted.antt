-- What an accepted run says: every question was answered yes, so the areas hold the plan, at their own lengths, and the
-- packed values.
-- Assumes nothing.
use Prim.Native.Nat.{ℕ, ◌≤◌}
use mathlib.Core.Path.{◌≡◌, refl, sym, ap, ap₂, ◌∙◌}
use mathlib.Core.Bool.{true}
use native.Mathlib.Omega.{arith}
use lib.ListN.{length}
use borrow.Author.Tests.{eq-eqb}
use Rattle.lists.specs.Ladder.{first_no, accepted}
use Rattle.lists.specs.Outcome.{outcome}
use Rattle.lists.specs.Areas.{padded}
use Rattle.lists.proofs.Choices.{and_both}
use Rattle.lists.proofs.Padding.{pad_length, pad_kept}
use Rattle.lists.proofs.Ladders.{first_none, unless_none}
use Rattle.lists.proofs.Leaving.{left_none, accepted_left}
use Rattle.method.specs.WordLists.{WordLists, Lengths, lengths_of, words_suit}
use Rattle.circuit.specs.File.{inputs_of, gates_of}
use Rattle.circuit.specs.Questions as reader
use Rattle.circuit.specs.Task.{Task, circuit_in, moments_in, frames_in, all_packed_in}
use Rattle.method.specs.Changes.{changes_suit}
use Rattle.method.specs.Layout.{laid}
use Rattle.method.specs.Sums.{fits, totals_of}
use Rattle.method.specs.Packed.{changes_before}
use Rattle.method.specs.Lanes.{AgreeIn}
use Rattle.method.proofs.Changes.{suited}
use Rattle.circuit.proofs.Parts.{circuit_inputs}
use Rattle.method.proofs.Fitting.{fits_total}
use Rattle.method.proofs.Parts.{all_words}
use Rattle.limiting.proofs.Last.{last_none}
use Rattle.limiting.proofs.Within.{last_no}
use Rattle.planner.proofs.Calling.{plan_kept, plan_lengths}
use Rattle.engine.specs.Areas.{Areas, all_cleared}
use Rattle.engine.specs.Questions.{areas_suit, first_questions, questions}
use Rattle.engine.specs.Run.{filled, run_of}
use Rattle.engine.specs.After.{LeftByRun}
use Rattle.engine.proofs.Asking.{Passed, passed, passed_again}
use Rattle.engine.proofs.Answering.{joined}

-- ---- no question was answered no

module _ (task : Task) (limit : ℕ) (l : Lengths) (a : Areas) (e : first_no (questions task limit l a) ≡ 0) where
  pub parts : (first_no (first_questions task l a) ≡ 0) × (last_no task limit ≡ 0)
  parts = first_none (first_no (first_questions task l a)) (last_no task limit) (sym (joined task l a limit) ∙ e)

  yes_all : Passed task l a
  yes_all = passed task l a parts.0

  plan_fit : fits (frames_in task) ≡ true
  plan_fit = (last_none limit (frames_in task) parts.1).0

-- ---- what it leaves

-- the areas hold the plan and the packed values of an accepted file with change times and word lists that suit it, at their own
-- lengths
pub record Held (task : Task) (w : WordLists) (a : Areas) : Type 0 where
  pub read : reader.read_of task.file ≡ accepted (record { inputs = inputs_of task.file; gates = gates_of task.file })
  pub timed : changes_suit (inputs_of task.file) task.schedule ≡ true
  pub worded : words_suit (inputs_of task.file) (length task.schedule.times) (lengths_of w) ≡ true
  pub fit : fits (frames_in task) ≡ true
  pub plan_is : a.plan ≡ laid (frames_in task) a.plan
  pub values_are : a.values ≡ padded (length a.values) (all_packed_in task w)

pub filled_plan : (task : Task) (w : WordLists) (a : Areas) → (filled task w a).plan ≡ laid (frames_in task) a.plan
unfolding filled
filled_plan task w a = refl

pub filled_values : (task : Task) (w : WordLists) (a : Areas) → (filled task w a).values ≡ padded (length a.values) (all_packed_in task w)
unfolding filled
filled_values task w a = refl

-- a run whose questions are all answered yes, in areas that held `entry`
pub ran_filled : (task : Task) (limit : ℕ) (w : WordLists) (entry : Areas) {a : Areas} → first_no (questions task limit (lengths_of w) entry) ≡ 0 → a ≡ filled task w entry → LeftByRun task w a
unfolding run_of
ran_filled task limit w entry e is =
    let totals = totals_of (frames_in task) in
    let none_left = left_none (filled task w entry) (all_cleared entry) entry in
    record { limit = limit; totals = totals; entry = entry; ran = ap (outcome (accepted totals)) is ∙ rw e (sym (ap₂ outcome (unless_none 0 totals refl) none_left)) }

module _ (task : Task) (w : WordLists) {a : Areas} (r : LeftByRun task w a) where
  accepts : (first_no (questions task r.limit (lengths_of w) r.entry) ≡ 0) × (totals_of (frames_in task) ≡ r.totals) × (a ≡ filled task w r.entry)
  unfolding run_of
  accepts =
      accepted_left (first_no (questions task r.limit (lengths_of w) r.entry)) (totals_of (frames_in task)) (filled task w r.entry)
      (all_cleared r.entry) r.entry r.ran

  pub none : first_no (questions task r.limit (lengths_of w) r.entry) ≡ 0
  none = accepts.0

  pub left_totals : totals_of (frames_in task) ≡ r.totals
  left_totals = accepts.1

  pub left_filled : a ≡ filled task w r.entry
  left_filled = accepts.2

  yes : Passed task (lengths_of w) r.entry
  yes = yes_all task r.limit (lengths_of w) r.entry none

  fits_all : fits (frames_in task) ≡ true
  fits_all = plan_fit task r.limit (lengths_of w) r.entry none

  plan_is : a.plan ≡ laid (frames_in task) r.entry.plan
  plan_is = ap (λ (x : Areas). x.plan) left_filled ∙ filled_plan task w r.entry

  values_are : a.values ≡ padded (length r.entry.values) (all_packed_in task w)
  values_are = ap (λ (x : Areas). x.values) left_filled ∙ filled_values task w r.entry

  room : length (all_packed_in task w) ≤ length r.entry.values
  room = omega (arith, all_words (circuit_in task) (moments_in task) w, fits_total (frames_in task) fits_all, yes.values)

  pub held : Held task w a
  held =
      record {
        read = yes.read;
        timed = yes.timed;
        worded = yes.worded;
        fit = fits_all;
        plan_is = plan_kept task yes.read r.entry.plan yes.suits yes.timed fits_all plan_is;
        values_are = pad_kept (length r.entry.values) (all_packed_in task w) values_are room;
      }

  -- and they have the lengths of question 10
  pub left_suits : areas_suit a ≡ true
  unfolding areas_suit
  left_suits =
      and_both _ _ (plan_lengths task yes.read r.entry.plan yes.suits yes.timed fits_all plan_is)
      (eq-eqb _ _ (ap length values_are ∙ pad_length (length r.entry.values) (all_packed_in task w) room ∙ yes.values))

-- what such areas say of the questions before 13: in areas that suit, the file and the lists pass them
pub held_passed : (task : Task) (w : WordLists) {a : Areas} → Held task w a → (entry : Areas) → areas_suit entry ≡ true → first_no (first_questions task (lengths_of w) entry) ≡ 0
held_passed task w b entry s = passed_again task (lengths_of w) entry b.read s b.worded b.timed

-- there are as many after words as changes, so words that agree do so at each change
pub agree_all : (task : Task) (w w' : WordLists) (L : ℕ) {a : Areas} → Held task w a → AgreeIn L (circuit_in task).inputs (length task.schedule.times) w w'
    → AgreeIn L (circuit_in task).inputs (changes_before (moments_in task) (circuit_in task).inputs) w w'
agree_all task w w' L b p =
    let s = suited (inputs_of task.file) task.schedule b.timed in
    let q : changes_before (moments_in task) (circuit_in task).inputs ≡ length task.schedule.times =
    rw (circuit_inputs task.file) (s.starts (inputs_of task.file) (omega arith) ∙ s.total) in
    rw q p
