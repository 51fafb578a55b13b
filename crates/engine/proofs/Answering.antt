-- Run's ladder, and what a run leaves in the areas.
-- Assumes nothing.
use Prim.Native.Nat.{ℕ}
use mathlib.Core.Path.{◌≡◌, refl, sym, ap, ap₂, ◌∙◌}
use mathlib.Core.Bool.{Bool, true, false, cond, ◌&&◌}
use mathlib.Core.List.{List, ◌∷◌, append_assoc}
use lib.Dec.{eqb}
use lib.ListN.{length}
use borrow.Author.Tests.{eq-eqb}
use Rattle.lists.specs.Ladder.{Question, ◌or_else◌, first_no, Answer, unless, refused}
use Rattle.lists.specs.Outcome.{Outcome, outcome, clears, left_by}
use Rattle.lists.specs.Areas.{cleared, padded}
use Rattle.lists.proofs.Ladders.{is_number, numbered, leaves_alone, quiet, each_append, quiet_numbered, first, first_here, first_no_append, first_no_behind, unless_some}
use Rattle.lists.proofs.Leaving.{left_quiet}
use Rattle.method.specs.Changes.{changes_suit}
use Rattle.method.specs.WordLists.{WordLists, Lengths, lengths_of, words_suit}
use Rattle.circuit.specs.File.{inputs_of}
use Rattle.circuit.specs.Questions as reader
use Rattle.circuit.specs.Task.{Task, frames_in, all_packed_in}
use Rattle.circuit.proofs.Present.{questions_quiet}
use Rattle.method.specs.declared.Totals.{Totals}
use Rattle.method.specs.Sums.{totals_of}
use Rattle.limiting.specs.Questions.{last_questions}
use Rattle.limiting.specs.Planned.{within_of}
use Rattle.limiting.proofs.Within.{last_no}
use Rattle.simulation.specs.Simulated.{values_left, Simulated}
use Rattle.method.specs.Layout.{laid}
use Rattle.planner.specs.Questions as plan
use Rattle.method.specs.Areas as layout
use Rattle.engine.specs.Areas.{Areas, all_cleared}
use Rattle.engine.specs.Questions.{values_length, areas_suit, own_questions, first_questions, questions}
use Rattle.engine.specs.Run.{filled, run_left, run_of}
use Rattle.std.specs.Prelude.{Result}
use Rattle.method.specs.declared.Refusal.{Refusal}
use Rattle.method.specs.Refusals.{on_paper}

-- ---- the ladder

module _ (task : Task) (l : Lengths) (a : Areas) where
  -- none of these clears the areas
  pub first_quiet : quiet (first_questions task l a) ≡ true
  unfolding first_questions
  first_quiet = each_append leaves_alone (reader.questions task.file) (own_questions (inputs_of task.file) task.schedule l a) (questions_quiet task.file) refl

  pub first_numbered : numbered (first_questions task l a) ≡ true
  first_numbered = quiet_numbered (first_questions task l a) first_quiet

  pub all_numbered : (limit : ℕ) → numbered (questions task limit l a) ≡ true
  unfolding questions
  all_numbered limit = each_append is_number (first_questions task l a) (last_questions limit (frames_in task)) first_numbered refl

  pub joined : (limit : ℕ) → first_no (questions task limit l a) ≡ first (first_no (first_questions task l a)) (last_no task limit)
  unfolding questions
  joined limit = first_no_append (first_questions task l a) (last_questions limit (frames_in task)) first_numbered

-- where the values and the word lists have their lengths, the first "no" is Plan's
own_alike : (suits : Bool) {values words : Bool} → values ≡ true → words ≡ true → (qs : List Question) → first_no ((suits && values or_else 10) ∷ (words or_else 11) ∷ qs) ≡ first_no ((suits or_else 10) ∷ qs)
unfolding first_no
own_alike true v w qs = rw (v, w)
own_alike false v w qs = refl

pub plan_first : (task : Task) (limit : ℕ) (l : Lengths) (a : Areas) → length a.values ≡ values_length → words_suit (inputs_of task.file) (length task.schedule.times) l ≡ true
    → first_no (questions task limit l a) ≡ first_no (plan.questions task limit a.plan)
unfolding questions first_questions areas_suit plan.questions
plan_first task limit l a v w =
    ap first_no (append_assoc (reader.questions task.file) (own_questions (inputs_of task.file) task.schedule l a) (last_questions limit (frames_in task)))
    ∙ first_no_behind (reader.questions task.file) _ _
    (own_alike (plan.areas_suit a.plan) (eq-eqb _ _ v) w ((changes_suit (inputs_of task.file) task.schedule or_else 20) ∷ last_questions limit (frames_in task)))

module _ (task : Task) (limit : ℕ) (w : WordLists) (a : Areas) where
  -- what the first "no" leaves
  abbrev left : ℕ → Areas
  left n = run_left n task w a

  -- Run's two parts
  pub run_is : {x : Answer Totals} {b : Areas} → outcome x b ≡ run_of task limit w a
      → (x ≡ unless (first_no (questions task limit (lengths_of w) a)) (totals_of (frames_in task)))
      × (b ≡ left (first_no (questions task limit (lengths_of w) a)))
  unfolding run_of
  run_is e = (ap (λ (o : Outcome Totals Areas). o.answer) e, ap (λ (o : Outcome Totals Areas). o.left) e)

  ran : {n : ℕ} → first_no (questions task limit (lengths_of w) a) ≡ n
      → run_of task limit w a ≡ outcome (unless n (totals_of (frames_in task))) (left n)
  unfolding run_of
  ran e = rw e

  refusal : {n : ℕ} → first_no (questions task limit (lengths_of w) a) ≡ n → (n ≡ 0 → ⊥) → {b : Areas} → b ≡ left n
      → outcome (refused n) b ≡ run_of task limit w a
  refusal {n} e h l = sym (ran e ∙ rw (unless_some n (totals_of (frames_in task)) h, ← l))

  -- all but 13 and 22: nothing is written
  pub run_no : {n : ℕ} → n ≡ first_no (first_questions task (lengths_of w) a) → (n ≡ 0 → ⊥) → outcome (refused n) a ≡ run_of task limit w a
  run_no {n} e h =
      refusal (joined task (lengths_of w) a limit ∙ rw (← e) (first_here n _ h)) h
      (sym (left_quiet _ _ a (first_questions task (lengths_of w) a) (first_quiet task (lengths_of w) a) e h))

  -- each area is left by the same number
  left_each : (n : ℕ) → left n ≡ record { plan = left_by n (laid (frames_in task) a.plan) (layout.all_cleared a.plan) a.plan; values = values_left n task w a.values }
  unfolding left_by filled all_cleared
  left_each n = go (eqb n 0) (clears n)
    where
      go : (none many : Bool) → cond none (filled task w a) (cond many (all_cleared a) a)
          ≡ record { plan = cond none (laid (frames_in task) a.plan) (cond many (layout.all_cleared a.plan) a.plan); values = cond none (padded (length a.values) (all_packed_in task w)) (cond many (cleared a.values) a.values) }
      go true many = refl
      go false true = refl
      go false false = refl

  -- the rest is planning within the limit, and the values
  pub run_yes : first_no (first_questions task (lengths_of w) a) ≡ 0 → {r : Result Totals Refusal} {p : layout.Areas} {v : List ℕ} → Simulated task limit w a.plan a.values r p v
      → outcome (on_paper r) (record { plan = p; values = v }) ≡ run_of task limit w a
  unfolding within_of
  run_yes e {r} {p} {v} s =
      let n : first_no (questions task limit (lengths_of w) a) ≡ last_no task limit = joined task (lengths_of w) a limit ∙ rw e in
      sym (ran n
      ∙ ap₂ (λ (x : Answer Totals) (y : Areas). outcome x y) (sym (ap (λ (o : Outcome Totals layout.Areas). o.answer) s.plan))
      (left_each (last_no task limit) ∙ ap₂ (λ (x : layout.Areas) (y : List ℕ). record { plan = x; values = y }) (sym (ap (λ (o : Outcome Totals layout.Areas). o.left) s.plan)) (sym s.values)))
