-- What Mark answers where a question fails, and where none does: then the areas hold the run, and the search in them gives
-- the verdict. An accepted Mark leaves what an accepted Run leaves.
-- Assumes nothing.
use Prim.Native.Nat.{ℕ, zero, suc}
use mathlib.Core.Path.{◌≡◌, refl, sym, ap, ap₂, ◌∙◌}
use mathlib.Core.Bool.{Bool, true}
use mathlib.Core.List.{List}
use native.Mathlib.Omega.{arith}
use lib.Dec.{leb}
use Rattle.lists.specs.Ladder.{Answer, first_no, accepted, unless, refused}
use Rattle.lists.specs.Outcome.{outcome}
use Rattle.lists.proofs.Ladders.{unless_none, unless_some}
use Rattle.lists.proofs.Leaving.{left_none, accepted_left}
use Rattle.method.specs.WordLists.{WordLists, Lengths, lengths_of}
use Rattle.method.specs.declared.Refusal.{Refusal}
use Rattle.method.specs.Refusals.{number_of}
use Rattle.method.proofs.Refused.{some_number}
use Rattle.circuit.specs.Task.{Task, nets_in}
use Rattle.circuit.proofs.Parts.{circuit_inputs, gates_length, few}
use Rattle.engine.specs.Areas.{Areas, all_cleared}
use Rattle.engine.specs.Questions.{first_questions}
use Rattle.engine.specs.Run.{filled, run_left}
use Rattle.engine.specs.After.{LeftByRun}
use Rattle.engine.proofs.Asking.{passed}
use Rattle.engine.proofs.Accepted.{ran_filled}
use Rattle.engine.proofs.After.{after_runs}
use Rattle.expectations.specs.declared.Expectation.{Expectation}
use Rattle.expectations.specs.Suits.{list_suits}
use Rattle.marking.specs.Questions.{asked_with, questions}
use Rattle.expectations.specs.Verdict.{Verdict}
use Rattle.marking.specs.Mark.{verdict, mark_of}
use Rattle.expectations.specs.Steps.{nets_needed, searched}
use Rattle.marking.specs.Steps.{Asked, asked, asked_of}
use Rattle.expectations.proofs.Judging.{list_suits_by}
use Rattle.marking.proofs.Laddered.{ladder_early, ladder_yes}
use Rattle.marking.proofs.Searching.{searched_is}

-- ---- the nets that the list needs

-- where those before it are answered yes, question 12 is whether there are as many
needs_asked : (task : Task) (l : Lengths) (a : Areas) → first_no (first_questions task l a) ≡ 0 → (list : List Expectation)
    → list_suits (nets_in task) list ≡ leb (nets_needed list) (nets_in task)
needs_asked task l a e list =
    let most = few task.file (passed task l a e).read in
    list_suits_by (nets_in task) (omega (arith, circuit_inputs task.file, gates_length task.file, most)) list

-- and where one of them is not, it does not matter
same_ladder : (task : Task) (limit : ℕ) (l : Lengths) (a : Areas) (list : List Expectation)
    → first_no (asked_with task limit l a (leb (nets_needed list) (nets_in task))) ≡ first_no (questions task limit l a list)
same_ladder task limit l a list = go (first_no (first_questions task l a)) refl
  where
    go : (n : ℕ) → first_no (first_questions task l a) ≡ n → first_no (asked_with task limit l a (leb (nets_needed list) (nets_in task))) ≡ first_no (questions task limit l a list)
    go zero e = ap (λ (b : Bool). first_no (asked_with task limit l a b)) (sym (needs_asked task l a e list))
    go (suc n) e =
        let some : first_no (first_questions task l a) ≡ 0 → ⊥ = λ z. omega (arith, e) in
        ladder_early task limit l a (leb (nets_needed list) (nets_in task)) some ∙ sym (ladder_early task limit l a (list_suits (nets_in task) list) some)

-- ---- no question fails

module _ (task : Task) (limit : ℕ) (w : WordLists) (a : Areas) (list : List Expectation) where
  marks : {n : ℕ} → first_no (questions task limit (lengths_of w) a list) ≡ n
      → mark_of task limit w a list ≡ outcome (unless n (verdict task w list)) (run_left n task w a)
  unfolding mark_of
  marks e = rw e

  pub mark_accepts : first_no (questions task limit (lengths_of w) a list) ≡ 0 → (mark_of task limit w a list).answer ≡ accepted (verdict task w list)
  unfolding mark_of
  mark_accepts e = unless_none _ (verdict task w list) e

  -- an accepted Mark: no question fails, and it leaves what Run leaves
  module _ {v : Verdict} {b : Areas} (e : outcome (accepted v) b ≡ mark_of task limit w a list) where
    accepts : (first_no (questions task limit (lengths_of w) a list) ≡ 0) × (verdict task w list ≡ v) × (b ≡ filled task w a)
    unfolding mark_of
    accepts =
        accepted_left (first_no (questions task limit (lengths_of w) a list)) (verdict task w list) (filled task w a) (all_cleared a) a e

    pub verdict_is : v ≡ verdict task w list
    verdict_is = sym accepts.1

    pub list_suits_lem : list_suits (nets_in task) list ≡ true
    list_suits_lem = (ladder_yes task limit (lengths_of w) a _ accepts.0).0

    pub mark_ran : LeftByRun task w b
    mark_ran = ran_filled task limit w a (ladder_yes task limit (lengths_of w) a _ accepts.0).1 accepts.2

-- ---- what `mark` answers

module _ (task : Task) (limit : ℕ) (w : WordLists) (a : Areas) {b : Areas} (list : List Expectation) {needed r : ℕ}
    (all : needed ≡ nets_needed list) (ran : asked r b ≡ asked_of task limit w a (leb needed (nets_in task))) where
  number_is : first_no (questions task limit (lengths_of w) a list) ≡ r
  unfolding asked_of
  number_is =
      sym (ap (λ (x : Asked). x.number) ran
      ∙ ap (λ (m : ℕ). first_no (asked_with task limit (lengths_of w) a (leb m (nets_in task)))) all
      ∙ same_ladder task limit (lengths_of w) a list)

  left_is : b ≡ run_left r task w a
  unfolding asked_of
  left_is =
      ap (λ (x : Asked). x.left) ran
      ∙ ap (λ (m : ℕ). run_left m task w a) (sym (ap (λ (x : Asked). x.number) ran))

  pub mark_no : (r ≡ 0 → ⊥) → outcome (refused r) b ≡ mark_of task limit w a list
  mark_no z = ap₂ outcome (sym (unless_some r (verdict task w list) z)) left_is ∙ sym (marks task limit w a list number_is)

  pub mark_yes : r ≡ 0 → {x : Verdict} → x ≡ searched b.plan.directory b.plan.times b.values list → outcome (accepted x) b ≡ mark_of task limit w a list
  mark_yes z e =
      let yes = ladder_yes task limit (lengths_of w) a _ (number_is ∙ z) in
      let here : b ≡ filled task w a =
      left_is ∙ ap (λ (m : ℕ). run_left m task w a) z ∙ left_none (filled task w a) (all_cleared a) a in
      let found = searched_is task w (after_runs.after_run task w b (ran_filled task limit w a yes.1 here)) list yes.0 in
      ap₂ outcome (ap accepted (e ∙ found) ∙ sym (unless_none r (verdict task w list) z)) left_is ∙ sym (marks task limit w a list number_is)

-- the same of both at once, by what `run_asked` answers and leaves
module _ (task : Task) (limit : ℕ) (w : WordLists) (a : Areas) (list : List Expectation) where
  abbrev ran_asked : Asked
  ran_asked = asked_of task limit w a (leb (nets_needed list) (nets_in task))

  abbrev found_in : Areas → Verdict
  found_in b = searched b.plan.directory b.plan.times b.values list

  pub mark_by : mark_of task limit w a list ≡ outcome (unless ran_asked.number (found_in ran_asked.left)) ran_asked.left
  mark_by = go ran_asked.number refl
    where
      go : (n : ℕ) → ran_asked.number ≡ n → mark_of task limit w a list ≡ outcome (unless ran_asked.number (found_in ran_asked.left)) ran_asked.left
      go zero z = sym (ap (λ (r : Answer Verdict). outcome r ran_asked.left) (unless_none ran_asked.number (found_in ran_asked.left) z) ∙ mark_yes task limit w a list refl refl z refl)
      go (suc n) z = sym (ap (λ (r : Answer Verdict). outcome r ran_asked.left) (unless_some ran_asked.number (found_in ran_asked.left) (λ e. omega (arith, e, z))) ∙ mark_no task limit w a list refl refl (λ e. omega (arith, e, z)))

pub unless_accepted : (v : Verdict) → unless 0 v ≡ accepted v
unless_accepted v = unless_none 0 v refl

pub unless_refused : (q : Refusal) (v : Verdict) → unless (number_of q) v ≡ refused (number_of q)
unless_refused q v = unless_some (number_of q) v (some_number q)
