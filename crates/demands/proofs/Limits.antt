-- Within its limit a call is that of 2,048: of its questions 22 alone takes the limit, and what passes 22 with a limit
-- passes it with 2,048.
-- Assumes nothing.
use Prim.Native.Nat.{ℕ}
use mathlib.Core.Path.{◌≡◌, refl, sym, ap, ◌∙◌}
use mathlib.Core.Bool.{true}
use mathlib.Core.List.{List, [], ◌∷◌, ◌++◌, append_assoc}
use lib.ListN.{length}
use Rattle.lists.specs.Ladder.{Question, ◌or_else◌, first_no, unless}
use Rattle.lists.specs.Outcome.{Outcome, outcome, left_by, left_unless}
use Rattle.lists.proofs.Ladders.{is_number, numbered, each_append, first, first_none, first_no_append, accepted_none, unless_none}
use Rattle.method.specs.Changes.{changes_suit}
use Rattle.method.specs.Frames.{Frames}
use Rattle.method.specs.Limits.{most_total_frames}
use Rattle.method.specs.Layout.{laid}
use Rattle.method.specs.Sums.{fits, limited, totals_of}
use Rattle.method.specs.Areas as plan
use Rattle.method.specs.WordLists.{WordLists, lengths_of, words_suit}
use Rattle.circuit.specs.File.{inputs_of}
use Rattle.circuit.specs.Questions as reader
use Rattle.circuit.specs.Task.{Task, nets_in, frames_in}
use Rattle.circuit.proofs.Present.{questions_numbered}
use Rattle.limiting.specs.Questions.{last_questions}
use Rattle.limiting.proofs.Last.{last_yes, last_none, limit_within, within_limited, full_limited}
use Rattle.planner.specs.Questions as planner
use Rattle.planner.specs.Plan.{plan_of}
use Rattle.engine.specs.Areas.{Areas}
use Rattle.engine.specs.Questions as engine
use Rattle.engine.specs.Run.{filled, run_left, run_of}
use Rattle.engine.specs.After.{level_in, count_in}
use Rattle.engine.proofs.Answering.{first_numbered}
use Rattle.sizes.specs.Sizes.{size_questions, size_of}
use Rattle.sizes.specs.Fitted.{just_fits, fitted_questions, fitted_of}
use Rattle.expectations.specs.declared.Expectation.{Expectation}
use Rattle.expectations.specs.Suits.{list_suits}
use Rattle.marking.specs.Questions as marking
use Rattle.marking.specs.Mark.{verdict, mark_of}
use Rattle.demands.specs.Limits.{Accepts, AsFullCourse, no_areas, SameLevels, OneEngine}

-- ---- a ladder that asks 13 and 22 behind some questions and ahead of others

module _ {R S : Type 0} (qs rest : List Question) (right : numbered qs ≡ true) (fs : List Frames) (number : ℕ → ℕ)
    (splits : (l : ℕ) → number l ≡ first_no (qs ++ (last_questions l fs ++ rest))) (values : R) (left : ℕ → S) where
  abbrev call : ℕ → Outcome R S
  call l = outcome (unless (number l) values) (left (number l))

  parted : (l : ℕ) → number l ≡ first (first_no qs) (first (first_no (last_questions l fs)) (first_no rest))
  parted l = splits l ∙ first_no_append qs (last_questions l fs ++ rest) right ∙ ap (first (first_no qs)) (first_no_append (last_questions l fs) rest refl)

  module _ (limit : ℕ) where
    accepts_none : Accepts (call limit) → number limit ≡ 0
    accepts_none y = (accepted_none (number limit) values y.answers).0

    none_accepts : number limit ≡ 0 → Accepts (call limit)
    none_accepts e = record { values = values; answers = unless_none (number limit) values e }

    asked_all : number limit ≡ 0 → (first_no qs ≡ 0) × (first_no rest ≡ 0) × (fits fs ≡ true) × (limited limit fs ≡ true)
    asked_all e =
        let p = first_none (first_no qs) (first (first_no (last_questions limit fs)) (first_no rest)) (sym (parted limit) ∙ e) in
        let q = first_none (first_no (last_questions limit fs)) (first_no rest) p.1 in
        let l = last_none limit fs q.0 in
        (p.0, q.1, l.0, l.1)

    all_asked : first_no qs ≡ 0 → first_no rest ≡ 0 → fits fs ≡ true → limited limit fs ≡ true → number limit ≡ 0
    all_asked e f y z = parted limit ∙ rw (e, last_yes limit fs y z) f

  full_none : (limit : ℕ) → number limit ≡ 0 → number most_total_frames ≡ 0
  full_none limit e = let p = asked_all limit e in all_asked most_total_frames p.0 p.1 p.2 (full_limited fs p.2)

  within : (limit : ℕ) → AsFullCourse fs call limit
  within limit =
      record {
        same = λ y.
            let e = accepts_none limit y in
            ap (λ (n : ℕ). outcome (unless n values) (left n)) (e ∙ sym (full_none limit e));
        only_if = λ y.
            let e = accepts_none limit y in
            let l = limit_within limit fs (asked_all limit e).3 in
            (l.0, l.1, none_accepts most_total_frames (full_none limit e), l.2);
        whenever = λ least most y total.
            let p = asked_all most_total_frames (accepts_none most_total_frames y) in
            none_accepts limit (all_asked limit p.0 p.1 p.2 (within_limited limit fs least most total));
      }

-- ---- Plan, Run, Size, the fitted Run and Mark

plan_within : (task : Task) (limit : ℕ) (a : plan.Areas) → AsFullCourse (frames_in task) (λ (l : ℕ). plan_of task l a) limit
unfolding plan_of planner.questions
plan_within task limit a =
    let own : List Question = (planner.areas_suit a or_else 10) ∷ (changes_suit (inputs_of task.file) task.schedule or_else 20) ∷ [] in
    within (reader.questions task.file ++ own) [] (each_append is_number (reader.questions task.file) own (questions_numbered task.file) refl) (frames_in task) (λ (l : ℕ). first_no (planner.questions task l a))
    (λ l. ap first_no (sym (append_assoc (reader.questions task.file) own (last_questions l (frames_in task))))) (totals_of (frames_in task)) (λ (n : ℕ). left_by n (laid (frames_in task) a) (plan.all_cleared a) a) limit

run_within : (task : Task) (limit : ℕ) (w : WordLists) (a : Areas) → AsFullCourse (frames_in task) (λ (l : ℕ). run_of task l w a) limit
unfolding run_of engine.questions
run_within task limit w a =
    within (engine.first_questions task (lengths_of w) a) [] (first_numbered task (lengths_of w) a) (frames_in task) (λ (l : ℕ). first_no (engine.questions task l (lengths_of w) a)) (λ l. refl) (totals_of (frames_in task))
    (λ (n : ℕ). run_left n task w a) limit

mark_within : (task : Task) (limit : ℕ) (w : WordLists) (a : Areas) (list : List Expectation) → AsFullCourse (frames_in task) (λ (l : ℕ). mark_of task l w a list) limit
unfolding mark_of marking.asked_with
mark_within task limit w a list =
    let first : List Question = engine.first_questions task (lengths_of w) a in
    let own : List Question = (list_suits (nets_in task) list or_else 12) ∷ [] in
    within (first ++ own) [] (each_append is_number first own (first_numbered task (lengths_of w) a) refl) (frames_in task) (λ (l : ℕ). first_no (marking.questions task l (lengths_of w) a list))
    (λ l. ap first_no (sym (append_assoc first own (last_questions l (frames_in task))))) (verdict task w list) (λ (n : ℕ). run_left n task w a) limit

size_within : (task : Task) (limit : ℕ) → AsFullCourse (frames_in task) (λ (l : ℕ). outcome (size_of task l) no_areas) limit
unfolding size_of size_questions
size_within task limit =
    let own : List Question = (changes_suit (inputs_of task.file) task.schedule or_else 20) ∷ [] in
    within (reader.questions task.file ++ own) [] (each_append is_number (reader.questions task.file) own (questions_numbered task.file) refl) (frames_in task) (λ (l : ℕ). first_no (size_questions task l))
    (λ l. ap first_no (sym (append_assoc (reader.questions task.file) own (last_questions l (frames_in task))))) (totals_of (frames_in task)) (λ (n : ℕ). no_areas) limit

fitted_within : (task : Task) (limit : ℕ) (w : WordLists) (a : Areas) → AsFullCourse (frames_in task) (λ (l : ℕ). fitted_of task l w a) limit
unfolding fitted_of fitted_questions
fitted_within task limit w a =
    let own : List Question = (words_suit (inputs_of task.file) (length task.schedule.times) (lengths_of w) or_else 11) ∷ (changes_suit (inputs_of task.file) task.schedule or_else 20) ∷ [] in
    let rest : List Question = (just_fits task a or_else 10) ∷ [] in
    within (reader.questions task.file ++ own) rest (each_append is_number (reader.questions task.file) own (questions_numbered task.file) refl) (frames_in task) (λ (l : ℕ). first_no (fitted_questions task l (lengths_of w) a))
    (λ l. ap first_no (sym (append_assoc (reader.questions task.file) own (last_questions l (frames_in task) ++ rest)))) (totals_of (frames_in task)) (λ (n : ℕ). left_unless n (filled task w a) a) limit

same_levels : {a a' : Areas} → a ≡ a' → SameLevels a a'
same_levels e = record { level = λ n L t. ap (λ (x : Areas). level_in x n L t) e; count = λ n L. ap (λ (x : Areas). count_in x n L) e }

left_same : {R : Type 0} {o o' : Outcome R Areas} → o ≡ o' → SameLevels o.left o'.left
left_same {R} e = same_levels (ap (λ (o : Outcome R Areas). o.left) e)

pub one_engine : OneEngine
one_engine =
    record {
      plan = plan_within;
      run = run_within;
      mark = mark_within;
      size = size_within;
      fitted = fitted_within;
      fitted_levels = λ task limit w a y. left_same ((fitted_within task limit w a).same y);
      run_levels = λ task limit w a y. left_same ((run_within task limit w a).same y);
      mark_levels = λ task limit w a list y. left_same ((mark_within task limit w a list).same y);
    }
