-- What Size and the fitted Run have in common with Plan and Run: `specs/Same`, proved.
-- Assumes nothing.
use Prim.Native.Nat.{ℕ, zero, suc, ◌*◌}
use mathlib.Core.Path.{◌≡◌, refl, sym, ap, ap₂, ◌∙◌}
use mathlib.Core.Bool.{true}
use mathlib.Core.List.{List, [], ◌∷◌, ◌++◌, append_assoc}
use native.Mathlib.Omega.{arith}
use lib.ListN.{length, take}
use Rattle.lists.specs.Ladder.{Question, ◌or_else◌, first_no, accepted, unless}
use Rattle.lists.specs.Outcome.{outcome}
use Rattle.lists.specs.Areas.{padded}
use Rattle.lists.proofs.Ladders.{first, first_no_append, first_no_behind, asked, ask_yes, all_asked, accepted_none, unless_none}
use Rattle.lists.proofs.Padding.{pad_front, pad_own}
use Rattle.method.specs.declared.Totals.{Totals}
use Rattle.method.specs.Changes.{changes_suit}
use Rattle.method.specs.Areas as planner
use Rattle.method.specs.Layout.{all_times, all_inertial, all_fanins, pairs, laid}
use Rattle.method.specs.Sums.{totals_of}
use Rattle.method.specs.WordLists.{WordLists, lengths_of, words_suit}
use Rattle.method.proofs.Laying.{pairs_length}
use Rattle.method.proofs.Parts.{nets_count, all_words}
use Rattle.circuit.specs.File.{inputs_of}
use Rattle.circuit.specs.Questions as reader
use Rattle.circuit.specs.Task.{Task, circuit_in, moments_in, nets_in, frames_in, all_packed_in}
use Rattle.circuit.proofs.Ahead.{own_none, file_read}
use Rattle.layout.proofs.Filling.{even_rows}
use Rattle.limiting.specs.Questions.{last_questions}
use Rattle.limiting.proofs.Last.{last_none}
use Rattle.planner.specs.Questions as plan
use Rattle.planner.specs.Plan.{plan_of}
use Rattle.engine.specs.Areas.{Areas, areas}
use Rattle.engine.specs.Questions as engine
use Rattle.engine.specs.Run.{filled, run_of}
use Rattle.engine.specs.After.{LeftByRun}
use Rattle.engine.proofs.Accepted.{left_totals, left_filled}
use Rattle.sizes.specs.Sizes.{size_questions, size_of}
use Rattle.sizes.specs.Fitted.{areas_fit, just_fits, fitted_questions, fitted_of}
use Rattle.sizes.specs.Same.{used_parts, SameSizes}
use Rattle.sizes.proofs.Asking.{Fits, fits_each, passed, passes}
use Rattle.sizes.proofs.Answering.{fitted_accepts}

-- ---- the answers

size_is_plan : (task : Task) (limit : ℕ) (a : planner.Areas) → plan.areas_suit a ≡ true → size_of task limit ≡ (plan_of task limit a).answer
unfolding size_of plan_of size_questions plan.questions
size_is_plan task limit a y =
    ap (λ (n : ℕ). unless n (totals_of (frames_in task)))
    (first_no_behind (reader.questions task.file) _ _ (sym (ask_yes (plan.areas_suit a) 10 ((changes_suit (inputs_of task.file) task.schedule or_else 20) ∷ last_questions limit (frames_in task)) y)))

first_nothing : (n : ℕ) → first n 0 ≡ n
first_nothing zero = refl
first_nothing (suc n) = refl

module _ (task : Task) (limit : ℕ) (w : WordLists) (a a' : Areas) (y : engine.areas_suit a ≡ true) (y' : just_fits task a' ≡ true) where
  abbrev last : List Question
  last = last_questions limit (frames_in task)

  -- 10, answered yes, is no "no" in front of the others or behind them
  ten_behind : first_no (last ++ ((just_fits task a' or_else 10) ∷ [])) ≡ first_no last
  ten_behind = first_no_append last ((just_fits task a' or_else 10) ∷ []) refl ∙ rw (ask_yes (just_fits task a') 10 [] y' ∙ all_asked) (first_nothing (first_no last))

  same_number : first_no (fitted_questions task limit (lengths_of w) a') ≡ first_no (engine.questions task limit (lengths_of w) a)
  unfolding fitted_questions engine.questions engine.first_questions
  same_number =
      let lists : List Question = (words_suit (inputs_of task.file) (length task.schedule.times) (lengths_of w) or_else 11) ∷ (changes_suit (inputs_of task.file) task.schedule or_else 20) ∷ [] in
      first_no_behind (reader.questions task.file) _ ((engine.areas_suit a or_else 10) ∷ (lists ++ last)) (first_no_behind lists _ last ten_behind ∙ sym (ask_yes (engine.areas_suit a) 10 (lists ++ last) y))
      ∙ sym (ap first_no (append_assoc (reader.questions task.file) ((engine.areas_suit a or_else 10) ∷ lists) last))

  fitted_is_run : (fitted_of task limit w a').answer ≡ (run_of task limit w a).answer
  unfolding fitted_of run_of
  fitted_is_run = ap (λ (n : ℕ). unless n (totals_of (frames_in task))) same_number

sized_fits : (task : Task) (limit : ℕ) (w : WordLists) (a : Areas) (t : Totals) → size_of task limit ≡ accepted t
    → words_suit (inputs_of task.file) (length task.schedule.times) (lengths_of w) ≡ true → areas_fit (nets_in task) t a ≡ true → (fitted_of task limit w a).answer ≡ accepted t
unfolding size_of size_questions fitted_of
sized_fits task limit w a t e words just =
    let own : List Question = (changes_suit (inputs_of task.file) task.schedule or_else 20) ∷ last_questions limit (frames_in task) in
    let p = accepted_none (first_no (reader.questions task.file ++ own)) (totals_of (frames_in task)) e in
    let c = asked (changes_suit (inputs_of task.file) task.schedule) 20 (last_questions limit (frames_in task)) (λ z. omega arith) (own_none task.file own p.0) in
    unless_none _ (totals_of (frames_in task)) (passes task limit (lengths_of w) a
    (record { read = file_read task.file own p.0; worded = words; timed = c.0; last = c.1; fit = (last_none limit (frames_in task) c.1).0; just = rw (← p.1) at just }))
    ∙ ap accepted p.1

-- ---- the areas

-- the front of a padded area, as long as what it holds, is that; and so is an area that is just as long
front_used : (n m k : ℕ) (xs : List ℕ) → length xs ≡ k → m ≡ k → padded m xs ≡ take k (padded n xs)
front_used n m k xs e f = ap (λ (j : ℕ). padded j xs) (f ∙ sym e) ∙ pad_own xs ∙ sym (ap (λ (j : ℕ). take j (padded n xs)) (sym e) ∙ pad_front n xs)

areas_ext : {d d' t t' i i' f f' v v' : List ℕ} → d ≡ d' → t ≡ t' → i ≡ i' → f ≡ f' → v ≡ v' → areas d t i f v ≡ areas d' t' i' f' v'
areas_ext p q r s u = rw (p, q, r, s, u)

module _ (task : Task) (w : WordLists) (a a' : Areas) (y : just_fits task a' ≡ true) (even : length (all_inertial (frames_in task)) ≡ length (all_times (frames_in task))) where
  each : Fits (nets_in task) (totals_of (frames_in task)) a'
  each = fits_each (nets_in task) (totals_of (frames_in task)) a' y

  nets_paired : length (pairs 0 (frames_in task)) ≡ 2 * nets_in task
  nets_paired = pairs_length 0 (frames_in task) ∙ ap (λ (n : ℕ). 2 * n) (nets_count (circuit_in task) (moments_in task))

  filled_used : filled task w a' ≡ used_parts (nets_in task) (totals_of (frames_in task)) (filled task w a)
  unfolding filled laid used_parts totals_of
  filled_used =
      areas_ext (front_used (length a.plan.directory) (length a'.plan.directory) (2 * nets_in task) (pairs 0 (frames_in task)) nets_paired each.directory)
      (front_used (length a.plan.times) (length a'.plan.times) _ (all_times (frames_in task)) refl each.times)
      (front_used (length a.plan.inertial) (length a'.plan.inertial) _ (all_inertial (frames_in task)) even each.inertial)
      (front_used (length a.plan.fanins) (length a'.plan.fanins) _ (all_fanins (frames_in task)) refl each.fanins)
      (front_used (length a.values) (length a'.values) _ (all_packed_in task w) (all_words (circuit_in task) (moments_in task) w) each.values)

used_parts_lem : (task : Task) (limit limit' : ℕ) (w : WordLists) (entry entry' left left' : Areas) (t t' : Totals) → outcome (accepted t) left ≡ run_of task limit w entry
    → outcome (accepted t') left' ≡ fitted_of task limit' w entry' → (t ≡ t') × (left' ≡ used_parts (nets_in task) t left)
used_parts_lem task limit limit' w entry entry' left left' t t' e e' =
    let r : LeftByRun task w left = record { limit = limit; totals = t; entry = entry; ran = e } in
    let p = fitted_accepts task limit' w entry' e' in
    let y = passed task limit' (lengths_of w) entry' p.0 in
    (sym (left_totals task w r) ∙ p.1, p.2 ∙ filled_used task w entry entry' y.just (even_rows task y.read) ∙ ap₂ (used_parts (nets_in task)) (left_totals task w r) (sym (left_filled task w r)))

pub same_sizes : SameSizes
same_sizes = record { size_is_plan = size_is_plan; fitted_is_run = fitted_is_run; sized_fits = sized_fits; used_parts_lem = used_parts_lem }
