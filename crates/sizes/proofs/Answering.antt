-- What the fitted Run answers and leaves: with a "no" nothing is written; else the areas, in which there is just room, are filled.
-- Assumes nothing.
use Prim.Native.Nat.{ℕ, ◌≤◌}
use mathlib.Core.Path.{◌≡◌, refl, sym, ap, ap₂, ◌∙◌}
use mathlib.Core.Bool.{Bool, true, false, cond}
use mathlib.Core.List.{List}
use native.Mathlib.Omega.{arith}
use lib.Dec.{eqb}
use lib.ListN.{length}
use borrow.Author.Tests.{ne_eqb}
use Rattle.lists.specs.Ladder.{first_no, Answer, accepted, refused}
use Rattle.lists.specs.Outcome.{Outcome, outcome, left_unless}
use Rattle.lists.specs.Areas.{cleared, padded}
use Rattle.lists.proofs.Ladders.{accepted_none, unless_some}
use Rattle.lists.proofs.Leaving.{left_none}
use Rattle.lists.proofs.Padding.{pad_length, pad_kept}
use Rattle.method.specs.declared.Totals.{Totals}
use Rattle.method.specs.Areas as plan
use Rattle.method.specs.First.{Room}
use Rattle.method.specs.Layout.{all_times, laid}
use Rattle.method.specs.Sums.{totals_of}
use Rattle.method.specs.WordLists.{WordLists, Lengths, lengths_of}
use Rattle.method.proofs.Fitting.{room_first}
use Rattle.method.proofs.Laying.{laid_lengths, laid_kept}
use Rattle.method.proofs.Parts.{nets_count, all_words}
use Rattle.circuit.specs.Task.{Task, circuit_in, moments_in, frames_in, all_packed_in}
use Rattle.circuit.proofs.Parts.{gates_length}
use Rattle.layout.proofs.Filling.{even_rows}
use Rattle.limiting.specs.Planned.{within_of}
use Rattle.simulation.specs.Simulated.{Ready, Simulated}
use Rattle.engine.specs.Areas.{Areas}
use Rattle.engine.specs.Run.{filled}
use Rattle.engine.proofs.Accepted.{Held, filled_plan, filled_values}
use Rattle.sizes.specs.Fitted.{areas_fit, just_fits, fitted_questions, fitted_of, LeftByFitted}
use Rattle.sizes.proofs.Asking.{Fits, fits_each, Passed, passed}
use Rattle.std.specs.Prelude.{Result}
use Rattle.method.specs.declared.Refusal.{Refusal}
use Rattle.method.specs.Refusals.{on_paper}

-- ---- there is room

module _ (task : Task) (a : Areas) (y : just_fits task a ≡ true) where
  each : Fits (length (frames_in task)) (totals_of (frames_in task)) a
  each = rw (nets_count (circuit_in task) (moments_in task)) (fits_each _ (totals_of (frames_in task)) a y)

  pub just_room : Room (frames_in task) a.plan
  unfolding totals_of
  just_room = record { directory = omega (arith, each.directory); times = omega (arith, each.times); inertial = omega (arith, each.inertial); fanins = omega (arith, each.fanins) }

  pub just_words : length (all_times (frames_in task)) ≡ length a.values
  unfolding totals_of
  just_words = sym each.values

module _ (task : Task) (limit : ℕ) (l : Lengths) (a : Areas) (e : first_no (fitted_questions task limit l a) ≡ 0) where
  yes : Passed task limit l a
  yes = passed task limit l a e

  -- so a run may follow
  pub ready : Ready task l a.plan a.values
  ready =
      record {
        given =
            record {
              read = yes.read;
              suits = yes.timed;
              room = λ j h fit. room_first (circuit_in task) (moments_in task) (just_room task a yes.just) j (omega (arith, gates_length task.file));
            };
        worded = yes.worded;
        words = λ fit. omega (arith, just_words task a yes.just);
      }

-- ---- what is answered and left

module _ (task : Task) (limit : ℕ) (w : WordLists) (a : Areas) where
  pub fitted_no : {n : ℕ} → n ≡ first_no (fitted_questions task limit (lengths_of w) a) → (n ≡ 0 → ⊥) → outcome (refused n) a ≡ fitted_of task limit w a
  unfolding fitted_of left_unless
  fitted_no {n} e some = sym (rw (← e, unless_some n (totals_of (frames_in task)) some, ne_eqb n 0 some))

  pub fitted_yes : first_no (fitted_questions task limit (lengths_of w) a) ≡ 0 → {r : Result Totals Refusal} {p : plan.Areas} {v : List ℕ} → Simulated task limit w a.plan a.values r p v
      → outcome (on_paper r) (record { plan = p; values = v }) ≡ fitted_of task limit w a
  unfolding within_of fitted_of left_unless filled
  fitted_yes e {r} {p} {v} s =
      let z = (passed task limit (lengths_of w) a e).last in
      let q = rw z at s.plan in
      let words = rw z at s.values in
      rw e
      (ap₂ (λ (x : Answer Totals) (y : Areas). outcome x y) (ap (λ (o : Outcome Totals plan.Areas). o.answer) q)
      (ap₂ (λ (x : plan.Areas) (y : List ℕ). record { plan = x; values = y })
      (ap (λ (o : Outcome Totals plan.Areas). o.left) q ∙ left_none (laid (frames_in task) a.plan) (plan.all_cleared a.plan) a.plan)
      (words ∙ left_none (padded (length a.values) (all_packed_in task w)) (cleared a.values) a.values)))

  -- an acceptance: no question was answered no, and the areas are filled
  pub fitted_accepts : {t : Totals} {left : Areas} → outcome (accepted t) left ≡ fitted_of task limit w a
      → (first_no (fitted_questions task limit (lengths_of w) a) ≡ 0) × (totals_of (frames_in task) ≡ t) × (left ≡ filled task w a)
  unfolding fitted_of left_unless
  fitted_accepts e =
      let p = accepted_none (first_no (fitted_questions task limit (lengths_of w) a)) (totals_of (frames_in task)) (sym (ap (λ (o : Outcome Totals Areas). o.answer) e)) in
      (p.0, p.1, ap (λ (o : Outcome Totals Areas). o.left) e ∙ rw p.0)

-- ---- what an accepted fitted Run leaves: the plan and the packed values, at the areas' own lengths

module _ (task : Task) (w : WordLists) {a : Areas} (r : LeftByFitted task w a) where
  accepts : (first_no (fitted_questions task r.limit (lengths_of w) r.entry) ≡ 0) × (totals_of (frames_in task) ≡ r.totals) × (a ≡ filled task w r.entry)
  accepts = fitted_accepts task r.limit w r.entry r.ran

  all_yes : Passed task r.limit (lengths_of w) r.entry
  all_yes = passed task r.limit (lengths_of w) r.entry accepts.0

  words_fit : length (all_packed_in task w) ≤ length r.entry.values
  words_fit = omega (arith, all_words (circuit_in task) (moments_in task) w, just_words task r.entry all_yes.just)

  pub held_fitted : Held task w a
  held_fitted =
      record {
        read = all_yes.read;
        timed = all_yes.timed;
        worded = all_yes.worded;
        fit = all_yes.fit;
        plan_is = laid_kept (frames_in task) (ap (λ (x : Areas). x.plan) accepts.2 ∙ filled_plan task w r.entry) (just_room task r.entry all_yes.just) (even_rows task all_yes.read);
        values_are = pad_kept (length r.entry.values) (all_packed_in task w) (ap (λ (x : Areas). x.values) accepts.2 ∙ filled_values task w r.entry) words_fit;
      }

  -- and they have the lengths of question 10
  plan_lengths : (length a.plan.directory ≡ length r.entry.plan.directory) × (length a.plan.times ≡ length r.entry.plan.times) × (length a.plan.inertial ≡ length r.entry.plan.inertial) × (length a.plan.fanins ≡ length r.entry.plan.fanins)
  plan_lengths = rw (ap (λ (x : Areas). x.plan) accepts.2 ∙ filled_plan task w r.entry) (laid_lengths (frames_in task) r.entry.plan (just_room task r.entry all_yes.just) (even_rows task all_yes.read))

  values_length_lem : length a.values ≡ length r.entry.values
  values_length_lem = ap length (ap (λ (x : Areas). x.values) accepts.2 ∙ filled_values task w r.entry) ∙ pad_length (length r.entry.values) (all_packed_in task w) words_fit

  pub left_fits : just_fits task a ≡ true
  unfolding areas_fit
  left_fits = rw (plan_lengths.0, plan_lengths.1, plan_lengths.2, plan_lengths.3, values_length_lem) all_yes.just

-- ---- of the words the questions take the lengths

fitted_plan : (n : ℕ) (task : Task) (w w' : WordLists) (a : Areas) → (left_unless n (filled task w a) a).plan ≡ (left_unless n (filled task w' a) a).plan
unfolding left_unless filled
fitted_plan n task w w' a = go (eqb n 0)
  where
    go : (none : Bool) → (cond none (filled task w a) a).plan ≡ (cond none (filled task w' a) a).plan
    go true = refl
    go false = refl

pub fitted_patterns : (task : Task) (limit : ℕ) (w w' : WordLists) (a : Areas) → lengths_of w ≡ lengths_of w'
    → ((fitted_of task limit w a).answer ≡ (fitted_of task limit w' a).answer) × ((fitted_of task limit w a).left.plan ≡ (fitted_of task limit w' a).left.plan)
unfolding fitted_of
fitted_patterns task limit w w' a p =
    (rw p, rw p (fitted_plan (first_no (fitted_questions task limit (lengths_of w') a)) task w w' a))
