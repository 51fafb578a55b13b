-- What the charge call answers where a question fails, and where none does: then the areas hold the run, and the sum over them is that
-- over the lane's own values. An accepted call leaves what an accepted Run leaves.
-- Assumes nothing.
use Prim.Native.Nat.{ℕ, zero, suc, ◌≤◌, ◌<◌}
use mathlib.Core.Path.{◌≡◌, refl, sym, ap, ap₂, ◌∙◌}
use mathlib.Core.Bool.{Bool, true}
use mathlib.Core.List.{List, map}
use native.Mathlib.Omega.{arith}
use lib.Dec.{eqb, ltb}
use lib.Ieee.{Float}
use lib.ListN.{length}
use borrow.Author.Tests.{le-leb, ltb-true, eqb-true}
use Rattle.lists.specs.Ladder.{Answer, accepted, first_no, unless}
use Rattle.lists.specs.Outcome.{Outcome, outcome}
use Rattle.lists.proofs.Choices.{and_left}
use Rattle.lists.proofs.Ladders.{unless_none, unless_some}
use Rattle.lists.proofs.Leaving.{left_none, accepted_left}
use Rattle.method.specs.declared.Totals.{Totals}
use Rattle.method.specs.Sums.{totals_of}
use Rattle.method.specs.Words.{lanes, lane}
use Rattle.method.specs.WordLists.{WordLists, Lengths, lengths_of}
use Rattle.method.proofs.Lanes.{in_lanes}
use Rattle.circuit.specs.Task.{Task, circuit_in, moments_in, nets_in, frames_in, lane_values}
use Rattle.engine.specs.Areas.{Areas, all_cleared}
use Rattle.engine.specs.Questions.{first_questions}
use Rattle.engine.specs.Questions as engine
use Rattle.engine.specs.Run.{filled, run_left, run_of}
use Rattle.engine.specs.After.{After, LeftByRun}
use Rattle.engine.proofs.Asking.{few_nets}
use Rattle.engine.proofs.Accepted.{ran_filled, parts}
use Rattle.engine.proofs.After.{after_runs}
use Rattle.charge_loads.specs.declared.Load.{Load}
use Rattle.charge_loads.specs.Suits.{nought, loads_suit, all_suit}
use Rattle.charge_loads.specs.Charges.{added, drawn_by_nets}
use Rattle.charge_loads.specs.Steps.{nets_loaded, net_part, parts_in}
use Rattle.charge_loads.proofs.Listed.{suits_by_count}
use Rattle.charge_loads.proofs.Counted.{charges_ext}
use Rattle.charge.specs.Questions.{asked_with, questions}
use Rattle.charge.specs.Charge.{Charge, drawn_in, charge_of}
use Rattle.charge.specs.Steps.{ran_of, charging}
use Rattle.charge.proofs.Laddered.{ladder_early, ladder_yes}

-- ---- question 21 by the nets that the list suits: where the questions before are answered yes, a circuit has few nets

count_asked : (task : Task) (l : Lengths) (a : Areas) → first_no (first_questions task l a) ≡ 0 → (loads : List Load) → eqb (nets_loaded loads) (nets_in task) ≡ loads_suit (nets_in task) loads
count_asked task l a e loads = suits_by_count loads (nets_in task) (omega (arith, few_nets task l a e))

-- and where one of them is not, it does not matter
same_ladder : (task : Task) (limit : ℕ) (l : Lengths) (a : Areas) (loads : List Load) (L : ℕ)
    → first_no (asked_with task limit l a (ltb L lanes) (eqb (nets_loaded loads) (nets_in task))) ≡ first_no (questions task limit l a loads L)
same_ladder task limit l a loads L = go (first_no (first_questions task l a)) refl
  where
    go : (n : ℕ) → first_no (first_questions task l a) ≡ n → first_no (asked_with task limit l a (ltb L lanes) (eqb (nets_loaded loads) (nets_in task))) ≡ first_no (questions task limit l a loads L)
    go zero e = ap (λ (b : Bool). first_no (asked_with task limit l a (ltb L lanes) b)) (count_asked task l a e loads)
    go (suc n) e =
        let some : first_no (first_questions task l a) ≡ 0 → ⊥ = λ z. omega (arith, e) in
        ladder_early task limit l a (ltb L lanes) (eqb (nets_loaded loads) (nets_in task)) some ∙ sym (ladder_early task limit l a (ltb L lanes) (loads_suit (nets_in task) loads) some)

loads_each : (nets : ℕ) (loads : List Load) → loads_suit nets loads ≡ true → length loads ≡ nets
unfolding loads_suit
loads_each nets loads e = eqb-true (length loads) nets (and_left (eqb (length loads) nets) (all_suit loads) e)

-- ---- after a run the sum over the areas is that over the lane's own values

module _ (task : Task) (w : WordLists) (b : Areas) (ran : After task w b) (L : ℕ) (l : L < lanes) (few : nets_in task ≤ 160) where
  levels_are : (n : ℕ) → n < nets_in task → parts_in b.plan.directory b.values L n ≡ lane_values task w L n
  unfolding net_part
  levels_are n h =
      rw (le-leb n 65535 (omega arith)) (ap (map (lane L)) (ran.values_are n h) ∙ in_lanes.own_values (circuit_in task) (moments_in task) w L l n)

  total_is : (loads : List Load) → length loads ≡ nets_in task → drawn_by_nets (parts_in b.plan.directory b.values L) loads ≡ drawn_in task w L loads
  unfolding drawn_by_nets drawn_in
  total_is loads e = ap (λ (qs : List Float). added qs nought) (charges_ext (parts_in b.plan.directory b.values L) (lane_values task w L) 0 loads (λ k x y. levels_are k (omega (arith, e))))

-- ---- what `charge` answers: the list suits `loaded` nets, `run_asked` answers x and leaves b, and the sum over the areas is `total`

module _ (task : Task) (limit : ℕ) (w : WordLists) (a b : Areas) (loads : List Load) (L : ℕ) {loaded : ℕ} (all : loaded ≡ nets_loaded loads)
    {x : Answer Totals} (ran : outcome x b ≡ ran_of task limit w a (ltb L lanes) (eqb loaded (nets_in task)))
    {total : Float} (sum : total ≡ drawn_by_nets (parts_in b.plan.directory b.values L) loads) where
  abbrev no : ℕ
  no = first_no (questions task limit (lengths_of w) a loads L)

  abbrev drawn : Charge
  drawn = record { totals = totals_of (frames_in task); charge = drawn_in task w L loads }

  ran_is : outcome x b ≡ outcome (unless no (totals_of (frames_in task))) (run_left no task w a)
  unfolding ran_of
  ran_is = ran ∙ ap (λ (m : ℕ). outcome (unless m (totals_of (frames_in task))) (run_left m task w a)) (ap (λ (m : ℕ). first_no (asked_with task limit (lengths_of w) a (ltb L lanes) (eqb m (nets_in task)))) all ∙ same_ladder task limit (lengths_of w) a loads L)

  answer_is : x ≡ unless no (totals_of (frames_in task))
  answer_is = ap (λ (o : Outcome Totals Areas). o.answer) ran_is

  left_is : b ≡ run_left no task w a
  left_is = ap (λ (o : Outcome Totals Areas). o.left) ran_is

  goes : (n : ℕ) → no ≡ n → charging x total ≡ unless no drawn
  unfolding charging
  goes zero e =
      let yes = ladder_yes task limit (lengths_of w) a _ _ e in
      let here : b ≡ filled task w a = left_is ∙ ap (λ (m : ℕ). run_left m task w a) e ∙ left_none (filled task w a) (all_cleared a) a in
      let after = after_runs.after_run task w b (ran_filled task limit w a yes.2 here) in
      let few = few_nets task (lengths_of w) a (parts task limit (lengths_of w) a yes.2).0 in
      ap (λ (o : Answer Totals). charging o total) (answer_is ∙ unless_none no (totals_of (frames_in task)) e)
      ∙ ap (λ (q : Float). accepted (record { totals = totals_of (frames_in task); charge = q })) (sum ∙ total_is task w b after L (ltb-true L lanes yes.0) few loads (loads_each (nets_in task) loads yes.1))
      ∙ sym (unless_none no drawn e)
  goes (suc n) e =
      let some : no ≡ 0 → ⊥ = λ z. omega (arith, e) in
      ap (λ (o : Answer Totals). charging o total) (answer_is ∙ unless_some no (totals_of (frames_in task)) some) ∙ sym (unless_some no drawn some)

  pub charge_is : outcome (charging x total) b ≡ charge_of task limit w a loads L
  unfolding charge_of
  charge_is = ap₂ outcome (goes no refl) left_is

-- ---- an accepted call: no question fails, and it answers and leaves what Run does

module _ (task : Task) (limit : ℕ) (w : WordLists) (a : Areas) (loads : List Load) (L : ℕ) {v : Charge} {b : Areas} (e : outcome (accepted v) b ≡ charge_of task limit w a loads L) where
  accepts : (first_no (questions task limit (lengths_of w) a loads L) ≡ 0) × (record { totals = totals_of (frames_in task); charge = drawn_in task w L loads } ≡ v) × (b ≡ filled task w a)
  unfolding charge_of
  accepts =
      accepted_left (first_no (questions task limit (lengths_of w) a loads L)) (record { totals = totals_of (frames_in task); charge = drawn_in task w L loads }) (filled task w a) (all_cleared a) a e

  yes : (ltb L lanes ≡ true) × (loads_suit (nets_in task) loads ≡ true) × (first_no (engine.questions task limit (lengths_of w) a) ≡ 0)
  yes = ladder_yes task limit (lengths_of w) a _ _ accepts.0

  pub charge_lane : L < lanes
  charge_lane = ltb-true L lanes yes.0

  pub charge_loads_lem : length loads ≡ nets_in task
  charge_loads_lem = loads_each (nets_in task) loads yes.1

  pub charge_drawn : v.charge ≡ drawn_in task w L loads
  charge_drawn = sym (ap (λ (x : Charge). x.charge) accepts.1)

  pub charge_ran : LeftByRun task w b
  charge_ran = ran_filled task limit w a yes.2 accepts.2

  pub charge_as_run : run_of task limit w a ≡ outcome (accepted v.totals) b
  unfolding run_of
  charge_as_run =
      let z = yes.2 in
      ap₂ outcome (unless_none _ (totals_of (frames_in task)) z ∙ ap (λ (x : Charge). accepted x.totals) accepts.1)
      (ap (λ (m : ℕ). run_left m task w a) z ∙ left_none (filled task w a) (all_cleared a) a ∙ sym accepts.2)
