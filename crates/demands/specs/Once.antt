-- One change at 1 is the old stimulus: what request P5 leaves as it was. Plan, Run and Mark over the old rules, those of
-- `method/specs/Once`, with their questions as they were; and that with I counts of 1, I times of 1 and the limit 2,048 the
-- calls answer and leave the same, whatever is refused, and the machine is the old one. `old_calls` in `proofs/Once` proves
-- it.
use Rattle.std.specs.Prelude.{ℕ, ◌≡◌, List, [], ◌∷◌, ◌++◌, length}
use Rattle.lists.specs.Ladder.{Question, ◌or_else◌, first_no, unless}
use Rattle.lists.specs.Outcome.{Outcome, outcome, left_by}
use Rattle.lists.specs.Areas.{padded}
use Rattle.method.specs.declared.Totals.{Totals}
use Rattle.method.specs.Areas as plan
use Rattle.method.specs.Layout.{laid}
use Rattle.method.specs.Limits.{most_total_frames}
use Rattle.method.specs.Sums.{fits, totals_of}
use Rattle.method.specs.Values.{net_count}
use Rattle.method.specs.WordLists.{WordLists, Lengths, lengths_of}
use Rattle.method.specs.Once.{frames_once, times_once, lane_once, machine_once, pair_of, all_values_once, words_suit_once, ones}
use Rattle.circuit.specs.File.{inputs_of, circuit_of}
use Rattle.circuit.specs.Questions as reader
use Rattle.circuit.specs.Task.{Task, machine_in}
use Rattle.planner.specs.Questions as planner
use Rattle.planner.specs.Plan.{plan_of}
use Rattle.engine.specs.Areas.{Areas, all_cleared}
use Rattle.engine.specs.Questions as engine
use Rattle.engine.specs.Run.{run_of}
use Rattle.expectations.specs.declared.Expectation.{Expectation}
use Rattle.expectations.specs.Suits.{list_suits}
use Rattle.expectations.specs.Verdict.{Verdict, verdict_from}
use Rattle.marking.specs.Mark.{mark_of}

-- ---- the questions

module _ (file : List ℕ) where
  -- 13: Has every net at most 64 frames, and all nets together at most 2,048?
  abbrev pub last_once : List Question
  last_once = (fits (frames_once (circuit_of file)) or_else 13) ∷ []

  unfoldable pub plan_questions : plan.Areas → List Question
  plan_questions a = reader.questions file ++ ((planner.areas_suit a or_else 10) ∷ last_once)

  unfoldable pub first_once : Lengths → Areas → List Question
  first_once l a = reader.questions file ++ ((engine.areas_suit a or_else 10) ∷ (words_suit_once (inputs_of file) l or_else 11) ∷ [])

  unfoldable pub run_questions : Lengths → Areas → List Question
  run_questions l a = first_once l a ++ last_once

  unfoldable pub mark_questions : Lengths → Areas → List Expectation → List Question
  mark_questions l a list = first_once l a ++ ((list_suits (net_count (circuit_of file)) list or_else 12) ∷ last_once)

-- ---- the calls

module _ (file : List ℕ) where
  abbrev totals_once : Totals
  totals_once = totals_of (frames_once (circuit_of file))

  unfoldable pub plan_once : plan.Areas → Outcome Totals plan.Areas
  plan_once a =
      let n : ℕ = first_no (plan_questions file a) in
      outcome (unless n totals_once) (left_by n (laid (frames_once (circuit_of file)) a) (plan.all_cleared a) a)

  module _ (w : WordLists) where
    unfoldable pub filled_once : Areas → Areas
    filled_once a =
        record {
          plan = laid (frames_once (circuit_of file)) a.plan;
          values = padded (length a.values) (all_values_once (circuit_of file) w);
        }

    unfoldable pub run_once : Areas → Outcome Totals Areas
    run_once a =
        let n : ℕ = first_no (run_questions file (lengths_of w) a) in outcome (unless n totals_once) (left_by n (filled_once a) (all_cleared a) a)

    unfoldable pub verdict_once : List Expectation → Verdict
    verdict_once list = verdict_from (times_once (circuit_of file)) (lane_once (circuit_of file) w) 0 list

    unfoldable pub mark_once : Areas → List Expectation → Outcome Verdict Areas
    mark_once a list =
        let n : ℕ = first_no (mark_questions file (lengths_of w) a list) in
        outcome (unless n (verdict_once list)) (left_by n (filled_once a) (all_cleared a) a)

-- ---- are those with one change at 1

-- I counts of 1 and I times of 1
abbrev pub once_task : List ℕ → Task
once_task file = record { file = file; schedule = ones (inputs_of file) }

pub record OldCalls : Type 0 where
  pub plan : (file : List ℕ) (a : plan.Areas) → plan_of (once_task file) most_total_frames a ≡ plan_once file a
  pub run : (file : List ℕ) (w : WordLists) (a : Areas) → run_of (once_task file) most_total_frames w a ≡ run_once file w a
  pub mark : (file : List ℕ) (w : WordLists) (a : Areas) (list : List Expectation) → mark_of (once_task file) most_total_frames w a list ≡ mark_once file w a list
  pub machine : (file : List ℕ) (w : WordLists) (L n : ℕ) → machine_in (once_task file) w L n ≡ machine_once (circuit_of file) (pair_of L w) n
