-- With one change at 1 question 20 is answered yes and 11 asks for I after words, and with the limit 2,048 question 22 is
-- answered yes where 13 is; so each ladder has the same first "no". And frames, values and traces are those of the old
-- rules.
-- Assumes nothing.
use Prim.Native.Nat.{ℕ}
use mathlib.Core.Path.{◌≡◌, sym, ap, ap₂, fun_ext, ◌∙◌}
use mathlib.Core.Bool.{Bool, true}
use mathlib.Core.List.{List, [], ◌∷◌, ◌++◌, append_assoc}
use lib.ListN.{length, get_or, length-replicate}
use Rattle.lists.specs.Ladder.{Question, ◌or_else◌, first_no, unless}
use Rattle.lists.specs.Outcome.{outcome, left_by}
use Rattle.lists.specs.Areas.{padded}
use Rattle.lists.proofs.Ladders.{first_no_behind}
use Rattle.method.specs.Circuit.{Circuit}
use Rattle.method.specs.Changes.{changes_suit}
use Rattle.method.specs.Frames.{Frames, no_frames}
use Rattle.method.specs.Traces.{Trace, no_trace}
use Rattle.method.specs.Areas as plan
use Rattle.method.specs.Layout.{laid}
use Rattle.method.specs.Limits.{most_total_frames}
use Rattle.method.specs.Sums.{fits, totals_of}
use Rattle.limiting.specs.Questions.{last_questions}
use Rattle.limiting.proofs.Last.{full_last}
use Rattle.method.specs.WordLists.{WordLists, Lengths, lengths_of, words_suit}
use Rattle.method.specs.Once.{frames_once, words_suit_once, ones, OldRules}
use Rattle.method.proofs.Once.{old_rules, ones_once, ones_suit}
use Rattle.circuit.specs.File.{inputs_of, circuit_of}
use Rattle.circuit.specs.Questions as reader
use Rattle.circuit.specs.Task.{moments_in, nets_in, frames_in}
use Rattle.circuit.proofs.Parts.{circuit_inputs}
use Rattle.planner.specs.Questions as planner
use Rattle.planner.specs.Plan.{plan_of}
use Rattle.engine.specs.Areas.{Areas, all_cleared}
use Rattle.engine.specs.Questions as engine
use Rattle.engine.specs.Run.{filled, run_of}
use Rattle.expectations.specs.declared.Expectation.{Expectation}
use Rattle.expectations.specs.Suits.{list_suits}
use Rattle.expectations.specs.Verdict.{Verdict, verdict_from}
use Rattle.marking.specs.Questions as marking
use Rattle.marking.specs.Mark.{verdict, mark_of}
use Rattle.demands.specs.Once.{last_once, plan_questions, first_once, run_questions, mark_questions, plan_once, filled_once, run_once, verdict_once, mark_once, once_task, OldCalls}

-- ---- the questions: 20 is answered yes

-- a question of 20 that is answered yes changes no first "no"
passed : {x : Bool} → x ≡ true → (q : Question) (qs : List Question) → first_no (q ∷ (x or_else 20) ∷ qs) ≡ first_no (q ∷ qs)
unfolding first_no
passed e q qs = rw e

passed_later : {x : Bool} → x ≡ true → (q r : Question) (qs : List Question) → first_no (q ∷ r ∷ (x or_else 20) ∷ qs) ≡ first_no (q ∷ r ∷ qs)
unfolding first_no
passed_later e q r qs = rw e

module _ (file : List ℕ) where
  abbrev c : Circuit
  c = circuit_of file

  old : OldRules c (moments_in (once_task file))
  old = old_rules c (moments_in (once_task file)) (rw (circuit_inputs file) (ones_once (inputs_of file)))

  timed : changes_suit (inputs_of file) (ones (inputs_of file)) ≡ true
  timed = ones_suit (inputs_of file)

  frames_are : frames_in (once_task file) ≡ frames_once c
  frames_are = old.same_frames

  abbrev last : List Question
  last = last_questions most_total_frames (frames_in (once_task file))

  -- with the limit 2,048 question 22 is answered yes where 13 is
  last_is : first_no last ≡ first_no (last_once file)
  last_is = full_last (frames_in (once_task file)) ∙ ap (λ (fs : List Frames). first_no ((fits fs or_else 13) ∷ [])) frames_are

  words_are : (l : Lengths) → words_suit (inputs_of file) (length (ones (inputs_of file)).times) l ≡ words_suit_once (inputs_of file) l
  unfolding words_suit words_suit_once
  words_are l = rw (length-replicate {A = ℕ} (inputs_of file) 1)

  plan_number : (a : plan.Areas) → first_no (planner.questions (once_task file) most_total_frames a) ≡ first_no (plan_questions file a)
  unfolding planner.questions plan_questions
  plan_number a = first_no_behind (reader.questions file) _ _ (passed timed (planner.areas_suit a or_else 10) last ∙ first_no_behind ((planner.areas_suit a or_else 10) ∷ []) last (last_once file) last_is)

  -- Run's, with whatever follows
  first_number : (l : Lengths) (a : Areas) (qs : List Question) → first_no (engine.first_questions (once_task file) l a ++ qs) ≡ first_no (first_once file l a ++ qs)
  unfolding engine.first_questions first_once
  first_number l a qs =
      ap first_no (append_assoc (reader.questions file) _ qs)
      ∙ first_no_behind (reader.questions file) _ _ (passed_later timed (engine.areas_suit a or_else 10) (words_suit (inputs_of file) (length (ones (inputs_of file)).times) l or_else 11) qs
      ∙ ap (λ (b : Bool). first_no ((engine.areas_suit a or_else 10) ∷ (b or_else 11) ∷ qs)) (words_are l))
      ∙ sym (ap first_no (append_assoc (reader.questions file) _ qs))

  run_number : (l : Lengths) (a : Areas) → first_no (engine.questions (once_task file) most_total_frames l a) ≡ first_no (run_questions file l a)
  unfolding engine.questions run_questions
  run_number l a = first_no_behind (engine.first_questions (once_task file) l a) last (last_once file) last_is ∙ first_number l a (last_once file)

  mark_number : (l : Lengths) (a : Areas) (list : List Expectation) → first_no (marking.questions (once_task file) most_total_frames l a list) ≡ first_no (mark_questions file l a list)
  unfolding marking.asked_with mark_questions
  mark_number l a list =
      let suit : Bool = list_suits (nets_in (once_task file)) list in
      first_no_behind (engine.first_questions (once_task file) l a) ((suit or_else 12) ∷ last) ((suit or_else 12) ∷ last_once file)
      (first_no_behind ((suit or_else 12) ∷ []) last (last_once file) last_is)
      ∙ first_number l a ((suit or_else 12) ∷ last_once file)

  -- ---- the calls

  plan_is : (a : plan.Areas) → plan_of (once_task file) most_total_frames a ≡ plan_once file a
  unfolding plan_of plan_once
  plan_is a =
      ap₂ (λ (n : ℕ) (fs : List Frames). outcome (unless n (totals_of fs)) (left_by n (laid fs a) (plan.all_cleared a) a)) (plan_number a) frames_are

  filled_is : (w : WordLists) (a : Areas) → filled (once_task file) w a ≡ filled_once file w a
  unfolding filled filled_once
  filled_is w a =
      ap₂ (λ (fs : List Frames) (vs : List ℕ). record { plan = laid fs a.plan; values = padded (length a.values) vs }) frames_are (old.same_values w)

  run_is : (w : WordLists) (a : Areas) → run_of (once_task file) most_total_frames w a ≡ run_once file w a
  unfolding run_of run_once
  run_is w a =
      ap₂ (λ (n : ℕ) (fs : List Frames). outcome (unless n (totals_of fs)) (left_by n (filled (once_task file) w a) (all_cleared a) a)) (run_number (lengths_of w) a) frames_are
      ∙ ap (λ (x : Areas). outcome (unless (first_no (run_questions file (lengths_of w) a)) (totals_of (frames_once c))) (left_by (first_no (run_questions file (lengths_of w) a)) x (all_cleared a) a)) (filled_is w a)

  verdict_is : (w : WordLists) (list : List Expectation) → verdict (once_task file) w list ≡ verdict_once file w list
  unfolding verdict verdict_once
  verdict_is w list =
      ap₂ (λ (fs : List Frames) (ts : ℕ → List Trace). verdict_from (λ (n : ℕ). (get_or fs n no_frames).times) (λ (L n : ℕ). (get_or (ts L) n no_trace).values) 0 list) frames_are
      (fun_ext (λ L. old.same_traces w L))

  mark_is : (w : WordLists) (a : Areas) (list : List Expectation) → mark_of (once_task file) most_total_frames w a list ≡ mark_once file w a list
  unfolding mark_of mark_once
  mark_is w a list =
      ap₂ (λ (n : ℕ) (v : Verdict). outcome (unless n v) (left_by n (filled (once_task file) w a) (all_cleared a) a)) (mark_number (lengths_of w) a list) (verdict_is w list)
      ∙ ap (λ (x : Areas). outcome (unless (first_no (mark_questions file (lengths_of w) a list)) (verdict_once file w list)) (left_by (first_no (mark_questions file (lengths_of w) a list)) x (all_cleared a) a)) (filled_is w a)

pub old_calls : OldCalls
old_calls = record { plan = plan_is; run = run_is; mark = mark_is; machine = λ file w L n. (old file).same_machine w L n }
