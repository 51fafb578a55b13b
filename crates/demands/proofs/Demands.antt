-- The conditions of purchase, as `specs/Demands` states them, proved.
-- Assumes nothing.
use Prim.Native.Nat.{ℕ, suc}
use mathlib.Core.Path.{◌≡◌, refl, sym, ap, ◌∙◌}
use mathlib.Core.Bool.{true}
use mathlib.Core.List.{List, map}
use lib.ListN.{length}
use Rattle.lists.specs.Ladder.{first_no}
use Rattle.lists.specs.Areas.{padded}
use Rattle.method.specs.Look.{changes}
use Rattle.method.specs.Words.{lane}
use Rattle.method.proofs.Changes.{suited}
use Rattle.method.proofs.Netwise.{net_by_net}
use Rattle.method.specs.WordLists.{WordLists, lengths_of}
use Rattle.circuit.specs.File.{inputs_of, circuit_of}
use Rattle.editions.specs.Questions as editions
use Rattle.circuit.specs.Questions as circuit
use Rattle.circuit.specs.Task.{Task, nets_in, frames_in}
use Rattle.circuit.proofs.Present.{questions_numbered}
use Rattle.editions.proofs.Faithful.{present_faithful}
use Rattle.circuit.proofs.Bounded.{no_feedback}
use Rattle.method.specs.Sums.{totals_of}
use Rattle.limiting.proofs.Last.{full_limited}
use Rattle.planner.specs.Plan.{plan_of}
use Rattle.planner.specs.Questions as planner
use Rattle.method.specs.Layout.{laid}
use Rattle.method.specs.Areas as plan
use Rattle.planner.proofs.Calling.{plan_numbered, accepted_timed, accepted_read, accepted_kept, accepted_lengths}
use Rattle.engine.specs.Areas.{Areas, all_cleared}
use Rattle.engine.specs.Questions as engine
use Rattle.engine.specs.Run.{filled, run_left, run_of}
use Rattle.looks.specs.Sight.{sight}
use Rattle.looks.specs.Look.{look_questions, level_of, count_of}
use Rattle.filing.specs.Filed.{filed_by}
use Rattle.converter.specs.Convert.{newer_questions, newer_file, newer_of, older_questions, older_file, older_of}
use Rattle.converter.proofs.Both.{newer_numbered, older_numbered}
use Rattle.engine.proofs.Answering.{all_numbered}
use Rattle.looks.proofs.Seeing.{look_numbered}
use Rattle.engine.proofs.Accepted.{left_suits}
use Rattle.engine.proofs.After.{after_runs, plan_left}
use Rattle.sizes.specs.Sizes.{size_questions, size_of}
use Rattle.sizes.specs.Fitted.{fitted_questions, fitted_of}
use Rattle.sizes.proofs.Sizing.{size_numbered}
use Rattle.sizes.proofs.Asking.{fitted_numbered}
use Rattle.sizes.proofs.Answering.{left_fits, fitted_patterns}
use Rattle.expectations.specs.declared.Expectation.{Expectation}
use Rattle.expectations.specs.Suits.{list_suits}
use Rattle.marking.specs.Questions as marking
use Rattle.expectations.specs.Verdict.{place}
use Rattle.marking.specs.Mark.{verdict, mark_of}
use Rattle.marking.proofs.Laddered.{ladder_numbered, ladder_run}
use Rattle.marking.proofs.Marked.{mark_ran}
use Rattle.demands.specs.Answers.{SameRefusal}
use Rattle.demands.specs.Demands.{Demand1, Demand2Method, Demand2Lengths, Demand2Patterns, Demand2Marking, Demand3Level, Demand3Changes, Demand3Alike, Demands}
use Rattle.demands.proofs.Deciding.{answered, leaves, leaves_unless, same_refusal}
use Rattle.demands.proofs.Holding.{held_ran, past_run, two_alike}
use Rattle.demands.proofs.Meeting.{passes, passes_machine, fails}
use Rattle.demands.proofs.Alike.{marked_alike}

-- ---- demand 1

-- Mark's first "no" is then Run's
mark_as_run : (task : Task) (limit : ℕ) (w : WordLists) (a : Areas) (list : List Expectation) → list_suits (nets_in task) list ≡ true → (mark_of task limit w a list).left ≡ (run_of task limit w a).left
unfolding mark_of run_of
mark_as_run task limit w a list y =
    ap (λ (n : ℕ). run_left n task w a) (ladder_run task limit (lengths_of w) a _ y)

demand_1 : Demand1
unfolding editions.read_of plan_of run_of size_of fitted_of mark_of level_of count_of newer_of older_of filed_by
demand_1 =
    record {
      read = λ file. answered (circuit.questions file) (questions_numbered file) (circuit.inputs_and_gates_of file);
      plan = λ task limit a. answered (planner.questions task limit a) (plan_numbered task limit a) (totals_of (frames_in task));
      plan_areas = λ task limit a. leaves (first_no (planner.questions task limit a)) (totals_of (frames_in task)) (laid (frames_in task) a) (plan.all_cleared a) a;
      run = λ task limit w a.
          answered (engine.questions task limit (lengths_of w) a) (all_numbered task (lengths_of w) a limit) (totals_of (frames_in task));
      run_areas = λ task limit w a.
          leaves (first_no (engine.questions task limit (lengths_of w) a)) (totals_of (frames_in task)) (filled task w a) (all_cleared a) a;
      size = λ task limit. answered (size_questions task limit) (size_numbered task limit) (totals_of (frames_in task));
      fitted = λ task limit w a.
          answered (fitted_questions task limit (lengths_of w) a) (fitted_numbered task limit (lengths_of w) a) (totals_of (frames_in task));
      fitted_areas = λ task limit w a. leaves_unless (first_no (fitted_questions task limit (lengths_of w) a)) (totals_of (frames_in task)) (filled task w a) a;
      mark = λ task limit w a list.
          answered (marking.questions task limit (lengths_of w) a list) (ladder_numbered task limit (lengths_of w) a _) (verdict task w list);
      mark_areas = λ task limit w a list.
          leaves (first_no (marking.questions task limit (lengths_of w) a list)) (verdict task w list) (filled task w a) (all_cleared a) a;
      mark_as_run = mark_as_run;
      level = λ times values L t. answered (look_questions times values L) (look_numbered times values L) (sight times (map (lane L) values) t);
      count = λ times values L. answered (look_questions times values L) (look_numbered times values L) (changes (map (lane L) values));
      newer = λ file area. answered (newer_questions file area) (newer_numbered file area) (length (newer_file file));
      newer_area = λ file area. leaves_unless (first_no (newer_questions file area)) (length (newer_file file)) (padded (length area) (newer_file file)) area;
      older = λ file area. answered (older_questions file area) (older_numbered file area) (length (older_file file));
      older_area = λ file area. leaves_unless (first_no (older_questions file area)) (length (older_file file)) (padded (length area) (older_file file)) area;
    }

-- ---- demand 2

demand_2_method : Demand2Method
unfolding editions.inputs_and_gates_of
demand_2_method =
    record {
      every_net = λ file s e. let nets = net_by_net (circuit_of file) in (nets.0, nets.1 (no_feedback (circuit_of file) (present_faithful.within file s e)));
      plan_read = λ task limit entry left totals e. accepted_read task limit entry e;
      run_read = λ task w left r. (held_ran task w r).read;
      plan_ordered = λ task limit entry left totals e. (suited (inputs_of task.file) task.schedule (accepted_timed task limit entry e)).ordered;
      run_ordered = λ task w left r. (suited (inputs_of task.file) task.schedule (held_ran task w r).timed).ordered;
      plan = λ task limit entry left totals e. accepted_kept task limit entry e;
      run_plan = λ task w left r. (held_ran task w r).plan_is;
      run_values = λ task w left r. (held_ran task w r).values_are;
      counts = λ task w left r. (past_run task w left r).count_is_own;
      counts_machine = λ task w left r. (past_run task w left r).count_is_machine;
    }

demand_2_lengths : Demand2Lengths
demand_2_lengths =
    record {
      plan = λ task limit entry left totals e. accepted_lengths task limit entry e;
      run = λ task w left r. left_suits task w r;
      fitted = λ task w left r. left_fits task w r;
      mark = λ task w list v left m. left_suits task w (mark_ran task m.limit w m.entry list m.marked);
    }

mark_patterns : (task : Task) (limit : ℕ) (w w' : WordLists) (a : Areas) (list : List Expectation) → lengths_of w ≡ lengths_of w'
    → SameRefusal (mark_of task limit w a list).answer (mark_of task limit w' a list).answer × ((mark_of task limit w a list).left.plan ≡ (mark_of task limit w' a list).left.plan)
unfolding mark_of
mark_patterns task limit w w' a list p = (
  rw p (same_refusal (first_no (marking.questions task limit (lengths_of w') a list)) (verdict task w list) (verdict task w' list)),
  plan_left _ task w a ∙ rw p (sym (plan_left _ task w' a)),
)

-- of the values Level and Count ask the length alone
same_questions : (times values values' : List ℕ) (L : ℕ) → length values ≡ length values' → first_no (look_questions times values L) ≡ first_no (look_questions times values' L)
unfolding look_questions
same_questions times values values' L e = rw e

demand_2_patterns : Demand2Patterns
unfolding level_of count_of
demand_2_patterns =
    record {
      run = after_runs.words_alike;
      fitted = fitted_patterns;
      mark = mark_patterns;
      level = λ times values values' L t e.
          rw (same_questions times values values' L e) (same_refusal (first_no (look_questions times values' L)) (sight times (map (lane L) values) t) (sight times (map (lane L) values') t));
      count = λ times values values' L e.
          rw (same_questions times values values' L e) (same_refusal (first_no (look_questions times values' L)) (changes (map (lane L) values)) (changes (map (lane L) values')));
    }

demand_2_marking : Demand2Marking
demand_2_marking =
    record {
      passes = passes;
      passes_machine = passes_machine;
      fails = λ task w list i k left m. fails task w list (place i k) left m i k refl;
    }

-- ---- demand 3

demand_3_level : Demand3Level
demand_3_level =
    record {
      level = λ task w left r n L t h l u. (past_run task w left r).level_is_machine n L t h l;
      parts = λ task w left r. (past_run task w left r).parts;
    }

demand_3_changes : Demand3Changes
demand_3_changes =
    record {
      changes = λ task w left r n L t h l u d.
          let a = past_run task w left r in sym (a.times_are_potential n (suc t) h) ∙ a.changes_at_times n L t h l d;
      times = λ task w left r. (past_run task w left r).times_are_potential;
    }

demand_3_alike : Demand3Alike
demand_3_alike =
    record {
      level = λ L task w left task' w' left' two n t h u. (two_alike L task w left task' w' left' two).same_level n t h;
      count = λ L task w left task' w' left' two. (two_alike L task w left task' w' left' two).same_count;
      marking = λ L task w left task' w' left' two.
          marked_alike task w task' w' L (held_ran task w two.ran) (held_ran task' w' two.ran') two.one_circuit two.one_schedule two.words_agree;
      some_limit = λ task w left r. full_limited (frames_in task) (held_ran task w r).fit;
    }

-- ---- all of them

pub demands : Demands
demands =
    record {
      demand_1 = demand_1;
      demand_2_method = demand_2_method;
      demand_2_lengths = demand_2_lengths;
      demand_2_patterns = demand_2_patterns;
      demand_2_marking = demand_2_marking;
      demand_3_level = demand_3_level;
      demand_3_changes = demand_3_changes;
      demand_3_alike = demand_3_alike;
    }
