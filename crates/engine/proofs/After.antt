-- What holds of the areas that an accepted Run leaves, since they hold the plan and the packed values: `specs/After`, proved.
-- Assumes nothing.
use Prim.Native.Nat.{ℕ, suc, ◌+◌, ◌≤◌, ◌<◌}
use mathlib.Core.Path.{◌≡◌, refl, sym, ap, ap₂, ◌∙◌}
use mathlib.Core.Logic.{◌≢◌}
use mathlib.Core.Bool.{Bool, true}
use mathlib.Core.List.{List, map}
use native.Mathlib.Omega.{arith}
use lib.ListN.{length, get_or}
use Rattle.lists.specs.Ladder.{first_no, accepted}
use Rattle.lists.specs.Outcome.{left_by}
use Rattle.lists.proofs.Ladders.{unless_none}
use Rattle.lists.proofs.Leaving.{left_part}
use Rattle.lists.proofs.Padding.{pad_least}
use Rattle.method.specs.Circuit.{Circuit}
use Rattle.method.specs.Stimulus.{Moments, Ordered}
use Rattle.method.specs.Changes.{Schedule, moments_from}
use Rattle.method.specs.Times.{among, start_and_rise}
use Rattle.method.specs.Frames.{frames, frames_at}
use Rattle.method.specs.Traces.{trace_at}
use Rattle.method.specs.Machine.{machine}
use Rattle.method.specs.Look.{changes}
use Rattle.method.specs.Words.{lanes, lane}
use Rattle.method.specs.Packed.{changes_before, lane_of, packed_values}
use Rattle.method.specs.Values.{all_values}
use Rattle.method.specs.Agreement.{changed_times}
use Rattle.method.specs.Lanes.{lane_level, lane_count, AgreeIn}
use Rattle.method.proofs.Rising.{Starts, test_starts}
use Rattle.method.proofs.Changes.{Suited, suited}
use Rattle.method.proofs.Netwise.{net_by_net}
use Rattle.method.proofs.Agreement.{agreement}
use Rattle.method.proofs.Lanes.{in_lanes, same_bits}
use Rattle.method.specs.WordLists.{WordLists, lengths_of, words_suit}
use Rattle.circuit.specs.File.{inputs_of}
use Rattle.circuit.specs.Task.{Task, circuit_in, moments_in, nets_in, frames_in}
use Rattle.circuit.proofs.Bounded.{time_small}
use Rattle.method.specs.Limits.{most_net_frames}
use Rattle.method.specs.Areas as areas
use Rattle.method.specs.Layout.{all_times, laid, first_frame, frame_count}
use Rattle.method.proofs.Fitting.{fits_total, fits_net}
use Rattle.method.proofs.Laying.{pair_first, pair_count, times_part, frames_end}
use Rattle.engine.specs.Areas.{Areas, all_cleared}
use Rattle.planner.specs.Plan.{plan_of}
use Rattle.engine.specs.Questions.{values_length}
use Rattle.engine.specs.Run.{run_left, run_of}
use Rattle.looks.specs.Sight.{sight, sight_at}
use Rattle.looks.specs.Look.{look_questions, level_of, level_part, count_of}
use Rattle.engine.specs.After.{SightHolds, NetParts, After, Alike, AfterRun, times_of, values_of, sight_in, level_in, frame_in, count_in, last_time}
use Rattle.looks.proofs.Seeing.{all_yes}
use Rattle.looks.proofs.Holding.{own_sight, holds}
use Rattle.engine.proofs.Answering.{plan_first}
use Rattle.engine.proofs.Accepted.{Held, held, filled_plan, agree_all}
use Rattle.method.proofs.Parts.{nets_count, word_each, all_words, words_part}
use Rattle.circuit.proofs.Parts.{circuit_within}

-- ---- a look at such parts is answered

module _ (times values : List ℕ) (L : ℕ) (same : length times ≡ length values) (some : 1 ≤ length times) (few : length times ≤ most_net_frames) (rise : start_and_rise times ≡ true) (h : L < lanes) where
  no_fault : first_no (look_questions times values L) ≡ 0
  no_fault = sym (all_yes times values L same (λ z. omega arith) few (sym rise) refl (omega arith))

  sight_answered : (t : ℕ) → level_of times values L t ≡ accepted (sight times (map (lane L) values) t)
  unfolding level_of
  sight_answered t = unless_none _ _ no_fault

  count_answered : count_of times values L ≡ accepted (changes (map (lane L) values))
  unfolding count_of
  count_answered = unless_none _ _ no_fault

-- ---- net n after an accepted run

module _ (task : Task) (w : WordLists) {a : Areas} (b : Held task w a) (n : ℕ) (h : n < nets_in task) where
  abbrev c : Circuit
  c = circuit_in task

  abbrev m : Moments
  m = moments_in task

  changes_are_timed : Suited (inputs_of task.file) task.schedule
  changes_are_timed = suited (inputs_of task.file) task.schedule b.timed

  ordered : Ordered m
  ordered = changes_are_timed.ordered

  there : n < length (frames c m)
  there = rw (nets_count c m) h

  pub frames_some : 1 ≤ length (frames_at c m n).times
  frames_some = omega (arith, (net_by_net c).0.index_within m ordered 0 n 0)

  pub frames_few : length (frames_at c m n).times ≤ most_net_frames
  frames_few = fits_net (frames c m) b.fit n

  count_is : frame_count a.plan.directory n ≡ length (frames_at c m n).times
  count_is = pair_count (frames c m) b.plan_is n there

  pub times_are : times_of a n ≡ (frames_at c m n).times
  times_are = times_part (frames c m) b.plan_is n there

  pub values_are : values_of a n ≡ packed_values c m w n
  values_are = words_part c m w b.plan_is n (length a.values) h b.values_are

  -- they lie within what all nets have, which the areas hold
  within_all : first_frame a.plan.directory n + frame_count a.plan.directory n ≤ length (all_times (frames c m))
  within_all = omega (arith, pair_first (frames c m) b.plan_is n there, count_is, frames_end (frames c m) n there)

  times_hold : length (all_times (frames c m)) ≤ length a.plan.times
  unfolding laid
  times_hold = rw (ap (λ (x : areas.Areas). x.times) b.plan_is) (pad_least (length a.plan.times) (all_times (frames c m)))

  values_hold : length (all_times (frames c m)) ≤ length a.values
  values_hold = omega (arith, all_words c m w, ap length b.values_are, pad_least (length a.values) (all_values c m w))

  net_parts : NetParts a n
  net_parts =
      record {
        some_frame = rw count_is frames_some;
        few_frames = rw count_is frames_few;
        inside = omega (arith, within_all, fits_total (frames c m) b.fit);
        in_times = omega (arith, within_all, times_hold);
        in_values = omega (arith, within_all, values_hold);
      }

  module _ (L : ℕ) (l : L < lanes) where
    -- the lane's bits of the net's words
    abbrev bits : List Bool
    bits = map (lane L) (packed_values c m w n)

    sight_lane : (t : ℕ) → sight_in a n L t ≡ accepted (sight (frames_at c m n).times bits t)
    sight_lane t =
        rw (times_are, values_are)
        (sight_answered (frames_at c m n).times (packed_values c m w n) L (sym (word_each c m w n)) frames_some frames_few (agreement.times_rise c m ordered n) l t)

    level_lane : (t : ℕ) → level_in a n L t ≡ accepted (lane_level L c m w n t)
    unfolding sight sight_at
    level_lane t = ap level_part (sight_lane t)

    starts : Starts (frames_at c m n).times
    starts = test_starts (frames_at c m n).times (agreement.times_rise c m ordered n)

    sight_holds : (t : ℕ) → SightHolds task w a n L t
    sight_holds t =
        record {
          seen = sight (frames_at c m n).times bits t;
          answers = sight_lane t;
          holds = holds (frames_at c m n).times starts bits (machine c (lane_of L m w) n) (in_lanes.level_is_machine c m ordered w L l n) t;
        }

    frame_is : (k : ℕ) → k < frame_count a.plan.directory n → sight_in a n L (get_or (times_of a n) k 0) ≡ accepted (frame_in a n L k)
    frame_is k l' = sight_lane (get_or (times_of a n) k 0) ∙ rw (times_are, values_are) (ap accepted (own_sight (frames_at c m n).times starts bits k (omega (arith, l', count_is))))

    count_lane : count_in a n L ≡ accepted (lane_count L c m w n)
    count_lane =
        rw (times_are, values_are)
        (count_answered (frames_at c m n).times (packed_values c m w n) L (sym (word_each c m w n)) frames_some frames_few (agreement.times_rise c m ordered n) l)

    count_own : count_in a n L ≡ accepted (changes (trace_at c (lane_of L m w) n).values)
    count_own = count_lane ∙ ap (λ (vs : List Bool). accepted (changes vs)) (in_lanes.own_values c m w L l n)

    level_is : (t : ℕ) → level_in a n L t ≡ accepted (machine c (lane_of L m w) n t)
    level_is t = level_lane t ∙ ap accepted (in_lanes.level_is_machine c m ordered w L l n t)

    changes_are : count_in a n L ≡ accepted (changed_times (machine c (lane_of L m w) n) last_time)
    changes_are =
        count_lane
        ∙ ap accepted (in_lanes.count_is_machine c m ordered w L l n last_time (λ t e. omega (arith, time_small c (circuit_within task.file b.read) m changes_are_timed.early n t h e)))

    only_at : (t : ℕ) → level_in a n L (suc t) ≢ level_in a n L t → among (suc t) (times_of a n) ≡ true
    only_at t d = rw times_are (in_lanes.changes_at_times c m ordered w L l n t (λ e. d (level_lane (suc t) ∙ ap accepted e ∙ sym (level_lane t))))

pub after_held : (task : Task) (w : WordLists) {a : Areas} → Held task w a → After task w a
after_held task w b =
    record {
      changes_suit_lem = b.timed;
      parts = net_parts task w b;
      count_is = count_is task w b;
      times_are = times_are task w b;
      values_are = values_are task w b;
      count_is_own = λ n L h l. count_own task w b n h L l;
      level_is_machine = λ n L t h l. level_is task w b n h L l t;
      sight_holds = λ n L t h l. sight_holds task w b n h L l t;
      frame_is_level = λ n L k h l m. frame_is task w b n h L l k m;
      count_is_machine = λ n L h l. changes_are task w b n h L l;
      changes_at_times = λ n L t h l d. only_at task w b n h L l t d;
      times_are_potential = λ n t h. rw (times_are task w b n h);
    }

-- ---- two runs

module _ (task task' : Task) (w w' : WordLists) {a a' : Areas} (L : ℕ) (l : L < lanes) (b : Held task w a) (b' : Held task' w' a') (same : circuit_in task ≡ circuit_in task')
    (one : task.schedule ≡ task'.schedule) (p : AgreeIn L (circuit_in task).inputs (length task.schedule.times) w w') (n : ℕ) (h : n < nets_in task) where
  abbrev agree : AgreeIn L (circuit_in task).inputs (changes_before (moments_in task) (circuit_in task).inputs) w w'
  agree = agree_all task w w' L b p

  same_sight : (t : ℕ) → sight_in a n L t ≡ sight_in a' n L t
  same_sight t =
      sight_lane task w b n h L l t
      ∙ ap (λ (levels : List Bool). accepted (sight (frames_at (circuit_in task) (moments_in task) n).times levels t)) (same_bits (circuit_in task) (moments_in task) w w' L agree n l)
      ∙ ap₂ (λ (c : Circuit) (s : Schedule). accepted (sight (frames_at c (moments_from s) n).times (map (lane L) (packed_values c (moments_from s) w' n)) t)) same one
      ∙ sym (sight_lane task' w' b' n (rw same at h) L l t)

  same_count : count_in a n L ≡ count_in a' n L
  same_count =
      count_lane task w b n h L l
      ∙ ap accepted (in_lanes.same_count (circuit_in task) (moments_in task) w w' L l agree n)
      ∙ ap₂ (λ (c : Circuit) (s : Schedule). accepted (lane_count L c (moments_from s) w' n)) same one
      ∙ sym (count_lane task' w' b' n (rw same at h) L l)

pub alike_held : (task task' : Task) (w w' : WordLists) {a a' : Areas} (L : ℕ) → L < lanes → Held task w a → Held task' w' a' → circuit_in task ≡ circuit_in task'
    → task.schedule ≡ task'.schedule → AgreeIn L (circuit_in task).inputs (length task.schedule.times) w w' → Alike task L a a'
alike_held task task' w w' L l b b' same one p =
    let sights = same_sight task task' w w' L l b b' same one p in
    record {
      same_sight = λ n t h. sights n h t;
      same_level = λ n t h. ap level_part (sights n h t);
      same_count = same_count task task' w w' L l b b' same one p;
    }

-- ---- what the words do not enter

cleared_plan : (a : Areas) → (all_cleared a).plan ≡ areas.all_cleared a.plan
unfolding all_cleared
cleared_plan a = refl

-- the plan areas are left as Plan leaves them
pub plan_left : (n : ℕ) (task : Task) (w : WordLists) (a : Areas) → (run_left n task w a).plan ≡ left_by n (laid (frames_in task) a.plan) (areas.all_cleared a.plan) a.plan
plan_left n task w a = left_part _ _ a (λ (x : Areas). x.plan) n ∙ rw (filled_plan task w a, cleared_plan a)

-- and of the words the questions take the lengths
words_alike : (task : Task) (limit : ℕ) (w w' : WordLists) (a : Areas) → lengths_of w ≡ lengths_of w'
    → ((run_of task limit w a).answer ≡ (run_of task limit w' a).answer) × ((run_of task limit w a).left.plan ≡ (run_of task limit w' a).left.plan)
unfolding run_of
words_alike task limit w w' a p =
    (rw p, plan_left _ task w a ∙ rw p (sym (plan_left _ task w' a)))

-- what Run shares with Plan
plan_alike : (task : Task) (limit : ℕ) (w : WordLists) (a : Areas) → length a.values ≡ values_length → words_suit (inputs_of task.file) (length task.schedule.times) (lengths_of w) ≡ true
    → ((run_of task limit w a).answer ≡ (plan_of task limit a.plan).answer) × ((run_of task limit w a).left.plan ≡ (plan_of task limit a.plan).left)
unfolding run_of plan_of
plan_alike task limit w a v suits =
    let same = plan_first task limit (lengths_of w) a v suits in
    (rw same, plan_left _ task w a ∙ rw same)

pub after_runs : AfterRun
after_runs =
    record {
      after_run = λ task w a r. after_held task w (held task w r);
      runs_alike = λ task task' w w' a a' L l r r'. alike_held task task' w w' L l (held task w r) (held task' w' r');
      words_alike = words_alike;
      plan_alike = plan_alike;
    }
