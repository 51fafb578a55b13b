-- A marking passes exactly if every expectation is met at each time that it covers: the level that Level answers after the run
-- is that of the lane's own frames, and the search by frames finds the first time at which it differs.
-- Assumes nothing.
use Prim.Native.Nat.{ℕ, ◌<◌}
use mathlib.Core.Path.{◌≡◌, sym, ap, subst, ◌∙◌}
use mathlib.Core.Bool.{Bool, true}
use mathlib.Core.List.{List}
use native.Mathlib.Omega.{arith}
use Rattle.lists.specs.Ladder.{accepted}
use Rattle.lists.specs.Every.{Every}
use Rattle.lists.proofs.Each.{every_first, every_map, every_split, every_both}
use Rattle.lists.proofs.Ladders.{accepted_same}
use Rattle.method.specs.Indices.{last_frame}
use Rattle.method.specs.Look.{level}
use Rattle.method.specs.Stimulus.{Ordered}
use Rattle.method.specs.WordLists.{WordLists}
use Rattle.method.proofs.Changes.{suited}
use Rattle.method.proofs.Lanes.{lane_each, lane_level_lem}
use Rattle.method.proofs.Agreement.{agreement}
use Rattle.circuit.specs.File.{inputs_of}
use Rattle.circuit.specs.Task.{Task, circuit_in, moments_in, nets_in, times_in, lane_values}
use Rattle.engine.specs.Areas.{Areas}
use Rattle.engine.specs.After.{After, times_of, level_in}
use Rattle.engine.proofs.After.{after_runs}
use Rattle.expectations.specs.declared.Expectation.{Expectation}
use Rattle.expectations.specs.Suits.{suits}
use Rattle.marking.specs.Met.{MetBy, UnmetBy}
use Rattle.expectations.specs.Verdict.{Verdict, all_met, place, verdict_from}
use Rattle.expectations.proofs.Judging.{net_below, lane_below, span_is, each_suits}
use Rattle.marking.proofs.Marked.{verdict_is, list_suits_lem, mark_ran}
use Rattle.marking.proofs.Spans.{LevelAt, Sound, every_met, met_every, place_found}
use Rattle.demands.specs.Runs.{Marked}
use Rattle.demands.specs.Marks.{LevelMet, Met, MetByMachine, Place}
use Rattle.marking.specs.Mark.{verdict}

module _ (task : Task) (w : WordLists) {left : Areas} (h : After task w left) where
  -- the times and the levels that Mark searches
  abbrev times : ℕ → List ℕ
  times = times_in task

  abbrev levels : ℕ → ℕ → List Bool
  levels = lane_values task w

  abbrev Suits : Expectation → Type 0
  Suits e = suits (nets_in task) e ≡ true

  ordered : Ordered (moments_in task)
  ordered = (suited (inputs_of task.file) task.schedule h.changes_suit_lem).ordered

  module _ (e : Expectation) (y : Suits e) where
    below : e.net.0 < nets_in task
    below = net_below (nets_in task) e y

    -- Level answers the machine's level, which is that of the lane's own frames
    seen : (t : ℕ) → level_in left e.net.0 e.lane t ≡ accepted (level (times e.net.0) (levels e.lane e.net.0) t)
    seen t =
        h.level_is_machine e.net.0 e.lane t below (lane_below (nets_in task) e y)
        ∙ ap accepted (sym (lane_level_lem (circuit_in task) (moments_in task) w e.lane e.net.0 ordered t))

    sound : Sound times levels e
    sound = (agreement.times_rise (circuit_in task) (moments_in task) ordered e.net.0, lane_each (circuit_in task) (moments_in task) w e.lane e.net.0, span_is (nets_in task) e y)

    kept_met : MetBy (LevelAt times levels) e → Met left e
    kept_met k t since until = seen t ∙ ap accepted (k t since until)

    met_kept : Met left e → MetBy (LevelAt times levels) e
    met_kept m t since until = accepted_same (sym (seen t) ∙ m t since until)

    kept_machine : MetBy (LevelAt times levels) e → MetByMachine task w e
    kept_machine k t since until = sym (lane_level_lem (circuit_in task) (moments_in task) w e.lane e.net.0 ordered t) ∙ k t since until

    machine_kept : MetByMachine task w e → MetBy (LevelAt times levels) e
    machine_kept m t since until = lane_level_lem (circuit_in task) (moments_in task) w e.lane e.net.0 ordered t ∙ m t since until

    broken_unmet : (k : ℕ) → UnmetBy (LevelAt times levels) times e k → UnmetBy (LevelMet left) (times_of left) e k
    broken_unmet k b =
        record {
          time = b.time;
          since = b.since;
          until = b.until;
          differs = λ m. b.differs (accepted_same (sym (seen b.time) ∙ m));
          least = λ t since before'. seen t ∙ ap accepted (b.least t since before');
          frame = b.frame ∙ ap (λ (ts : List ℕ). last_frame ts b.time) (sym (h.times_are e.net.0 below));
        }

-- ---- an accepted Mark

module _ (task : Task) (w : WordLists) (list : List Expectation) (v : Verdict) (left : Areas) (m : Marked task w list v left) where
  past : After task w left
  past = after_runs.after_run task w left (mark_ran task m.limit w m.entry list m.marked)

  abbrev ts : ℕ → List ℕ
  ts = times task w past

  abbrev vs : ℕ → ℕ → List Bool
  vs = levels task w past

  suit : Every (Suits task w past) list
  suit = each_suits (nets_in task) list (list_suits_lem task m.limit w m.entry list m.marked)

  sounds : Every (Sound ts vs) list
  sounds = every_map (sound task w past) suit

  found : v ≡ verdict_from ts vs 0 list
  unfolding verdict
  found = verdict_is task m.limit w m.entry list m.marked

  met_all : v ≡ all_met → Every (MetBy (LevelAt ts vs)) list
  met_all e = met_every ts vs 0 list sounds (sym found ∙ e)

  all_met_lem : Every (MetBy (LevelAt ts vs)) list → v ≡ all_met
  all_met_lem k = found ∙ every_met ts vs 0 list sounds k

  pub passes : (v ≡ all_met → Every (Met left) list) × (Every (Met left) list → v ≡ all_met)
  passes = (λ e. every_both (kept_met task w past) suit (met_all e), λ k. all_met_lem (every_both (met_kept task w past) suit k))

  pub passes_machine : (v ≡ all_met → Every (MetByMachine task w) list) × (Every (MetByMachine task w) list → v ≡ all_met)
  passes_machine = (λ e. every_both (kept_machine task w past) suit (met_all e), λ k. all_met_lem (every_both (machine_kept task w past) suit k))

  pub fails : (i k : ℕ) → v ≡ place i k → Place left list i k
  fails i k p =
      let r = place_found ts vs 0 list sounds (sym found ∙ p) in
      let f = r.2 in
      let parts = every_split f.before (subst (Every (Suits task w past)) f.splits suit) in
      record {
        before = f.before;
        expectation = f.expectation;
        behind = f.behind;
        splits = f.splits;
        position = omega (arith, r.1, f.position);
        met = every_both (kept_met task w past) parts.0 f.met;
        unmet = broken_unmet task w past f.expectation (every_first parts.1) k f.unmet;
      }
