-- The search in the areas is the verdict of the definition: a net's part of the areas holds its frames' times and, in each
-- lane, the values of that lane's own trace.
-- Assumes nothing.
use Prim.Native.Nat.{ℕ, zero, suc, ◌+◌, ◌≤◌, ◌<◌}
use mathlib.Core.Path.{◌≡◌, refl, sym, ap, ◌∙◌}
use mathlib.Core.Bool.{Bool, true, false, not, cond, ◌&&◌, beq, and-true}
use mathlib.Core.List.{List, [], ◌∷◌, map}
use native.Mathlib.Omega.{arith}
use lib.Dec.{leb}
use lib.ListN.{length, get_or, drop, drop_of_length-le}
use lib.Seq.{drop-cons}
use Rattle.lists.specs.Tables.{every}
use Rattle.lists.proofs.Choices.{and_left, and_right}
use Rattle.method.specs.Words.{lane}
use Rattle.method.proofs.Lanes.{in_lanes, lane_each}
use Rattle.method.specs.Layout.{frame_count, part_of}
use Rattle.method.specs.WordLists.{WordLists}
use Rattle.circuit.specs.Task.{Task, circuit_in, moments_in, nets_in, times_in, lane_values}
use Rattle.looks.specs.Sight.{end_by, sight_at}
use Rattle.engine.specs.Areas.{Areas}
use Rattle.engine.specs.After.{After}
use Rattle.expectations.specs.declared.Expectation.{Expectation}
use Rattle.expectations.specs.Suits.{suits, list_suits}
use Rattle.expectations.specs.Verdict.{Verdict, place, lasts_over, expected, breaks, first_break, verdict_from}
use Rattle.marking.specs.Mark.{verdict}
use Rattle.expectations.proofs.Judging.{net_below, lane_below}
use Rattle.expectations.specs.Steps.{ends_after, broken_by, breaks_at, searched_frames, searched_from, searched}

-- ---- the frames of an expectation's net

-- by what is seen of frame k, which lasts until the first of the later times: the definition asks the same
seen_breaks : (e : Expectation) (times : List ℕ) (levels : List Bool) (k : ℕ) → broken_by e (sight_at times levels k) ≡ breaks e (get_or times k 0) (drop (suc k) times) (get_or levels k false)
unfolding broken_by breaks sight_at end_by
seen_breaks e times levels k = ap (◌&&◌ (not (beq (get_or levels k false) (expected e)))) (lasts (drop (suc k) times))
  where
    lasts : (later : List ℕ) → leb (get_or times k 0) e.to.0 && ends_after e.from.0 (end_by later) ≡ lasts_over e.from.0 e.to.0 (get_or times k 0) later
    lasts [] = and-true (leb (get_or times k 0) e.to.0)
    lasts (next ∷ later) = refl

-- where the net's parts of the areas are these times and, in the expectation's lane, these levels
module _ (d t v : List ℕ) (e : Expectation) (times : List ℕ) (levels : List Bool)
    (ts : part_of d t e.net.0 ≡ times) (vs : map (lane e.lane) (part_of d v e.net.0) ≡ levels)
    (tc : length times ≡ frame_count d e.net.0) (vc : length levels ≡ frame_count d e.net.0) where
  breaks_is : (k : ℕ) → breaks_at d t v e k ≡ breaks e (get_or times k 0) (drop (suc k) times) (get_or levels k false)
  unfolding breaks_at
  breaks_is k = rw (ts, vs) (seen_breaks e times levels k)

  -- with n frames left, from frame k on
  frames_are : (i n k : ℕ) → k + n ≡ frame_count d e.net.0 → (behind : Verdict) → searched_frames d t v e i n k behind ≡ first_break e i k (drop k times) (drop k levels) behind
  unfolding searched_frames first_break
  frames_are i zero k s behind = rw (drop_of_length-le times (let q : length times ≤ k = omega arith in q))
  frames_are i (suc n) k s behind =
      rw (drop-cons times k 0 (omega arith), drop-cons levels k false (omega arith), breaks_is k)
      (ap (cond (breaks e (get_or times k 0) (drop (suc k) times) (get_or levels k false)) (place i k)) (frames_are i n (suc k) (omega arith) behind))

-- ---- the list

module _ (task : Task) (w : WordLists) {b : Areas} (h : After task w b) where
  abbrev d : List ℕ
  d = b.plan.directory

  frames_found : (e : Expectation) → suits (nets_in task) e ≡ true → (i : ℕ) (behind : Verdict)
      → searched_frames d b.plan.times b.values e i (frame_count d e.net.0) 0 behind
      ≡ first_break e i 0 (times_in task e.net.0) (lane_values task w e.lane e.net.0) behind
  frames_found e y i behind =
      let n : ℕ = e.net.0 in
      let below : n < nets_in task = net_below (nets_in task) e y in
      let count : frame_count d n ≡ length (times_in task n) = h.count_is n below in
      frames_are d b.plan.times b.values e (times_in task n) (lane_values task w e.lane n)
      (h.times_are n below)
      (ap (map (lane e.lane)) (h.values_are n below) ∙ in_lanes.own_values (circuit_in task) (moments_in task) w e.lane (lane_below (nets_in task) e y) n)
      (sym count)
      (lane_each (circuit_in task) (moments_in task) w e.lane n ∙ sym count)
      i
      (frame_count d n)
      0
      (omega arith)
      behind

  list_found : (i : ℕ) (list : List Expectation) → list_suits (nets_in task) list ≡ true
      → searched_from d b.plan.times b.values i list
      ≡ verdict_from (times_in task) (lane_values task w) i list
  unfolding list_suits searched_from verdict_from
  list_found i [] y = refl
  list_found i (e ∷ list) y =
      frames_found e (and_left (suits (nets_in task) e) (every (map (suits (nets_in task)) list)) y) i _
      ∙ ap (first_break e i 0 (times_in task e.net.0) (lane_values task w e.lane e.net.0)) (list_found (suc i) list (and_right (suits (nets_in task) e) (every (map (suits (nets_in task)) list)) y))

  pub searched_is : (list : List Expectation) → list_suits (nets_in task) list ≡ true → searched b.plan.directory b.plan.times b.values list ≡ verdict task w list
  unfolding verdict
  searched_is list y = list_found 0 list y
