-- Two accepted runs of one circuit whose words agree in a lane are marked alike there: Mark's verdict on a list that names only
-- that lane reads no other lane's trace, and the lane's own trace is the same in both.
-- Assumes nothing.
use Prim.Native.Nat.{ℕ}
use mathlib.Core.Path.{◌≡◌, refl, sym, ap, ap₂, subst, ◌∙◌}
use mathlib.Core.Bool.{true}
use mathlib.Core.List.{List}
use lib.ListN.{length}
use Rattle.lists.specs.Ladder.{Answer, accepted}
use Rattle.lists.specs.Every.{Every}
use Rattle.lists.proofs.Each.{every_map}
use Rattle.method.specs.Circuit.{Circuit}
use Rattle.method.specs.Frames.{frames_at}
use Rattle.method.specs.Traces.{trace_at}
use Rattle.method.specs.Changes.{Schedule, moments_from}
use Rattle.method.specs.Packed.{changes_before, lane_of}
use Rattle.method.specs.Lanes.{AgreeIn}
use Rattle.method.proofs.Lanes.{same_values}
use Rattle.method.specs.WordLists.{WordLists, lengths_of}
use Rattle.method.specs.Sums.{limited}
use Rattle.circuit.specs.Task.{Task, circuit_in, moments_in, nets_in, frames_in, times_in, lane_values}
use Rattle.limiting.proofs.Last.{last_yes}
use Rattle.engine.specs.Areas.{Areas}
use Rattle.engine.specs.Questions.{areas_suit}
use Rattle.engine.proofs.Accepted.{Held, held_passed, agree_all}
use Rattle.expectations.specs.declared.Expectation.{Expectation}
use Rattle.expectations.specs.Suits.{list_suits}
use Rattle.expectations.specs.Verdict.{Verdict, verdict_from}
use Rattle.marking.specs.Mark.{verdict, mark_of}
use Rattle.marking.proofs.Laddered.{ladder_none}
use Rattle.marking.proofs.Marked.{mark_accepts}
use Rattle.marking.proofs.Spans.{Agreeing, verdict_ext}
use Rattle.demands.specs.Answers.{SameVerdict, verdicts}

-- ---- the verdict reads the lane alone

module _ (task : Task) (w w' : WordLists) (L : ℕ) (a : AgreeIn L (circuit_in task).inputs (changes_before (moments_in task) (circuit_in task).inputs) w w') where
  same_verdict : (list : List Expectation) → Every (λ (e : Expectation). e.lane ≡ L) list → verdict task w list ≡ verdict task w' list
  unfolding verdict
  same_verdict list only = verdict_ext (times_in task) (lane_values task w) (times_in task) (lane_values task w') 0 list (every_map agrees only)
    where
      agrees : (e : Expectation) → e.lane ≡ L → Agreeing (times_in task) (lane_values task w) (times_in task) (lane_values task w') e
      agrees e is = (refl, rw is (same_values (circuit_in task) (moments_in task) w w' L a e.net.0))

-- and of a task the circuit and the change times alone
one_circuit : (task task' : Task) (w : WordLists) → circuit_in task ≡ circuit_in task' → task.schedule ≡ task'.schedule → (list : List Expectation) → verdict task w list ≡ verdict task' w list
unfolding verdict
one_circuit task task' w same one list =
    ap₂ (λ (c : Circuit) (h : Schedule). verdict_from (λ (n : ℕ). (frames_at c (moments_from h) n).times) (λ (L n : ℕ). (trace_at c (lane_of L (moments_from h) w) n).values) 0 list)
    same one

-- ---- Mark accepts again, in areas of the right lengths

marked_again : (task : Task) (w : WordLists) {left : Areas} → Held task w left → (list : List Expectation) → list_suits (nets_in task) list ≡ true
    → (limit : ℕ) → limited limit (frames_in task) ≡ true → (entry : Areas) → areas_suit entry ≡ true
    → (mark_of task limit w entry list).answer ≡ accepted (verdict task w list)
marked_again task w b list y limit z entry s =
    mark_accepts task limit w entry list
    (ladder_none task limit (lengths_of w) entry (list_suits (nets_in task) list)
    (held_passed task w b entry s) y
    (last_yes limit (frames_in task) b.fit z))

-- two answers with one verdict
one_verdict : {x y : Answer Verdict} {v : Verdict} → x ≡ accepted v → y ≡ accepted v → SameVerdict x y
one_verdict {x} {y} {v} p q = subst (λ (a : Answer Verdict). SameVerdict a y) (sym p) (subst (λ (a : Answer Verdict). SameVerdict (accepted v) a) (sym q) (verdicts v))

pub marked_alike : (task : Task) (w : WordLists) {left : Areas} (task' : Task) (w' : WordLists) {left' : Areas} (L : ℕ)
    → Held task w left → Held task' w' left' → circuit_in task ≡ circuit_in task' → task.schedule ≡ task'.schedule
    → AgreeIn L (circuit_in task).inputs (length task.schedule.times) w w'
    → (list : List Expectation) → list_suits (nets_in task) list ≡ true → Every (λ (e : Expectation). e.lane ≡ L) list
    → (limit limit' : ℕ) → limited limit (frames_in task) ≡ true → limited limit' (frames_in task') ≡ true
    → (entry entry' : Areas) → areas_suit entry ≡ true → areas_suit entry' ≡ true
    → SameVerdict (mark_of task limit w entry list).answer (mark_of task' limit' w' entry' list).answer
marked_alike task w task' w' L b b' same one a list y only limit limit' z z' entry entry' s s' =
    one_verdict
    (marked_again task w b list y limit z entry s ∙ ap accepted (same_verdict task w w' L (agree_all task w w' L b a) list only))
    (marked_again task' w' b' list (rw same at y) limit' z' entry' s' ∙ ap accepted (sym (one_circuit task task' w' same one list)))
