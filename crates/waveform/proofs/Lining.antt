-- Lines as they are read off the areas: written frame by frame and net by net; and after an accepted Run they are the
-- lines of the circuit.
-- Assumes nothing.
use Prim.Native.Nat.{ℕ, suc, ◌+◌, ◌<◌}
use mathlib.Core.Path.{◌≡◌, refl, sym, ap, ap₂, ◌∙◌}
use mathlib.Core.Bool.{Bool, false}
use mathlib.Core.List.{List, [], ◌∷◌, flatten, map, zip_with}
use native.Mathlib.Omega.{arith}
use native.Mathlib.Nat.{zero-add, add-zero}
use lib.ListN.{length, get_or}
use Rattle.lists.specs.Tables.{tabulate_from}
use Rattle.lists.proofs.Tabled.{from_ext}
use Rattle.method.specs.Words.{lane}
use Rattle.method.proofs.Lanes.{in_lanes, lane_each}
use Rattle.method.specs.Layout.{frame_count, part_of}
use Rattle.method.specs.WordLists.{WordLists}
use Rattle.circuit.specs.Task.{Task, circuit_in, moments_in, nets_in, times_in, lane_values}
use Rattle.looks.specs.declared.Sight as code
use Rattle.looks.specs.Sight.{sight_at, sight_on_paper}
use Rattle.engine.specs.Areas.{Areas}
use Rattle.engine.specs.After.{After}
use Rattle.text.specs.Text.{newline, decimal, frame_text}
use Rattle.waveform.specs.Lines.{line}
use Rattle.text.specs.Wrote.{Wrote}
use Rattle.waveform.specs.Steps.{seen_text, part_frames, area_line, area_lines, task_lines}
use Rattle.text.proofs.Putting.{wrote_nothing, wrote_both, wrote_next}

-- ---- written

module _ (times values : List ℕ) where
  pub frames_none : (out : List ℕ) (at : ℕ) → Wrote out at (part_frames times values 0) out at
  unfolding part_frames flatten tabulate_from
  frames_none out at = wrote_nothing out at

  -- one frame more
  pub frames_more : {a b c : List ℕ} {i j k : ℕ} (n : ℕ) → Wrote a i (part_frames times values n) b j → (seen : code.Sight) → sight_on_paper seen ≡ sight_at times (map (lane 0) values) n
      → Wrote b j (frame_text seen.began.0 seen.level) c k → Wrote a i (part_frames times values (n + 1)) c k
  unfolding part_frames sight_on_paper
  frames_more {a} {b} {c} {i} {j} {k} n done seen s piece =
      wrote_next (λ (m : ℕ). seen_text (sight_at times (map (lane 0) values) m)) n done (rw (← s) piece)

module _ (d t v : List ℕ) where
  pub line_put : {o a b c : List ℕ} {at i j k : ℕ} (net : ℕ) {ts vs : List ℕ} {frames : ℕ} → frames ≡ frame_count d net → ts ≡ part_of d t net → vs ≡ part_of d v net → Wrote o at (decimal net) a i
      → Wrote a i (part_frames ts vs frames) b j → Wrote b j (newline ∷ []) c k → Wrote o at (area_line d t v net) c k
  unfolding area_line
  line_put net f p q x y z = rw (← f, ← p, ← q) (wrote_both x (wrote_both y z))

  pub lines_none : (out : List ℕ) (at : ℕ) → Wrote out at (area_lines d t v 0) out at
  unfolding area_lines flatten tabulate_from
  lines_none out at = wrote_nothing out at

  pub lines_more : {a b c : List ℕ} {i j k : ℕ} (n : ℕ) → Wrote a i (area_lines d t v n) b j → Wrote b j (area_line d t v n) c k → Wrote a i (area_lines d t v (n + 1)) c k
  unfolding area_lines
  lines_more n done piece = wrote_next (area_line d t v) n done piece

-- ---- after an accepted Run

-- two lists joined entry by entry, as a table
zip_from : (f : ℕ → Bool → List ℕ) (xs : List ℕ) (ys : List Bool) → length ys ≡ length xs → (j : ℕ) (h : ℕ → List ℕ)
    → ((k : ℕ) → k < length xs → h (j + k) ≡ f (get_or xs k 0) (get_or ys k false)) → tabulate_from (length xs) j h ≡ zip_with f xs ys
unfolding tabulate_from zip_with
zip_from f [] [] e j h each = refl
zip_from f [] (y ∷ ys) e j h each = absurd (omega (arith, e))
zip_from f (x ∷ xs) [] e j h each = absurd (omega (arith, e))
zip_from f (x ∷ xs) (y ∷ ys) e j h each =
    ap₂ (λ (z : List ℕ) (zs : List (List ℕ)). z ∷ zs)
    (ap h (sym (add-zero j)) ∙ each 0 (omega arith))
    (zip_from f xs ys (omega (arith, e)) (suc j) h (λ k l. ap h (omega arith) ∙ each (suc k) (omega (arith, l))))

module _ (task : Task) (w : WordLists) {a : Areas} (h : After task w a) where
  abbrev d : List ℕ
  d = a.plan.directory

  module _ (n : ℕ) (l : n < nets_in task) where
    abbrev times : List ℕ
    times = times_in task n

    abbrev levels : List Bool
    levels = lane_values task w 0 n

    own : map (lane 0) (part_of d a.values n) ≡ levels
    own = ap (map (lane 0)) (h.values_are n l) ∙ in_lanes.own_values (circuit_in task) (moments_in task) w 0 (omega arith) n

    frames_are : part_frames (part_of d a.plan.times n) (part_of d a.values n) (frame_count d n) ≡ flatten (zip_with frame_text times levels)
    unfolding part_frames sight_at
    frames_are =
        rw (h.count_is n l, h.times_are n l, own)
        (ap flatten (zip_from frame_text times levels (lane_each (circuit_in task) (moments_in task) w 0 n) 0 (λ (k : ℕ). seen_text (sight_at times levels k)) (λ k m. rw (zero-add k) refl)))

    line_is : area_line d a.plan.times a.values n ≡ line n times levels
    unfolding area_line line
    line_is = rw frames_are refl

  pub lines_are : area_lines a.plan.directory a.plan.times a.values (nets_in task) ≡ task_lines task w
  unfolding area_lines task_lines
  lines_are =
      ap flatten (from_ext (nets_in task) 0 (area_line d a.plan.times a.values) (λ (n : ℕ). line n (times_in task n) (lane_values task w 0 n)) (λ k _ l. line_is k (omega (arith, l))))
