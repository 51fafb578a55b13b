-- What evaluating asks once the frames are kept, and what a run leaves then, and where they are not kept.
-- Assumes nothing.
use Prim.Native.Nat.{ℕ}
use mathlib.Core.Path.{◌≡◌, ◌∙◌, sym}
use mathlib.Core.List.{List}
use native.Mathlib.Omega.{arith}
use lib.ListN.{length}
use Rattle.lists.specs.Areas.{cleared, padded}
use Rattle.lists.specs.Outcome.{outcome}
use Rattle.lists.proofs.Leaving.{left_none, left_clear}
use Rattle.method.specs.WordLists.{WordLists, Lengths}
use Rattle.method.specs.declared.Totals.{Totals}
use Rattle.method.specs.Areas.{Areas, areas}
use Rattle.method.specs.Layout.{all_times, laid}
use Rattle.method.specs.Sums.{totals_of}
use Rattle.circuit.specs.File.{inputs_of}
use Rattle.circuit.specs.Task.{Task, frames_in, all_packed_in}
use Rattle.stimulus.proofs.Asked.{words_each}
use Rattle.layout.proofs.Filling.{given_room}
use Rattle.limiting.specs.Planned.{within_of}
use Rattle.limiting.proofs.Within.{Over, Kept, within_no, within_kept}
use Rattle.evaluation.specs.Steps.{Planned, Driven}
use Rattle.simulation.specs.Simulated.{Ready, Simulated}
use Rattle.std.specs.Prelude.{Ok, Err}
use Rattle.method.specs.declared.Refusal.{Refusal}
use Rattle.method.specs.Refusals.{number_of}
use Rattle.lists.specs.Ladder.{refused, accepted}

module _ (task : Task) {l : Lengths} {a : Areas} {v : List ℕ} (h : Ready task l a v) {limit : ℕ} {d t i f : List ℕ} {totals : Totals} (k : Kept task limit a (areas d t i f) totals) where
  plan_frames : totals.frames ≡ length (all_times (frames_in task))
  unfolding totals_of
  plan_frames = rw k.totals

  -- the areas are as long as they were
  pub planned : length d ≡ length a.directory → length t ≡ length a.times → length i ≡ length a.inertial → length f ≡ length a.fanins → Planned task d i f
  unfolding laid
  planned ld lt li lf =
      let room = given_room task h.given k.fit in
      record {
        read = h.given.read;
        suits = h.given.suits;
        times = t;
        is = k.filled ∙ rw (ld, lt, li, lf);
        pairs = omega (arith, ld, room.directory);
        indices = omega (arith, li, room.inertial);
        rows = omega (arith, lf, room.fanins);
      }

  -- the values have a word for each frame
  pub driven : Driven task l v totals.frames
  driven =
      let e = words_each (inputs_of task.file) (length task.schedule.times) l h.worded in
      record { before_each = e.0; after_each = e.1; words = record { words = h.words k.fit }; total_is = plan_frames }

-- ---- filled, and then evaluated or cleared

module _ (task : Task) (limit : ℕ) (w : WordLists) {a a' : Areas} {v v' : List ℕ} where
  pub simulated_no : {q : Refusal} → outcome (refused (number_of q)) a' ≡ within_of task limit a → v' ≡ cleared v → Simulated task limit w a v (Err q) a' v'
  simulated_no {q} e z =
      let o : Over task limit a a' (number_of q) = within_no task limit a e in
      record {
        plan = e;
        values = z ∙ sym (rw o.number (left_clear (padded (length v) (all_packed_in task w)) (cleared v) v (number_of q) o.some o.clears_all));
      }

  pub simulated_yes : {totals : Totals} → outcome (accepted totals) a' ≡ within_of task limit a → v' ≡ padded (length v) (all_packed_in task w) → Simulated task limit w a v (Ok totals) a' v'
  simulated_yes e words =
      let k = within_kept task limit a e in
      record { plan = e; values = words ∙ sym (rw k.number (left_none (padded (length v) (all_packed_in task w)) (cleared v) v)) }
