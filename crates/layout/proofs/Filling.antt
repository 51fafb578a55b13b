-- The areas as a whole, filled once all gates were tried.
-- Assumes nothing.
use Prim.Native.Nat.{ℕ}
use mathlib.Core.Path.{◌≡◌, refl, sym, ◌∙◌}
use mathlib.Core.Bool.{true}
use mathlib.Core.List.{List}
use native.Mathlib.Omega.{arith}
use lib.ListN.{length}
use Rattle.lists.specs.Ladder.{accepted}
use Rattle.method.specs.Frames.{Frames}
use Rattle.circuit.specs.File.{inputs_of, gates_of}
use Rattle.circuit.specs.Questions.{read_of}
use Rattle.circuit.specs.Task.{Task, circuit_in, moments_in, frames_in}
use Rattle.circuit.proofs.Parts.{gates_length}
use Rattle.method.specs.declared.Totals.{Totals}
use Rattle.method.specs.Areas.{Areas, all_cleared}
use Rattle.method.specs.First.{Room}
use Rattle.method.specs.Layout.{all_times, all_inertial, laid}
use Rattle.method.specs.Sums.{fits}
use Rattle.layout.specs.Steps.{frames_of, Given, Reached, Filled}
use Rattle.layout.proofs.Accepted.{nets_sized}
use Rattle.method.proofs.Prefix.{frames_all}
use Rattle.layout.proofs.Stepping.{Alike}
use Rattle.std.specs.Prelude.{Option, Some, None}

laid_alike : (fs : List Frames) {a a' : Areas} → Alike a a' → laid fs a' ≡ laid fs a
unfolding laid
laid_alike fs l = rw (l.directory, l.times, l.inertial, l.fanins)

pub cleared_alike : {a a' : Areas} → Alike a a' → all_cleared a' ≡ all_cleared a
unfolding all_cleared
cleared_alike l = rw (l.directory, l.times, l.inertial, l.fanins)

-- with all gates there are all nets
pub nets_all : (task : Task) {gates : ℕ} → gates ≡ gates_of task.file → frames_of task gates ≡ frames_in task
nets_all task {gates} all = frames_all (circuit_in task) (moments_in task) gates (all ∙ sym (gates_length task.file))

module _ (task : Task) {gates : ℕ} (all : gates ≡ gates_of task.file) {a' : Areas} {r : Option Totals} (h : Reached task gates a' r) where
  pub filled_now : {a : Areas} (t : Totals) → r ≡ Some t → Alike a a' → Filled task a a' (Some t)
  filled_now t e l =
      let o = h.planned t e in
      record {
        fit = λ u q. rw (nets_all task all) at o.fit;
        totals = λ u q. (let s : u ≡ t = cc in s ∙ (rw (nets_all task all) at o.totals));
        filled = λ u q. (rw (nets_all task all) at o.is) ∙ laid_alike (frames_in task) l;
        stopped = λ q. absurd cc;
        emptied = λ q. absurd cc;
      }

  pub filled_none : r ≡ None → {a b : Areas} → b ≡ all_cleared a' → Alike a a' → Filled task a b None
  filled_none e c l =
      record {
        fit = λ u q. absurd cc;
        totals = λ u q. absurd cc;
        filled = λ u q. absurd cc;
        stopped = λ q. rw (nets_all task all) at (h.stopped e);
        emptied = λ q. c ∙ cleared_alike l;
      }

-- ---- room for all of them

module _ (task : Task) where
  pub given_room : {a : Areas} → Given task a → fits (frames_in task) ≡ true → Room (frames_in task) a
  given_room given fit = rw (nets_all task refl) at (given.room (gates_of task.file) (omega arith) (rw (nets_all task refl) fit))

  -- as many inertial indices as times
  pub even_rows : read_of task.file ≡ accepted (record { inputs = inputs_of task.file; gates = gates_of task.file }) → length (all_inertial (frames_in task)) ≡ length (all_times (frames_in task))
  even_rows read = rw (nets_all task refl) at (nets_sized task read (gates_of task.file) (omega arith)).even
