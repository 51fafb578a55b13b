-- The walk that counts is the walk that lays out, with the areas that it does not make taken as they would be.
-- Assumes nothing.
use Prim.Native.Nat.{ℕ, ◌+◌, ◌*◌, ◌≤◌}
use mathlib.Core.Path.{◌≡◌, refl, sym, ap, ap₂, ◌∙◌}
use mathlib.Core.Bool.{false}
use mathlib.Core.List.{List, [], ◌∷◌, flat_map}
use native.Mathlib.Omega.{arith}
use lib.ListN.{length, replicate, length-replicate}
use lib.Seq.{sets, length-sets}
use Rattle.method.specs.declared.Totals.{Totals}
use Rattle.method.specs.Kinds.{most_fanins}
use Rattle.method.specs.Limits.{most_total_frames}
use Rattle.method.specs.Indices.{inertial_indices}
use Rattle.method.specs.Frames.{fanin_row}
use Rattle.method.specs.Areas.{Areas, areas, all_cleared}
use Rattle.method.specs.Sums.{fits}
use Rattle.method.specs.First.{Inputs}
use Rattle.editions.specs.declared.GateRecord.{GateRecord}
use Rattle.circuit.specs.Limits.{most_inputs, most_gates}
use Rattle.circuit.specs.File.{gates_of}
use Rattle.circuit.specs.Task.{Task, moments_in}
use Rattle.gathering.specs.Steps.{spans}
use Rattle.framing.specs.Steps.{Timed}
use Rattle.layout.specs.Steps.{frames_of, Given, Open, Begun}
use Rattle.layout.proofs.Accepted.{given_long}
use Rattle.layout.proofs.Filling.{nets_all}
use Rattle.layout.proofs.Starting.{inputs_open, inputs_none, going_none}
use Rattle.layout.proofs.Stepping.{Stays, given_alike}
use Rattle.counting.specs.Steps.{Asked, Counting, CountedTo, Totalled}
use Rattle.std.specs.Prelude.{Some, None}

-- ---- the inputs, in areas of zeros

module _ (task : Task) (h : Asked task) {d t : List ℕ} (zero-pairs : d ≡ replicate (2 * (most_inputs + most_gates)) 0) (zero-times : t ≡ replicate most_total_frames 0) where
  pairs_long : length d ≡ 2 * (most_inputs + most_gates)
  pairs_long = ap length zero-pairs ∙ length-replicate {A = ℕ} (2 * (most_inputs + most_gates)) 0

  times_long : length t ≡ most_total_frames
  times_long = ap length zero-times ∙ length-replicate {A = ℕ} most_total_frames 0

  -- areas that hold nothing yet, with those that are not made
  module _ (most : ℕ) (enough : most_fanins * most_total_frames ≤ most) where
    abbrev none : Areas
    none = areas d t t (replicate most 0)

    all_none : none ≡ all_cleared none
    unfolding all_cleared
    all_none =
        rw (length-replicate {A = ℕ} most 0)
        (ap₂ (λ (x y : List ℕ). areas x y y (replicate most 0)) (zero-pairs ∙ ap (λ (n : ℕ). replicate n 0) (sym pairs_long)) (zero-times ∙ ap (λ (n : ℕ). replicate n 0) (sym times_long)))

    given : Given task none
    given =
        given_long task none h.read h.suits (omega (arith, pairs_long)) (omega (arith, times_long)) (omega (arith, times_long)) (omega (arith, length-replicate {A = ℕ} most 0))

  pub opened : Open task.schedule d t × Inputs (moments_in task) d t 0
  opened =
      let most : ℕ = most_fanins * most_total_frames in
      (inputs_open task (given most (omega arith)) refl refl, inputs_none task (given most (omega arith)) (all_none most (omega arith)))

  pub begun : {d' t' : List ℕ} {start : Totals} → Begun (moments_in task) (length task.schedule.counts) d' t' start → length d' ≡ length d → length t' ≡ length t → Counting task 0 d' t' start
  begun b p q =
      let most : ℕ = most_fanins * most_total_frames in
      record {
        inertial = t;
        fanins = replicate most 0;
        given = given_alike (given most (omega arith)) (record { directory = p; times = q; inertial = refl; fanins = refl });
        going = going_none task (given most (omega arith)) (all_none most (omega arith)) b;
      }

-- ---- a gate more

-- what is not made is taken as if it were
module _ {task : Task} {net j : ℕ} {d t : List ℕ} {totals : Totals} (c : Counting task j d t totals) {g : GateRecord} {own : List ℕ} (s : Stays task net j (areas d t c.inertial c.fanins) totals g own)
    {d' t' : List ℕ} {totals' : Totals} (st : Timed d d' t t' net totals totals' g.entries own) where
  pub counted : Counting task (j + 1) d' t' totals'
  counted =
      let rows : List ℕ = flat_map (fanin_row g.delay (spans task.file g.list g.entries d t)) own in
      record {
        inertial = sets c.inertial totals.frames (inertial_indices g.inertial own);
        fanins = sets c.fanins totals.fanins rows;
        given =
            given_alike c.given
            (record {
              directory = ap length st.directory_is ∙ length-sets d (2 * net) (totals.frames ∷ length own ∷ []);
              times = ap length st.times_are ∙ length-sets t totals.frames own;
              inertial = length-sets c.inertial totals.frames (inertial_indices g.inertial own);
              fanins = length-sets c.fanins totals.fanins rows;
            });
        going =
            s.stepped (record { timed = st; inertial_is = refl; fanins_are = refl });
      }

-- ---- what is reached

pub counted_now : {task : Task} {n : ℕ} {d t : List ℕ} {totals : Totals} → Counting task n d t totals → CountedTo task n d t (Some totals)
counted_now {task} {n} {d} {t} {totals} c = record { planned = λ u e. (let q : totals ≡ u = cc in rw q at c); stopped = λ e. absurd cc }

pub counted_many : {task : Task} {n : ℕ} {d t : List ℕ} → fits (frames_of task n) ≡ false → CountedTo task n d t None
counted_many h = record { planned = λ u e. absurd cc; stopped = λ e. h }

-- all gates were tried
module _ (task : Task) {gates : ℕ} (all : gates ≡ gates_of task.file) where
  pub totalled : {d t : List ℕ} {totals : Totals} → Counting task gates d t totals → Totalled task (Some totals)
  totalled {d} {t} {totals} c =
      record {
        fit = λ u e. rw (nets_all task all) at c.going.fit;
        totals = λ u e. (let q : u ≡ totals = cc in q ∙ (rw (nets_all task all) at c.going.totals));
        stopped = λ e. absurd cc;
      }

  pub totalled_none : fits (frames_of task gates) ≡ false → Totalled task None
  totalled_none h =
      record { fit = λ u e. absurd cc; totals = λ u e. absurd cc; stopped = λ e. rw (nets_all task all) at h }
