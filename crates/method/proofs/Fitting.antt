-- Question 13: what it says of the nets, a net more, and that once the first gates have too many frames, so has the circuit.
-- Assumes nothing.
use Prim.Native.Nat.{ℕ, zero, suc, ◌+◌, ◌-◌, ◌≤◌}
use mathlib.Core.Path.{◌≡◌, refl, sym, ◌∙◌}
use mathlib.Core.Logic.{inl, inr}
use mathlib.Core.Bool.{Bool, true, false, ◌&&◌, false≢true}
use mathlib.Core.List.{List, [], ◌∷◌, ◌++◌, map}
use native.Mathlib.Omega.{arith}
use native.Mathlib.Nat.{suc-add}
use lib.Dec.{leb}
use lib.ListN.{length, get_or, length-append}
use borrow.Author.Tests.{le-leb, leb-true}
use Rattle.lists.specs.Tables.{every}
use Rattle.lists.proofs.Choices.{either, and_left, and_right, and_both}
use Rattle.lists.proofs.Tabled.{from_every, every_snoc, every_at}
use Rattle.method.specs.Circuit.{Circuit}
use Rattle.method.specs.Stimulus.{Moments}
use Rattle.method.specs.Frames.{Frames, input_frames, no_frames, frames}
use Rattle.method.specs.Limits.{most_net_frames, most_total_frames}
use Rattle.method.specs.Areas.{Areas}
use Rattle.method.specs.Layout.{all_times}
use Rattle.method.specs.Sums.{fits}
use Rattle.method.specs.Packed.{changes_before}
use Rattle.method.specs.First.{first_gates, inputs_only, Room}
use Rattle.method.proofs.Laying.{total_more, fanins_more, inputs_frames}
use Rattle.method.proofs.Prefix.{next_frames, frames_next, frames_all}

abbrev small : Frames → Bool
small f = leb (length f.times) most_net_frames

module _ (fs : List Frames) where
  fits_small : fits fs ≡ true → every (map small fs) ≡ true
  unfolding fits
  fits_small e = and_left (every (map small fs)) (leb (length (all_times fs)) most_total_frames) e

  pub fits_total : fits fs ≡ true → length (all_times fs) ≤ most_total_frames
  unfolding fits
  fits_total e = leb-true (length (all_times fs)) most_total_frames (and_right (every (map small fs)) (leb (length (all_times fs)) most_total_frames) e)

  pub fits_net : fits fs ≡ true → (n : ℕ) → length (get_or fs n no_frames).times ≤ most_net_frames
  fits_net e n = leb-true (length (get_or fs n no_frames).times) most_net_frames (every_at small fs (fits_small e) no_frames (le-leb 1 most_net_frames (omega arith)) n)

  fits_yes : every (map small fs) ≡ true → length (all_times fs) ≤ most_total_frames → fits fs ≡ true
  unfolding fits
  fits_yes e h = and_both (every (map small fs)) (leb (length (all_times fs)) most_total_frames) e (le-leb (length (all_times fs)) most_total_frames h)

refuted : (b : Bool) → (b ≡ true → ⊥) → b ≡ false
refuted b h = elim (either b) [ inl e ↦ absurd (h e) | inr e ↦ e ]

-- the inputs alone
pub fits_inputs : (m : Moments) (n : ℕ) → ((i : ℕ) → 1 + length (m i) ≤ most_net_frames) → n + changes_before m n ≤ most_total_frames → fits (inputs_only m n) ≡ true
fits_inputs m n few h =
    fits_yes (inputs_only m n) (from_every small (λ (i : ℕ). input_frames (m i)) n 0 (λ i a b. le-leb (length (0 ∷ m i)) most_net_frames (omega (arith, few i))))
    (rw (inputs_frames m n) h)

-- ---- a net more

module _ (fs : List Frames) (x : Frames) where
  snoc_small : fits (fs ++ (x ∷ [])) ≡ true → every (map small fs) && small x ≡ true
  snoc_small e = sym (every_snoc small fs x) ∙ fits_small (fs ++ (x ∷ [])) e

  pub fits_more : fits fs ≡ true → length x.times ≤ most_net_frames → length (all_times fs) + length x.times ≤ most_total_frames → fits (fs ++ (x ∷ [])) ≡ true
  fits_more e h k =
      fits_yes (fs ++ (x ∷ [])) (every_snoc small fs x ∙ and_both (every (map small fs)) (small x) (fits_small fs e) (le-leb (length x.times) most_net_frames h))
      (rw (total_more fs x) k)

  fits_before : fits (fs ++ (x ∷ [])) ≡ true → fits fs ≡ true
  fits_before e = fits_yes fs (and_left (every (map small fs)) (small x) (snoc_small e)) (omega (arith, fits_total (fs ++ (x ∷ [])) e, total_more fs x))

  -- a net of too many frames, or too many with it
  pub fits_over : (length x.times ≤ most_net_frames → length (all_times fs) + length x.times ≤ most_total_frames → ⊥) → fits (fs ++ (x ∷ [])) ≡ false
  fits_over h =
      refuted (fits (fs ++ (x ∷ []))) (λ e.
      h (leb-true (length x.times) most_net_frames (and_right (every (map small fs)) (small x) (snoc_small e))) (omega (arith, fits_total (fs ++ (x ∷ [])) e, total_more fs x)))

-- ---- later gates add frames only

-- so what holds of the nets with a gate more and then of those before it holds of the first gates
module _ (P : List Frames → Type 0) (before : (fs : List Frames) (x : Frames) → P (fs ++ (x ∷ [])) → P fs) (c : Circuit) (m : Moments) where
  first_from : (j n : ℕ) → n + j ≤ length c.gates → P (frames (first_gates (n + j) c) m) → P (frames (first_gates j c) m)
  first_from j zero h e = rw (let q : 0 + j ≡ j = omega arith in q) at e
  first_from j (suc n) h e =
      let e' : P (frames (first_gates (n + j) c) m ++ (next_frames c m (n + j) ∷ [])) = rw (suc-add n j, frames_next c m (n + j) (omega arith)) at e in
      first_from j n (omega arith) (before (frames (first_gates (n + j) c) m) (next_frames c m (n + j)) e')

  first_of : (j k : ℕ) → j ≤ k → k ≤ length c.gates → P (frames (first_gates k c) m) → P (frames (first_gates j c) m)
  first_of j k h l e = first_from j (k - j) (omega arith) (rw (let q : k ≡ (k - j) + j = omega arith in q) at e)

pub gave_up : (c : Circuit) (m : Moments) (j k : ℕ) → fits (frames (first_gates j c) m) ≡ false → j ≤ k → k ≤ length c.gates → fits (frames (first_gates k c) m) ≡ false
gave_up c m j k n h l =
    refuted (fits (frames (first_gates k c) m)) (λ e. false≢true (sym n ∙ first_of (λ (fs : List Frames). fits fs ≡ true) fits_before c m j k h l e))

-- areas with room for all nets have room for the first gates
room_before : {a : Areas} (fs : List Frames) (x : Frames) → Room (fs ++ (x ∷ [])) a → Room fs a
room_before fs x r =
    record {
      directory = omega (arith, r.directory, length-append fs (x ∷ []));
      times = omega (arith, r.times, total_more fs x);
      inertial = omega (arith, r.inertial, total_more fs x);
      fanins = omega (arith, r.fanins, fanins_more fs x);
    }

pub room_first : (c : Circuit) (m : Moments) {a : Areas} → Room (frames c m) a → (j : ℕ) → j ≤ length c.gates → Room (frames (first_gates j c) m) a
room_first c m {a} r j h =
    first_of (λ (fs : List Frames). Room fs a) room_before c m j (length c.gates) h (omega arith) (rw (frames_all c m (length c.gates) refl) r)
