-- The counts added up, and the turns of the loops: the times of one input, and input by input.
-- Assumes nothing.
use Prim.Native.Nat.{ℕ, zero, suc, ◌+◌, ◌-◌, ◌≤◌, ◌<◌}
use mathlib.Core.Path.{◌≡◌, refl, sym, ◌∙◌}
use mathlib.Core.Bool.{Bool, true, false, not}
use mathlib.Core.List.{List, map}
use native.Mathlib.Omega.{arith}
use native.Mathlib.Numerals.{add-one}
use Rattle.std.specs.List.{sum}
use Rattle.std.proofs.lemmas.List.Sums.{sum_by_more}
use lib.ListN.{length, get_or, take, drop, drop_of_length-le}
use lib.Seq.{drop-cons, take_all}
use borrow.Author.Tests.{lt-ltb, le-ltb, not-true, not-false}
use Rattle.lists.specs.Tables.{tabulate_from, every}
use Rattle.lists.proofs.Tabled.{from_step, from_end}
use Rattle.method.specs.Times.{rise_above}
use Rattle.method.specs.Changes.{schedule, start_of, moments_from}
use Rattle.method.proofs.Changes.{start_mono}

-- behind the times of input i start those of the next
pub start_next : (counts : List ℕ) (i : ℕ) {s : ℕ} → s ≡ start_of counts i → s + get_or counts i 0 ≡ start_of counts (i + 1)
start_next counts i e = rw (add-one i, e)

-- all counts added up
sum_to : (counts : List ℕ) (i : ℕ) → i ≤ length counts → sum (take i counts) ≡ start_of counts i
sum_to counts zero h = refl
sum_to counts (suc i) h = rw (← add-one i, sum_by_more (λ (n : ℕ). n) counts i 0 (omega arith), sum_to counts i (omega arith))

pub sum_is : (counts : List ℕ) → sum counts ≡ start_of counts (length counts)
sum_is counts = rw (take_all (length counts) counts (omega arith)) at (sum_to counts (length counts) (omega arith))

-- at place k of one input's times, those before it rising to `last`
module _ (times : List ℕ) (last k : ℕ) {w : Bool} (h : w ≡ rise_above last (drop k times)) where
  pub rise_on : k < length times → last < get_or times k 0 → w ≡ rise_above (get_or times k 0) (drop (k + 1) times)
  rise_on l y = h ∙ rw (add-one k, drop-cons times k 0 l, lt-ltb _ _ y)

  pub rise_stop : k < length times → get_or times k 0 ≤ last → false ≡ w
  rise_stop l y = sym (h ∙ rw (drop-cons times k 0 l, le-ltb _ _ y))

  pub rise_end : length times ≤ k → true ≡ w
  rise_end l = sym (h ∙ rw (drop_of_length-le times l))

-- the times of an input lie within all of them, where the counts add up to these
pub part_within : (counts changes : List ℕ) (i : ℕ) → i < length counts → start_of counts (length counts) ≡ length changes
    → {s : ℕ} → s ≡ start_of counts i → s + get_or counts i 0 ≤ length changes
part_within counts changes i l t a = omega (arith, start_mono counts i (length counts) l)

-- do the times of each input from input i on rise?
abbrev pub rise_from : List ℕ → List ℕ → ℕ → Bool
rise_from counts changes i = every (map (rise_above 0) (tabulate_from (length counts - i) i (moments_from (schedule counts changes))))

-- at input i, whose times start at s, those of the inputs before it rising
module _ (counts changes : List ℕ) (i : ℕ) {w : Bool} (h : w ≡ rise_from counts changes i) where
  module _ (l : i < length counts) {s : ℕ} (a : s ≡ start_of counts i) {r : Bool} (e : r ≡ rise_above 0 (take ((s + get_or counts i 0) - s) (drop s changes))) where
    own : rise_above 0 (moments_from (schedule counts changes) i) ≡ r
    own = sym (e ∙ rw (let q : (s + get_or counts i 0) - s ≡ get_or counts i 0 = omega arith in q, a))

    pub input_no : not r ≡ true → false ≡ w
    input_no n = sym (h ∙ rw (from_step (length counts) i (moments_from (schedule counts changes)) l, own, not-true r n))

    pub input_on : not r ≡ false → w ≡ rise_from counts changes (i + 1)
    input_on y = h ∙ rw (from_step (length counts) i (moments_from (schedule counts changes)) l, own, not-false r y)

  pub input_end : length counts ≤ i → true ≡ w
  input_end l = sym (h ∙ rw (from_end (length counts) i (moments_from (schedule counts changes)) l))
