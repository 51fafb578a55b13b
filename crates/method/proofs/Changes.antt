-- Change times that passed question 20: each input's are as many as its count says, since the counts add up to all of them.
-- Assumes nothing.
use Prim.Native.Nat.{ℕ, zero, suc, ◌+◌, ◌*◌, ◌≤◌, ◌<◌}
use mathlib.Core.Path.{◌≡◌, refl, ap₂}
use mathlib.Core.Logic.{inl, inr}
use mathlib.Core.Bool.{Bool, true, false, ◌&&◌, ◌||◌, false≢true}
use mathlib.Core.List.{List, [], ◌∷◌, map}
use native.Mathlib.Omega.{arith}
use lib.Dec.{leb, eqb}
use lib.ListN.{length, get_or, take, drop, length-take, length-drop, get_or-eq_default}
use borrow.Author.Tests.{leb-true, eqb-true}
use Rattle.lists.specs.Ladder.{between}
use Rattle.lists.specs.Tables.{tabulate, every}
use Rattle.lists.proofs.Choices.{order, and_left, and_right, or_cases, between_most_true}
use Rattle.lists.proofs.Tabled.{every_from, every_at}
use Rattle.method.specs.Times.{among, rise_above}
use Rattle.method.specs.Stimulus.{Moments, Ordered}
use Rattle.method.specs.Changes.{Schedule, start_of, moments_from, most_changes, last_change, changes_suit}
use Rattle.method.specs.Packed.{changes_before}

-- what passing gives
pub record Suited (inputs : ℕ) (h : Schedule) : Type 0 where
  pub each : length h.counts ≡ inputs
  pub ordered : Ordered (moments_from h)
  -- no input changes more than 8 times, nor after 255
  pub few : (i : ℕ) → length (moments_from h i) ≤ most_changes
  pub early : (i t : ℕ) → among t (moments_from h i) ≡ true → t ≤ last_change
  -- the times of input i, and so its words among the after words, start where the counts say
  pub starts : (i : ℕ) → i ≤ inputs → changes_before (moments_from h) i ≡ start_of h.counts i
  pub count : (i : ℕ) → length (moments_from h i) ≡ get_or h.counts i 0
  pub total : start_of h.counts inputs ≡ length h.times

-- ---- a test of every entry, on a part

or_there : (a b : Bool) → b ≡ true → a || b ≡ true
or_there true b e = refl
or_there false b e = e

among_take : (k t : ℕ) (ts : List ℕ) → among t (take k ts) ≡ true → among t ts ≡ true
among_take zero t ts e = absurd (false≢true e)
among_take (suc k) t [] e = absurd (false≢true e)
among_take (suc k) t (x ∷ ts) e =
    elim (or_cases (eqb t x) (among t (take k ts)) e) [ inl q ↦ rw q | inr q ↦ or_there (eqb t x) (among t ts) (among_take k t ts q) ]

among_drop : (k t : ℕ) (ts : List ℕ) → among t (drop k ts) ≡ true → among t ts ≡ true
among_drop zero t ts e = e
among_drop (suc k) t [] e = absurd (false≢true e)
among_drop (suc k) t (x ∷ ts) e = or_there (eqb t x) (among t ts) (among_drop k t ts e)

among_early : (t : ℕ) (ts : List ℕ) → every (map (between 1 last_change) ts) ≡ true → among t ts ≡ true → t ≤ last_change
among_early t [] e a = absurd (false≢true a)
among_early t (x ∷ ts) e a =
    let rest : Bool = every (map (between 1 last_change) ts) in
    elim (or_cases (eqb t x) (among t ts) a) [
      | inl q ↦ let s : t ≡ x = eqb-true t x q in
          let l : x ≤ last_change = between_most_true 1 last_change x (and_left (between 1 last_change x) rest e) in
          omega arith
      | inr q ↦ among_early t ts (and_right (between 1 last_change x) rest e) q
    ]

-- ---- running sums: of the counts, and of the changes

-- what is added at i is within the sum at a later n
sum_mono : (sum part : ℕ → ℕ) → ((k : ℕ) → sum (suc k) ≡ sum k + part k) → (i n : ℕ) → i < n → sum i + part i ≤ sum n
sum_mono sum part step i zero h = absurd (omega arith)
sum_mono sum part step i (suc n) h =
    elim (order (suc i) n) [
      | inl k ↦ omega (arith, sum_mono sum part step i n k, step n)
      | inr k ↦ rw (let q : i ≡ n = omega arith in q) (omega (arith, step n))
    ]

pub start_mono : (counts : List ℕ) (i n : ℕ) → i < n → start_of counts i + get_or counts i 0 ≤ start_of counts n
start_mono counts = sum_mono (start_of counts) (λ (i : ℕ). get_or counts i 0) (λ k. refl)

pub before_mono : (m : Moments) (i n : ℕ) → i < n → changes_before m i + length (m i) ≤ changes_before m n
before_mono m = sum_mono (changes_before m) (λ (i : ℕ). length (m i)) (λ k. refl)

-- at most 8 for each input before
pub before_low : (m : Moments) → ((i : ℕ) → length (m i) ≤ most_changes) → (n : ℕ) → changes_before m n ≤ most_changes * n
before_low m few zero = omega arith
before_low m few (suc n) = omega (arith, before_low m few n, few n)

module _ (inputs : ℕ) (h : Schedule) (e : changes_suit inputs h ≡ true) where
  abbrev small : Bool
  small = every (map (λ (k : ℕ). leb k most_changes) h.counts)

  abbrev add_up : Bool
  add_up = eqb (start_of h.counts inputs) (length h.times)

  abbrev within : Bool
  within = every (map (between 1 last_change) h.times)

  abbrev rise : Bool
  rise = every (map (rise_above 0) (tabulate inputs (moments_from h)))

  passed : (length h.counts ≡ inputs) × (small ≡ true) × (start_of h.counts inputs ≡ length h.times) × (within ≡ true) × (rise ≡ true)
  unfolding changes_suit
  passed =
      let a = eqb (length h.counts) inputs in
      let r1 = and_right a (small && (add_up && (within && rise))) e in
      let r2 = and_right small (add_up && (within && rise)) r1 in
      let r3 = and_right add_up (within && rise) r2 in
      (eqb-true (length h.counts) inputs (and_left a (small && (add_up && (within && rise))) e), and_left small (add_up && (within && rise)) r1, eqb-true (start_of h.counts inputs) (length h.times) (and_left add_up (within && rise) r2), and_left within rise r3, and_right within rise r3)

  none_behind : (i : ℕ) → inputs ≤ i → get_or h.counts i 0 ≡ 0
  none_behind i l = get_or-eq_default h.counts 0 {n = i} (rw passed.0 l)

  count_is : (i : ℕ) → length (moments_from h i) ≡ get_or h.counts i 0
  count_is i =
      elim (order inputs i) [
        | inl l ↦ rw (none_behind i l)
        | inr l ↦ simp (length-take, length-drop) (omega (arith, start_mono h.counts i inputs l, passed.2))
      ]

  starts_are : (i : ℕ) → i ≤ inputs → changes_before (moments_from h) i ≡ start_of h.counts i
  starts_are zero l = refl
  starts_are (suc i) l = ap₂ ◌+◌ (starts_are i (omega arith)) (count_is i)

  rises : (i : ℕ) → rise_above 0 (moments_from h i) ≡ true
  rises i =
      elim (order inputs i) [
        | inl l ↦ rw (none_behind i l)
        | inr l ↦ every_from (rise_above 0) (moments_from h) inputs 0 passed.4 i (omega arith) (omega arith)
      ]

  pub suited : Suited inputs h
  suited =
      record {
        each = passed.0;
        ordered = rises;
        few = λ i. rw (count_is i) (leb-true (get_or h.counts i 0) most_changes (every_at (λ (k : ℕ). leb k most_changes) h.counts passed.1 0 refl i));
        early = λ i t a. among_early t h.times passed.3
            (among_drop (start_of h.counts i) t h.times (among_take (get_or h.counts i 0) t (drop (start_of h.counts i) h.times) a));
        starts = starts_are;
        count = count_is;
        total = passed.2;
      }
