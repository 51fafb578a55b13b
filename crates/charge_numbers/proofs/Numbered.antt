-- Loads as plain numbers, walked through one by one; and that a list which is cut off behind 161 loads answers as the whole list does.
-- Assumes nothing.
use Prim.Native.Nat.{ℕ, ◌+◌, ◌*◌, ◌<◌, ◌≤◌, min}
use mathlib.Core.Path.{◌≡◌, refl, ap, ◌∙◌}
use mathlib.Core.Logic.{inl, inr}
use mathlib.Core.Bool.{Bool, true, false, ◌&&◌}
use mathlib.Core.List.{List, [], ◌∷◌}
use native.Mathlib.Omega.{arith}
use native.Mathlib.Numerals.{add-one}
use lib.Dec.{ltb}
use lib.ListN.{length, get_or, set, take, drop, drop_of_length-le}
use lib.Seq.{drop-cons}
use lib.Ieee.{Float, binary64, of_bits}
use borrow.Author.Tests.{eq-eqb, lt-ltb, le-ltb}
use Rattle.std.specs.List.{list_all}
use Rattle.lists.specs.Tables.{tabulate_from, tabulate, all_below}
use Rattle.lists.specs.Outcome.{Outcome}
use Rattle.lists.proofs.Choices.{order}
use Rattle.lists.proofs.Tabled.{from_length, tabulate_set}
use Rattle.method.specs.WordLists.{WordLists}
use Rattle.circuit.specs.Task.{Task}
use Rattle.engine.specs.Areas.{Areas}
use Rattle.charge_loads.specs.declared.Load.{Load}
use Rattle.charge_loads.specs.Suits.{nought}
use Rattle.charge_loads.proofs.Listed.{nought_bits}
use Rattle.charge.specs.Charge.{Charge, charge_of}
use Rattle.charge.proofs.Long.{long_same}
use Rattle.charge_numbers.specs.Numbers.{load_at, loads_of, numbers_suit}
use Rattle.charge_numbers.specs.Steps.{room, first_loads}

-- ---- does each byte say a case?

cases_by_all : (cases : List ℕ) → list_all (λ (x : ℕ). ltb x 2) cases ≡ all_below 2 cases
unfolding all_below
cases_by_all [] = refl
cases_by_all (x ∷ cases) = ap (λ (b : Bool). ltb x 2 && b) (cases_by_all cases)

-- where there are two charges for each, that is the whole question
pub numbers_by_all : (cases : List ℕ) (charges : List Float) → length charges ≡ 2 * length cases → list_all (λ (x : ℕ). ltb x 2) cases ≡ numbers_suit cases charges
unfolding numbers_suit
numbers_by_all cases charges e = rw (eq-eqb (length charges) (2 * length cases) e) (cases_by_all cases)

-- the same from place k on
abbrev pub cases_from : List ℕ → ℕ → Bool
cases_from cases k = all_below 2 (drop k cases)

module _ (cases : List ℕ) (k : ℕ) where
  here : k < length cases → cases_from cases k ≡ ltb (get_or cases k 0) 2 && cases_from cases (k + 1)
  unfolding all_below
  here l = rw (add-one k, drop-cons cases k 0 l)

  pub cases_no : k < length cases → 1 < get_or cases k 0 → cases_from cases k ≡ false
  cases_no l n = here l ∙ rw (le-ltb (get_or cases k 0) 2 (omega arith))

  pub cases_on : k < length cases → get_or cases k 0 ≤ 1 → cases_from cases k ≡ cases_from cases (k + 1)
  cases_on l y = here l ∙ rw (lt-ltb (get_or cases k 0) 2 (omega arith))

  pub cases_end : length cases ≤ k → cases_from cases k ≡ true
  unfolding all_below
  cases_end l = rw (drop_of_length-le cases l)

-- ---- one charge

-- the literal 0 stands for what is not there
pub read_nought : (charges : List Float) (place : ℕ) → get_or charges place (of_bits binary64 0) ≡ get_or charges place nought
read_nought charges place = ap (get_or charges place) nought_bits

-- ---- one load more

module _ (cases : List ℕ) (charges : List Float) where
  pub loads_none : [] ≡ first_loads cases charges 0
  unfolding first_loads tabulate_from
  loads_none = refl

  pub loads_more : (list : List Load) (k : ℕ) (x : Load) → k < length list → take k list ≡ first_loads cases charges k → x ≡ load_at cases charges k → take (k + 1) (set list k x) ≡ first_loads cases charges (k + 1)
  unfolding first_loads
  loads_more list k x = tabulate_set (load_at cases charges) list k x

-- ---- a list that is cut off

module _ (task : Task) (limit : ℕ) (w : WordLists) (a : Areas) (cases : List ℕ) (charges : List Float) (L : ℕ) where
  cut_same : {count : ℕ} → count ≡ min (length cases) room → charge_of task limit w a (first_loads cases charges count) L ≡ charge_of task limit w a (loads_of cases charges) L
  unfolding first_loads loads_of
  cut_same {count} e = elim (order (length cases) 160) [
    | inl l ↦ ap (λ (n : ℕ). charge_of task limit w a (tabulate n (load_at cases charges)) L) (let q : count ≡ length cases = omega (arith, e, l) in q)
    | inr l ↦ long_same task limit w a (tabulate count (load_at cases charges)) (tabulate (length cases) (load_at cases charges)) L
        (let q : 160 < length (tabulate count (load_at cases charges)) = omega (arith, e, l, from_length count 0 (load_at cases charges)) in q)
        (let q : 160 < length (tabulate (length cases) (load_at cases charges)) = omega (arith, l, from_length (length cases) 0 (load_at cases charges)) in q)
  ]

  pub charged_on : {count : ℕ} {list : List Load} → count ≡ min (length cases) room → list ≡ first_loads cases charges count
      → {o : Outcome Charge Areas} → o ≡ charge_of task limit w a list L → o ≡ charge_of task limit w a (loads_of cases charges) L
  charged_on e is charged = charged ∙ ap (λ (loads : List Load). charge_of task limit w a loads L) is ∙ cut_same e
