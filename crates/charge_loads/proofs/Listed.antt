-- Question 21: the tests of a charge and of a load, and the loads counted. The number of nets that the
-- fold finds is that of a circuit exactly where the list suits the circuit.
-- Assumes nothing.
use Prim.Native.Nat.{ℕ, suc, ◌+◌, ◌-◌, ◌≤◌, ◌<◌, min}
use mathlib.Core.Path.{◌≡◌, refl, sym, ap, ◌∙◌}
use mathlib.Core.Logic.{inl, inr}
use mathlib.Core.Bool.{Bool, true, false, not, cond, ◌&&◌, ◌||◌}
use mathlib.Core.List.{List, [], ◌∷◌, map}
use native.Mathlib.Omega.{arith}
use lib.Dec.{eqb}
use lib.ListN.{length}
use lib.Ieee.{Float, nan, binary64, lt, eq, le, of_bits, of_int}
use Rattle.std.specs.Prelude.{Some, None}
use Rattle.std.specs.List.{fold}
use Rattle.std.specs.declared.cmp.Ordering.TheVariants.{Less, Equal, Greater}
use Rattle.std.specs.Ordering.{is_some_and, is_le, partial_le, float_partial_cmp}
use Rattle.std.specs.Range.{range_inclusive_start, range_inclusive_end, range_inclusive_exhausted, range_inclusive_contains}
use borrow.Author.Tests.{le-ltb, lt-ltb, ne_eqb, not-true, not-false}
use Rattle.lists.specs.Tables.{every}
use Rattle.lists.proofs.Choices.{either, order}
use Rattle.charge_loads.specs.declared.Load.{Load}
use Rattle.charge_loads.specs.declared.Load.TheVariants.{Any, Edges}
use Rattle.charge_loads.specs.Suits.{nought, most_charge, in_range, suits, all_suit, loads_suit}
use Rattle.charge_loads.specs.Steps.{no_circuit, with_load, loaded_from, nets_loaded}

-- what a read past the end of a list of loads gives. No read goes there
abbrev pub no_load : Load
no_load = Any nan

-- ---- a charge's range. A float literal of the code is what `of_bits` makes of its pattern

pub nought_bits : of_bits binary64 0 ≡ nought
unfolding of_bits of_int
nought_bits = refl

most_bits : of_bits binary64 4652007308841189376 ≡ most_charge
unfolding of_bits of_int
most_bits = refl

-- `<=` is what the order of floats says
le_by_order : (x y : Float) → partial_le float_partial_cmp x y ≡ le x y
unfolding le
le_by_order x y = go (lt x y) (eq x y) (lt y x)
  where
    go : (below equal above : Bool) → is_some_and is_le (cond below (Some Less) (cond equal (Some Equal) (cond above (Some Greater) None))) ≡ below || equal
    go true equal above = refl
    go false true above = refl
    go false false true = refl
    go false false false = refl

-- the range from 0 to 1,000 has a charge
pub in_range_by : (x : Float) {s : _} {r : Bool} → range_inclusive_start s ≡ of_bits binary64 0 → range_inclusive_end s ≡ of_bits binary64 4652007308841189376 → range_inclusive_exhausted s ≡ false
    → r ≡ range_inclusive_contains float_partial_cmp s x → r ≡ in_range x
unfolding in_range
in_range_by x low high fresh e = e ∙ rw (low, high, fresh, nought_bits, most_bits, le_by_order nought x, le_by_order x most_charge)

-- ---- a load

module _ {load : Load} where
  pub any_suits : {charge : Float} {r : Bool} → load ≡ Any charge → r ≡ in_range charge → r ≡ suits load
  unfolding suits
  any_suits e f = rw (e, f)

  module _ {rising falling : Float} (e : load ≡ Edges rising falling) {up : Bool} (f : up ≡ in_range rising) where
    pub both_suit : up ≡ true → {down : Bool} → down ≡ in_range falling → down ≡ suits load
    unfolding suits
    both_suit y g = rw (e, ← f, y, g)

    pub first_unfit : up ≡ false → up ≡ suits load
    unfolding suits
    first_unfit n = rw (e, ← f, n)

-- ---- the loads counted

pub counted_by_fold : (list : List Load) → fold (λ (n : ℕ) (load : Load). with_load load n) 0 list ≡ nets_loaded list
unfolding nets_loaded loaded_from
counted_by_fold list = from list 0
  where
    from : (list : List Load) (nets : ℕ) → fold (λ (n : ℕ) (load : Load). with_load load n) nets list ≡ loaded_from list nets
    from [] nets = refl
    from (load ∷ list) nets = from list (with_load load nets)

-- one load more
module _ (load : Load) (nets : ℕ) {r : Bool} (e : r ≡ suits load) where
  pub more_unfit : not r ≡ true → no_circuit ≡ with_load load nets
  unfolding with_load
  more_unfit n = rw (← e, not-true r n)

  module _ (y : not r ≡ false) where
    pub more_full : no_circuit ≤ nets → no_circuit ≡ with_load load nets
    unfolding with_load
    more_full l = rw (← e, not-false r y, le-ltb nets no_circuit l)

    pub more_on : nets < no_circuit → nets + 1 ≡ with_load load nets
    unfolding with_load
    more_on l = rw (← e, not-false r y, lt-ltb nets no_circuit l)

-- ---- what the count says, for a circuit of so many nets

loaded_is : (loads : List Load) (k : ℕ) → k ≤ no_circuit → loaded_from loads k ≡ cond (all_suit loads) (min (k + length loads) no_circuit) no_circuit
unfolding loaded_from with_load all_suit
loaded_is [] k h = omega arith
loaded_is (load ∷ loads) k h = elim (either (suits load)) [
  | inl y ↦ elim (order no_circuit k) [
    | inl l ↦ rw (y, le-ltb k no_circuit l) (loaded_is loads no_circuit (omega arith) ∙ ap (λ (m : ℕ). cond (every (map suits loads)) m no_circuit) (let q : min (no_circuit + length loads) no_circuit ≡ min (k + suc (length loads)) no_circuit = omega arith in q))
    | inr l ↦ rw (y, lt-ltb k no_circuit l) (loaded_is loads (k + 1) (omega arith) ∙ ap (λ (m : ℕ). cond (every (map suits loads)) m no_circuit) (let q : min (k + 1 + length loads) no_circuit ≡ min (k + suc (length loads)) no_circuit = omega arith in q))
  ]
  | inr n ↦ rw n (loaded_is loads no_circuit (omega arith) ∙ same (every (map suits loads)) (let q : min (no_circuit + length loads) no_circuit ≡ no_circuit = omega arith in q))
]
  where
    same : (b : Bool) {m : ℕ} → m ≡ no_circuit → cond b m no_circuit ≡ no_circuit
    same true e = e
    same false e = refl

with_true : (b : Bool) → b ≡ b && true
with_true true = refl
with_true false = refl

with_false : (b : Bool) → b && false ≡ false
with_false true = refl
with_false false = refl

pub suits_by_count : (loads : List Load) (nets : ℕ) → nets < no_circuit → eqb (nets_loaded loads) nets ≡ loads_suit nets loads
unfolding nets_loaded loads_suit
suits_by_count loads nets h = ap (λ (m : ℕ). eqb m nets) (loaded_is loads 0 (omega arith)) ∙ by_all (all_suit loads)
  where
    count : eqb (min (0 + length loads) no_circuit) nets ≡ eqb (length loads) nets
    count = elim (order (length loads) (no_circuit - 1)) [
      | inl l ↦ ap (λ (m : ℕ). eqb m nets) (let q : min (0 + length loads) no_circuit ≡ length loads = omega arith in q)
      | inr l ↦ ne_eqb (min (0 + length loads) no_circuit) nets (omega arith) ∙ sym (ne_eqb (length loads) nets (omega arith))
    ]

    by_all : (b : Bool) → eqb (cond b (min (0 + length loads) no_circuit) no_circuit) nets ≡ eqb (length loads) nets && b
    by_all true = count ∙ with_true (eqb (length loads) nets)
    by_all false = ne_eqb no_circuit nets (omega arith) ∙ sym (with_false (eqb (length loads) nets))
