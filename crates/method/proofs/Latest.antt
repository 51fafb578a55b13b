-- The last potential time: the greatest of joined lists, and of times that rise.
-- Assumes nothing.
use Prim.Native.Nat.{ℕ, suc, ◌-◌, max}
use mathlib.Core.Path.{◌≡◌, sym, ap, ◌∙◌}
use mathlib.Core.List.{List, [], ◌∷◌, ◌++◌}
use native.Mathlib.Omega.{arith}
use native.Mathlib.Nat.{zero-max, max-eq_left, max-eq_right}
use lib.ListN.{length, get_or}
use Rattle.method.proofs.Rising.{Rise, Starts}
use Rattle.method.specs.Sums.{latest}

max_assoc : (a b c : ℕ) → max a (max b c) ≡ max (max a b) c
max_assoc a b c = omega arith

pub latest_append : (xs ys : List ℕ) → latest (xs ++ ys) ≡ max (latest xs) (latest ys)
unfolding latest
latest_append [] ys = sym (zero-max (latest ys))
latest_append (x ∷ xs) ys = ap (max x) (latest_append xs ys) ∙ max_assoc x (latest xs) (latest ys)

last_of_rise : (p : ℕ) (ts : List ℕ) → Rise p ts → max p (latest ts) ≡ get_or (p ∷ ts) (length ts) 0
unfolding latest
last_of_rise p [] r = max-eq_left (omega arith)
last_of_rise p (t ∷ ts) r = max_assoc p t (latest ts) ∙ rw (max-eq_right {n = p} {m = t} (omega arith)) (last_of_rise t ts r.1)

pub latest_is : (ts : List ℕ) → Starts ts → latest ts ≡ get_or ts (length ts - 1) 0
unfolding latest
latest_is [] r = absurd r
latest_is (t ∷ ts) r = last_of_rise t ts r.1 ∙ ap (λ (n : ℕ). get_or (t ∷ ts) n 0) (let q : length ts ≡ suc (length ts) - 1 = omega arith in q)
