-- The charges of nets depend on the levels of those nets that have loads, and there are as many as the nets' changes, which Count
-- counts.
-- Assumes nothing.
use Prim.Native.Nat.{ℕ, suc, ◌+◌, ◌≤◌, ◌<◌}
use mathlib.Core.Path.{◌≡◌, refl, ap, ap₂}
use mathlib.Core.Logic.{inl, inr}
use mathlib.Core.Bool.{Bool, beq}
use mathlib.Core.List.{List, [], ◌∷◌, ◌++◌}
use native.Mathlib.Omega.{arith}
use lib.ListN.{length}
use lib.Ieee.{Float}
use Rattle.lists.proofs.Choices.{either}
use Rattle.method.specs.Look.{changes_after, changes}
use Rattle.charge_loads.specs.declared.Load.{Load}
use Rattle.charge_loads.specs.Charges.{charges_after, charges, charges_from}

pub charges_ext : (f g : ℕ → List Bool) (i : ℕ) (loads : List Load) → ((k : ℕ) → i ≤ k → k < i + length loads → f k ≡ g k) → charges_from f i loads ≡ charges_from g i loads
unfolding charges_from
charges_ext f g i [] h = refl
charges_ext f g i (load ∷ loads) h =
    ap₂ (λ (ls : List Bool) (qs : List Float). charges load ls ++ qs) (h i (omega arith) (omega arith)) (charges_ext f g (suc i) loads (λ k a b. h k (omega arith) (omega arith)))

after_many : (load : Load) (v : Bool) (ws : List Bool) → length (charges_after load v ws) ≡ changes_after v ws
unfolding charges_after
after_many load v [] = refl
after_many load v (w ∷ ws) = elim (either (beq w v)) [
  | inl e ↦ rw e (after_many load w ws)
  | inr e ↦ rw e (ap suc (after_many load w ws))
]

pub net_many : (load : Load) (vs : List Bool) → length (charges load vs) ≡ changes vs
unfolding charges
net_many load [] = refl
net_many load (v ∷ vs) = after_many load v vs
