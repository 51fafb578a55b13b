-- Question 10, as it is asked.
-- Assumes nothing.
use Prim.Native.Nat.{ℕ}
use mathlib.Core.Path.{◌≡◌}
use mathlib.Core.Bool.{false}
use mathlib.Core.List.{List}
use lib.Dec.{eqb}
use lib.ListN.{length}
use borrow.Author.Tests.{eq-eqb, ne_eqb}
use Rattle.planner.specs.Limits.{directory_length, times_length, fanins_length}
use Rattle.method.specs.Areas.{areas}
use Rattle.planner.specs.Questions.{areas_suit}

module _ (d t i f : List ℕ) where
  pub directory_no : (length d ≡ directory_length → ⊥) → false ≡ areas_suit (areas d t i f)
  unfolding areas_suit
  directory_no n = rw (ne_eqb _ _ n)

  module _ (y1 : length d ≡ directory_length) where
    pub times_no : (length t ≡ times_length → ⊥) → false ≡ areas_suit (areas d t i f)
    unfolding areas_suit
    times_no n = simp (eq-eqb _ _ y1, ne_eqb _ _ n)

    module _ (y2 : length t ≡ times_length) where
      pub inertial_no : (length i ≡ times_length → ⊥) → false ≡ areas_suit (areas d t i f)
      unfolding areas_suit
      inertial_no n = simp (eq-eqb _ _ y1, eq-eqb _ _ y2, ne_eqb _ _ n)

      pub fanins_last : length i ≡ times_length → eqb (length f) fanins_length ≡ areas_suit (areas d t i f)
      unfolding areas_suit
      fanins_last y3 = simp (eq-eqb _ _ y1, eq-eqb _ _ y2, eq-eqb _ _ y3)
