-- The areas of a plan, cleared one by one.
-- Assumes nothing.
use Prim.Native.Nat.{ℕ}
use mathlib.Core.Path.{◌≡◌}
use mathlib.Core.List.{List}
use Rattle.lists.specs.Areas.{cleared}
use Rattle.method.specs.Areas.{areas, all_cleared}

pub all_cleared_lem : (d t i f : List ℕ) {d' t' i' f' : List ℕ} → d' ≡ cleared d → t' ≡ cleared t → i' ≡ cleared i → f' ≡ cleared f
    → areas d' t' i' f' ≡ all_cleared (areas d t i f)
unfolding all_cleared
all_cleared_lem d t i f a b c g = cc
