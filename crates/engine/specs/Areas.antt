-- The contents of the five areas that Run is lent: Plan's four, and the values.
use Rattle.std.specs.Prelude.{ℕ, List}
use Rattle.lists.specs.Areas.{cleared}
use Rattle.method.specs.Areas as planner

pub record Areas : Type 0 where
  pub plan : planner.Areas
  pub values : List ℕ

abbrev pub areas : List ℕ → List ℕ → List ℕ → List ℕ → List ℕ → Areas
areas d t i f v = record { plan = planner.areas d t i f; values = v }

-- each area all zeros
unfoldable pub all_cleared : Areas → Areas
all_cleared a = record { plan = planner.all_cleared a.plan; values = cleared a.values }
