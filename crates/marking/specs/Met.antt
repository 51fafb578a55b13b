-- When an expectation is met, and which of a list is the first that is not, by what is to hold at each time. `P e t` says that
-- expectation e is met at time t.
use Rattle.std.specs.Prelude.{ℕ, ◌<◌, ◌≤◌, ◌≡◌, List, ◌∷◌, ◌++◌, length}
use Rattle.lists.specs.Every.{Every}
use Rattle.method.specs.Indices.{last_frame}
use Rattle.expectations.specs.declared.Expectation.{Expectation}

-- at each time that it covers
abbrev pub MetBy : (Expectation → ℕ → Type 0) → Expectation → Type 0
MetBy P e = (t : ℕ) → e.from.0 ≤ t → t ≤ e.to.0 → P e t

-- it is not: `time` is the least time of the span at which it is not met, and frame k the last frame not later than that,
-- where a net has these times
pub record UnmetBy (P : Expectation → ℕ → Type 0) (times : ℕ → List ℕ) (e : Expectation) (k : ℕ) : Type 0 where
  pub time : ℕ
  pub since : e.from.0 ≤ time
  pub until : time ≤ e.to.0
  pub differs : P e time → ⊥
  pub least : (t : ℕ) → e.from.0 ≤ t → t < time → P e t
  pub frame : k ≡ last_frame (times e.net.0) time

-- the place (i, k) of a list: the expectation at position i is not met, by frame k, and all before it are
pub record PlaceBy (P : Expectation → ℕ → Type 0) (times : ℕ → List ℕ) (list : List Expectation) (i k : ℕ) : Type 0 where
  pub before : List Expectation
  pub expectation : Expectation
  pub behind : List Expectation
  pub splits : list ≡ before ++ (expectation ∷ behind)
  pub position : i ≡ length before
  pub met : Every (MetBy P) before
  pub unmet : UnmetBy P times expectation k
