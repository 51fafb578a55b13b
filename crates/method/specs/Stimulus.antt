-- What drives the inputs, in one lane: a bit before, and changes. The change times are the same in all lanes.
use Rattle.std.specs.Prelude.{ℕ, ◌≡◌, Bool, true, List, map}
use Rattle.method.specs.Times.{rise_above}

-- a change: its time, and the bit from then on
pub record Change : Type 0 where
  pub time : ℕ
  pub bit : Bool

-- an input's before-bit and its changes, in the order of their times
pub record Stimulus : Type 0 where
  pub before : Bool
  pub changes : List Change

-- one for each input, by its number
abbrev pub Stimuli : Type 0
Stimuli = ℕ → Stimulus

-- the change times of each input, by its number: all that the frames take of what drives the inputs
abbrev pub Moments : Type 0
Moments = ℕ → List ℕ

abbrev pub change_times : Stimulus → List ℕ
change_times s = map (λ (c : Change). c.time) s.changes

abbrev pub moments_of : Stimuli → Moments
moments_of s i = change_times (s i)

-- the change times of each input strictly rise, the first above 0
abbrev pub Ordered : Moments → Type 0
Ordered m = (i : ℕ) → rise_above 0 (m i) ≡ true
