-- What it says of a net that a level holds from a frame's begin to its end. `potential` tells the net's potential times, and
-- `wave` is its level at every time.
use Rattle.std.specs.Prelude.{ℕ, ◌≤◌, ◌<◌, ◌≡◌, Bool, true, false}
use Rattle.looks.specs.Sight.{End, at, never, Sight}

-- a time is before the end
abbrev pub Before : ℕ → End → Type 0
Before t (at next) = t < next
Before t never = Unit {0}

-- where there is an end, it is a potential time
abbrev pub EndsAt : (ℕ → Bool) → End → Type 0
EndsAt potential (at next) = potential next ≡ true
EndsAt potential never = Unit {0}

pub record Holds (potential wave : ℕ → Bool) (t : ℕ) (s : Sight) : Type 0 where
  -- the frame holds time t
  pub begun : s.began ≤ t
  pub lasts : Before t s.end
  -- it begins and ends at potential times, and there is none between
  pub begins_potential : potential s.began ≡ true
  pub ends_potential : EndsAt potential s.end
  pub none_between : (u : ℕ) → s.began < u → Before u s.end → potential u ≡ false
  -- from its begin until before its end, or for ever, the level is the one seen
  pub level_stays : (u : ℕ) → s.began ≤ u → Before u s.end → wave u ≡ s.level
