-- The inputs' change times as a call is lent them: a list of change counts and a list of times, inputs in order. Question 20.
use Rattle.std.specs.Prelude.{ℕ, zero, suc, ◌+◌, Bool, ◌&&◌, List, map, leb, eqb, length, get_or, take, drop}
use Rattle.lists.specs.Ladder.{between}
use Rattle.lists.specs.Tables.{tabulate, every}
use Rattle.method.specs.Times.{rise_above}
use Rattle.method.specs.Stimulus.{Moments}

pub record Schedule : Type 0 where
  pub counts : List ℕ
  pub times : List ℕ

abbrev pub schedule : List ℕ → List ℕ → Schedule
schedule counts times = record { counts = counts; times = times }

-- where the times of input i start: behind as many as the inputs before it have, by their counts
abbrev pub start_of : List ℕ → ℕ → ℕ
start_of counts zero = 0
start_of counts (suc i) = start_of counts i + get_or counts i 0

-- the change times of input i
abbrev pub moments_from : Schedule → Moments
moments_from h i = take (get_or h.counts i 0) (drop (start_of h.counts i) h.times)

abbrev pub most_changes : ℕ
most_changes = 8

abbrev pub last_change : ℕ
last_change = 255

-- 20: Is there a count for each of the I inputs, none above 8, do they add up to the number of times, is each time from 1 to
-- 255, and do those of each input strictly rise?
unfoldable pub changes_suit : ℕ → Schedule → Bool
changes_suit inputs h =
    eqb (length h.counts) inputs
    && (every (map (λ (k : ℕ). leb k most_changes) h.counts)
    && (eqb (start_of h.counts inputs) (length h.times)
    && (every (map (between 1 last_change) h.times) && every (map (rise_above 0) (tabulate inputs (moments_from h))))))
