-- In every lane the packed values are those of that lane's own run, whatever the other lanes hold.
-- `in_lanes` in `proofs/Lanes` proves it.
use Rattle.std.specs.Prelude.{ℕ, suc, ◌<◌, ◌≤◌, ◌^◌, ◌≡◌, ◌≢◌, Bool, true, List, map, get_or}
use Rattle.method.specs.Circuit.{Circuit}
use Rattle.method.specs.Stimulus.{Moments, moments_of, Ordered}
use Rattle.method.specs.Frames.{frames_at}
use Rattle.method.specs.Traces.{trace_at}
use Rattle.method.specs.Look.{level, changes}
use Rattle.method.specs.Machine.{machine}
use Rattle.method.specs.Words.{lanes, lane, pack}
use Rattle.method.specs.WordLists.{WordLists}
use Rattle.method.specs.Packed.{changes_before, lane_of, packed_values}
use Rattle.method.specs.Agreement.{potential, changed_times}

-- the level of net n at time t, and the count of its changes, by bit L of its packed values
abbrev pub lane_level : ℕ → Circuit → Moments → WordLists → ℕ → ℕ → Bool
lane_level L c m w n t = level (frames_at c m n).times (map (lane L) (packed_values c m w n)) t

abbrev pub lane_count : ℕ → Circuit → Moments → WordLists → ℕ → ℕ
lane_count L c m w n = changes (map (lane L) (packed_values c m w n))

-- two word lists have the same bit in lane L at each of the first n places
abbrev pub SameBits : ℕ → ℕ → List ℕ → List ℕ → Type 0
SameBits L n words words' = (i : ℕ) → i < n → lane L (get_or words i 0) ≡ lane L (get_or words' i 0)

-- the words of two runs agree in lane L: each of the I before words and of the after words, one for each change, has the same
-- bit there in both
pub record AgreeIn (L inputs changes : ℕ) (w w' : WordLists) : Type 0 where
  pub before : SameBits L inputs w.before w'.before
  pub after : SameBits L changes w.after w'.after

pub record Lanes : Type 0 where
  -- bit L of a packed word is the bit that was packed, and a word is determined by its 64 lanes
  pub packed_bit : (f : ℕ → Bool) (L : ℕ) → L < lanes → lane L (pack lanes f) ≡ f L
  pub by_lanes : (a b : ℕ) → a < 2 ^ lanes → b < 2 ^ lanes → ((L : ℕ) → L < lanes → lane L a ≡ lane L b) → a ≡ b
  -- a lane's stimulus has the change times of all lanes
  pub own_times : (L : ℕ) (m : Moments) (w : WordLists) → moments_of (lane_of L m w) ≡ m
  -- the packed values of a net have in lane L the values of that lane's own trace
  pub own_values : (c : Circuit) (m : Moments) (w : WordLists) (L : ℕ) → L < lanes → (n : ℕ)
      → map (lane L) (packed_values c m w n) ≡ (trace_at c (lane_of L m w) n).values
  -- so the level is that of the machine run for that lane's stimulus by itself, and the count that of its changes
  pub level_is_machine : (c : Circuit) (m : Moments) → Ordered m → (w : WordLists) (L : ℕ) → L < lanes → (n t : ℕ)
      → lane_level L c m w n t ≡ machine c (lane_of L m w) n t
  pub count_is_machine : (c : Circuit) (m : Moments) → Ordered m → (w : WordLists) (L : ℕ) → L < lanes
      → (n end : ℕ) → ((t : ℕ) → potential c m n t ≡ true → t ≤ end)
      → lane_count L c m w n ≡ changed_times (machine c (lane_of L m w) n) end
  -- from time 1 on the level changes only at a potential time
  pub changes_at_times : (c : Circuit) (m : Moments) → Ordered m → (w : WordLists) (L : ℕ) → L < lanes
      → (n t : ℕ) → lane_level L c m w n (suc t) ≢ lane_level L c m w n t → potential c m n (suc t) ≡ true
  -- and two runs with the same change times whose words agree in lane L are alike there
  pub same_level : (c : Circuit) (m : Moments) (w w' : WordLists) (L : ℕ) → L < lanes → AgreeIn L c.inputs (changes_before m c.inputs) w w'
      → (n t : ℕ) → lane_level L c m w n t ≡ lane_level L c m w' n t
  pub same_count : (c : Circuit) (m : Moments) (w w' : WordLists) (L : ℕ) → L < lanes → AgreeIn L c.inputs (changes_before m c.inputs) w w'
      → (n : ℕ) → lane_count L c m w n ≡ lane_count L c m w' n
