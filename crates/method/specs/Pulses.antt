-- The pulse law of one net in one lane: a gate passes no pulse as short as its inertial delay. `demands/specs/Pulses` says it of
-- every gate's net after every accepted run.
use Rattle.std.specs.Prelude.{ℕ, suc, ◌+◌, ◌≤◌, ◌<◌, ◌≡◌, ◌≢◌, Bool, false, List, length, get_or}
use Rattle.method.specs.Filter.{filtered}
use Rattle.method.specs.Look.{changes}

-- a change is kept at frame k + 1: its value differs from that of the frame before. These are the changes that Count counts
abbrev pub KeptAt : List Bool → ℕ → Type 0
KeptAt values k = get_or values (suc k) false ≢ get_or values k false

-- di is the gate's inertial delay; its net's frames have these times, inertial indices and raw values, and these values
pub record Pulses (di : ℕ) (times inertial : List ℕ) (raw values : List Bool) : Type 0 where
  -- the values are the raw ones, filtered
  pub from_raw : values ≡ filtered inertial raw
  -- "two successive kept changes in a lane are more than di apart": any two are
  pub apart : (k l : ℕ) → k < l → suc l < length times → KeptAt values k → KeptAt values l
      → get_or times (suc k) 0 + di < get_or times (suc l) 0
  -- "Filtering an already filtered net again alters nothing."
  pub again : filtered inertial values ≡ values
  -- "A gate's kept changes never outnumber the changes of its own raw values"
  pub fewer : changes values ≤ changes raw
