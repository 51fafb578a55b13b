-- The time-by-time machine. It knows no frames and runs for one lane: each net is a wave, its level at every time.
use Rattle.std.specs.Prelude.{ℕ, zero, suc, ◌-◌, Bool, false, cond, List, [], ◌∷◌, map, leb, get_or}
use Rattle.lists.specs.Tables.{tabulate_from, all_same}
use Rattle.method.specs.Kinds.{gate_fn}
use Rattle.method.specs.Circuit.{Gate, Circuit}
use Rattle.method.specs.Nets.{nets}
use Rattle.method.specs.Stimulus.{Change, Stimulus, Stimuli}

abbrev pub Wave : Type 0
Wave = ℕ → Bool

-- the bit of the latest of these changes not after t, else v
abbrev pub latest_bit : Bool → List Change → Wave
latest_bit v [] t = v
latest_bit v (c ∷ cs) t = latest_bit (cond (leb c.time t) c.bit v) cs t

-- an input: the bit of its latest change not after t, else the before-bit
abbrev pub input_wave : Stimulus → Wave
input_wave s t = latest_bit s.before s.changes t

-- a gate's raw(t): the function of its fan-ins' out at t - d, or at 0 if t < d, where the difference of numbers is 0
abbrev pub raw_wave : Gate → List Wave → Wave
raw_wave g fanins t = gate_fn g.kind (map (λ (out : Wave). out (t - g.delay)) fanins)

-- is raw equal at every time from t to t + di?
unfoldable pub settled : ℕ → Wave → ℕ → Bool
settled di raw t = all_same (raw t) (tabulate_from (suc di) t raw)

-- out(0) = raw(0); out(t) = raw(t) if raw is equal at every time from t to t + di, else out(t - 1)
abbrev pub out_wave : ℕ → Wave → Wave
out_wave di raw zero = raw 0
out_wave di raw (suc t) = cond (settled di raw (suc t)) (raw (suc t)) (out_wave di raw t)

abbrev pub gate_wave : Gate → List Wave → Wave
gate_wave g fanins = out_wave g.inertial (raw_wave g fanins)

-- stands for a net that does not exist
abbrev pub no_wave : Wave
no_wave t = false

-- all nets of a circuit
unfoldable pub waves : Circuit → Stimuli → List Wave
waves c s = nets no_wave gate_wave (λ (i : ℕ). input_wave (s i)) c

-- out(t) of net n
abbrev pub machine : Circuit → Stimuli → ℕ → Wave
machine c s n = get_or (waves c s) n no_wave
