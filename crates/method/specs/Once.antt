-- The rules as they were before inputs could change more than once: a pattern pair drives each input, and the inputs' rules are
-- these. One change at 1 gives the same: `old_rules` in `proofs/Once` proves it.
use Rattle.std.specs.Prelude.{ℕ, zero, suc, ◌<◌, ◌≡◌, Bool, false, ◌&&◌, length, get_or, replicate, eqb}
use mathlib.Core.List.{List, [], ◌∷◌, flatten}
use Rattle.lists.specs.Tables.{tabulate}
use Rattle.method.specs.Circuit.{Circuit}
use Rattle.method.specs.Nets.{nets}
use Rattle.method.specs.Stimulus.{Moments}
use Rattle.method.specs.Changes.{Schedule, schedule}
use Rattle.method.specs.Frames.{Frames, gate_frames, no_frames, frames}
use Rattle.method.specs.Traces.{Trace, gate_trace, no_trace, traces}
use Rattle.method.specs.Machine.{Wave, gate_wave, no_wave, machine}
use Rattle.method.specs.Words.{lanes, lane, pack}
use Rattle.method.specs.WordLists.{WordLists, Lengths}
use Rattle.method.specs.Packed.{lane_of}
use Rattle.method.specs.Values.{net_count, all_values}

-- an input's before-bit and after-bit; one pair for each input, by its number
pub record PatternPair : Type 0 where
  pub before : Bool
  pub after : Bool

abbrev pub Pairs : Type 0
Pairs = ℕ → PatternPair

-- ---- an input

-- its times are 0 and 1; it counts as di = 0 and has no fan-ins
abbrev pub pair_frames : Frames
pair_frames = record { times = 0 ∷ 1 ∷ []; inertial = 0 ∷ 0 ∷ []; rows = [] }

-- its values are the before-bit and the after-bit
abbrev pub pair_trace : PatternPair → Trace
pair_trace p = record { frames = pair_frames; values = p.before ∷ p.after ∷ [] }

-- its out is the before-bit at 0, the after-bit from 1
abbrev pub pair_wave : PatternPair → Wave
pair_wave p zero = p.before
pair_wave p (suc t) = p.after

-- ---- all nets

unfoldable pub frames_once : Circuit → List Frames
frames_once c = nets no_frames gate_frames (λ (i : ℕ). pair_frames) c

unfoldable pub traces_once : Circuit → Pairs → List Trace
traces_once c p = nets no_trace gate_trace (λ (i : ℕ). pair_trace (p i)) c

-- net n's potential times
abbrev pub times_once : Circuit → ℕ → List ℕ
times_once c n = (get_or (frames_once c) n no_frames).times

unfoldable pub machine_once : Circuit → Pairs → ℕ → Wave
machine_once c p n = get_or (nets no_wave gate_wave (λ (i : ℕ). pair_wave (p i)) c) n no_wave

-- ---- 64 lanes

-- the pattern pair of lane L: that lane's bits of each input's before word and after word
abbrev pub pair_of : ℕ → WordLists → Pairs
pair_of L w i = record { before = lane L (get_or w.before i 0); after = lane L (get_or w.after i 0) }

-- in lane L net n's values, frame by frame: those of that lane's own trace
abbrev pub lane_once : Circuit → WordLists → ℕ → ℕ → List Bool
lane_once c w L n = (get_or (traces_once c (pair_of L w)) n no_trace).values

-- the words of net n, frame by frame
unfoldable pub values_once : Circuit → WordLists → ℕ → List ℕ
values_once c w n = tabulate (length (times_once c n)) (λ (k : ℕ). pack lanes (λ (L : ℕ). get_or (lane_once c w L n) k false))

unfoldable pub all_values_once : Circuit → WordLists → List ℕ
all_values_once c w = flatten (tabulate (net_count c) (values_once c w))

-- ---- the words

-- 11: Have the before list and the after list I words each?
unfoldable pub words_suit_once : ℕ → Lengths → Bool
words_suit_once inputs l = eqb l.before inputs && eqb l.after inputs

-- ---- one change at 1

-- as many counts of 1 and times of 1
abbrev pub ones : ℕ → Schedule
ones inputs = schedule (replicate inputs 1) (replicate inputs 1)

-- each of so many inputs changes once, at 1
abbrev pub Once : ℕ → Moments → Type 0
Once inputs m = (i : ℕ) → i < inputs → m i ≡ 1 ∷ []

pub record OldRules (c : Circuit) (m : Moments) : Type 0 where
  pub same_frames : frames c m ≡ frames_once c
  pub same_traces : (w : WordLists) (L : ℕ) → traces c (lane_of L m w) ≡ traces_once c (pair_of L w)
  pub same_machine : (w : WordLists) (L n : ℕ) → machine c (lane_of L m w) n ≡ machine_once c (pair_of L w) n
  pub same_values : (w : WordLists) → all_values c m w ≡ all_values_once c w
