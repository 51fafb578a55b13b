-- A packed run: 64 stimuli at once, each lane by itself. All lanes have the same change times.
use Rattle.std.specs.Prelude.{ℕ, zero, suc, ◌+◌, false, List, [], ◌∷◌, length, get_or}
use Rattle.lists.specs.Tables.{tabulate}
use Rattle.method.specs.Circuit.{Circuit}
use Rattle.method.specs.Stimulus.{Change, Stimuli, Moments}
use Rattle.method.specs.Frames.{frames_at}
use Rattle.method.specs.Traces.{trace_at}
use Rattle.method.specs.Words.{lanes, lane, pack}
use Rattle.method.specs.WordLists.{WordLists}

-- how many changes the inputs before input i have
abbrev pub changes_before : Moments → ℕ → ℕ
changes_before m zero = 0
changes_before m (suc i) = changes_before m i + length (m i)

-- changes at these times, to lane L's bits of the words from place j on
abbrev pub changes_to : ℕ → List ℕ → ℕ → List ℕ → List Change
changes_to L words j [] = []
changes_to L words j (t ∷ ts) = record { time = t; bit = lane L (get_or words j 0) } ∷ changes_to L words (suc j) ts

-- the stimulus of lane L: that lane's bits of each input's before word and of its after words, one for each change, inputs in
-- order
abbrev pub lane_of : ℕ → Moments → WordLists → Stimuli
lane_of L m w i = record { before = lane L (get_or w.before i 0); changes = changes_to L w.after (changes_before m i) (m i) }

-- the word of frame k of net n: in every lane the value of that lane's own trace
unfoldable pub packed_word : Circuit → Moments → WordLists → ℕ → ℕ → ℕ
packed_word c m w n k = pack lanes (λ (L : ℕ). get_or (trace_at c (lane_of L m w) n).values k false)

-- the words of net n, frame by frame
unfoldable pub packed_values : Circuit → Moments → WordLists → ℕ → List ℕ
packed_values c m w n = tabulate (length (frames_at c m n).times) (packed_word c m w n)
