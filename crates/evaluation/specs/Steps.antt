-- What evaluation's functions ask of each other and promise. A reader of Run's promise may skip this file.
use Rattle.std.specs.Prelude.{ℕ, ◌+◌, ◌*◌, ◌^◌, ◌<◌, ◌≤◌, ◌≡◌, Bool, true, false, not, if◌then◌else◌, length, get_or, take, bit_or, bit_xor}
use Rattle.std.specs.Bool.{beq}
use mathlib.Core.List.{List, ◌∷◌, map, flatten}
use Rattle.lists.specs.Ladder.{accepted}
use Rattle.lists.specs.Tables.{tabulate_from, tabulate, some}
use Rattle.method.specs.declared.Kind.{Kind}
use Rattle.method.specs.declared.Kind.TheVariants.{Buf, Not, And, Nand, Or, Nor, Xor, Xnor}
use Rattle.method.specs.Kinds.{ones, odd, gate_fn, most_fanins, takes}
use Rattle.method.specs.Words.{lanes, lane, pack}
use Rattle.method.specs.Changes.{start_of, changes_suit}
use Rattle.method.specs.WordLists.{WordLists, Lengths}
use Rattle.editions.specs.declared.GateRecord.{GateRecord}
use Rattle.circuit.specs.File.{inputs_of, gates_of, fanin_at}
use Rattle.circuit.specs.Questions.{read_of}
use Rattle.circuit.specs.Task.{Task, frames_in, packed_in}
use Rattle.method.specs.Areas.{areas}
use Rattle.method.specs.Layout.{laid, first_frame, frame_count, part_of, all_times, all_fanins}
use Rattle.words.specs.Filtered.{filtered_words}
use Rattle.evaluation.specs.declared.rows.Rule.{Rule}

-- ---- the raw word of one frame

-- the word of a gate from its fan-ins' words: in every lane the gate's function of that lane's bits
unfoldable pub gate_word : Kind → List ℕ → ℕ
gate_word k words = pack lanes (λ (L : ℕ). gate_fn k (map (lane L) words))

-- all 64 lanes, or none
abbrev pub mask : Bool → ℕ
mask true = 18446744073709551615
mask false = 0

-- how a kind works on its entries: whether an odd number has to be 1, or at least one, each turned; whether the result is
-- flipped
abbrev pub turned : Kind → Bool
turned And = true
turned Nand = true
turned Buf = false
turned Not = false
turned Or = false
turned Nor = false
turned Xor = false
turned Xnor = false

abbrev pub parity : Kind → Bool
parity Xor = true
parity Xnor = true
parity Buf = false
parity Not = false
parity And = false
parity Nand = false
parity Or = false
parity Nor = false

abbrev pub flipped : Kind → Bool
flipped Not = true
flipped And = true
flipped Nor = true
flipped Xnor = true
flipped Buf = false
flipped Nand = false
flipped Or = false
flipped Xor = false

abbrev pub rule_of : Kind → Rule
rule_of k = record { kind = k; parity = parity k; turn = mask (turned k); flip = mask (flipped k) }

-- r has the lanes in which some of these words, each turned, is 1
pub record SomeOf (turn : ℕ) (words : List ℕ) (r : ℕ) : Type 0 where
  pub is : (L : ℕ) → lane L r ≡ some (map (λ (w : ℕ). not (beq (lane L w) (lane L turn))) words)

-- r has the lanes in which an odd number of these words are 1
pub record OddOf (words : List ℕ) (r : ℕ) : Type 0 where
  pub is : (L : ℕ) → lane L r ≡ odd (ones (map (lane L) words))

-- what a rule makes of the word of the entries so far and one entry more
abbrev pub joined : Rule → ℕ → ℕ → ℕ
joined r word entry = if r.parity then bit_xor word entry else bit_or word (bit_xor entry r.turn)

-- what is called with two words gives that
abbrev pub Joins : Rule → (ℕ → ℕ → ℕ → Type 0) → Type 0
Joins rule gives = (word entry r : ℕ) → word < 2 ^ lanes → entry < 2 ^ lanes → gives word entry r → r ≡ joined rule word entry

-- where entry e of the fan-in row at `at` points to, if the fan-ins' frames start at these bases; and the word there
abbrev pub target : List ℕ → List ℕ → ℕ → ℕ → ℕ
target bases fan at e = get_or bases e 0 + get_or fan (at + e) 0

abbrev pub source_at : List ℕ → List ℕ → List ℕ → ℕ → ℕ → ℕ
source_at v bases fan at e = get_or v (target bases fan at e) 0

-- the entry at this place points below `limit`
pub record Points (limit base : ℕ) (fan : List ℕ) (place : ℕ) : Type 0 where
  pub within : place < length fan
  pub below : base + get_or fan place 0 < limit

-- the words that the row points to
abbrev pub sources : List ℕ → List ℕ → List ℕ → ℕ → ℕ → List ℕ
sources v bases fan at entries = tabulate entries (source_at v bases fan at)

-- the row lies within the fan-in area and points below `limit`
pub record Row (limit : ℕ) (bases fan : List ℕ) (at entries : ℕ) : Type 0 where
  pub few : entries ≤ most_fanins
  pub within : at + entries ≤ length fan
  pub points : (e : ℕ) → e < entries → target bases fan at e < limit

-- ---- the raw words of one gate

-- of n frames, whose rows start at `at`
unfoldable pub raw_words : List ℕ → List ℕ → List ℕ → Kind → ℕ → ℕ → ℕ → List ℕ
raw_words v bases fan k entries at n = tabulate n (λ (i : ℕ). gate_word k (sources v bases fan (at + i * entries) entries))

-- a gate whose n frames start at `first`: there is room for them, and their rows point below them
pub record Raw (size : ℕ) (bases fan : List ℕ) (k : Kind) (at entries first n : ℕ) : Type 0 where
  pub taken : takes k entries ≡ true
  pub few : entries ≤ most_fanins
  pub room : first + n ≤ size
  pub within : at + n * entries ≤ length fan
  pub points : (i e : ℕ) → i < n → e < entries → target bases fan (at + i * entries) e < first

-- where the frames of a gate's fan-ins start
abbrev pub bases_of : List ℕ → List ℕ → GateRecord → List ℕ
bases_of file d g = tabulate g.entries (λ (e : ℕ). first_frame d (fanin_at file g.list e))

-- a list or an array that has them for a fan-in list with this many entries, which starts at byte `list`
pub record Bases (file d : List ℕ) (list entries : ℕ) (bases : List ℕ) : Type 0 where
  pub base : (e : ℕ) → e < entries → get_or bases e 0 ≡ first_frame d (fanin_at file list e)

-- ---- one gate

-- the words of a gate on this net, whose fan-in rows start at `at`
unfoldable pub gate_words : List ℕ → List ℕ → List ℕ → List ℕ → ℕ → GateRecord → ℕ → List ℕ → List ℕ
gate_words file d i f net g at v =
    filtered_words (part_of d i net) (raw_words v (bases_of file d g) f g.kind g.entries at (frame_count d net))

-- the plan's areas hold what evaluating the gate reads
pub record Ready (file d i f : List ℕ) (size net : ℕ) (g : GateRecord) (at : ℕ) : Type 0 where
  pub pair : 2 * net + 1 < length d
  pub fanin_list : g.list + 2 * g.entries ≤ length file
  pub fanin_pair : (e : ℕ) → e < g.entries → 2 * fanin_at file g.list e < length d
  pub raw : Raw size (bases_of file d g) f g.kind at g.entries (first_frame d net) (frame_count d net)
  pub indices : first_frame d net + frame_count d net ≤ length i
  pub still : g.inertial ≡ 0 → (k : ℕ) → get_or (part_of d i net) k 0 ≡ 0

-- ---- all gates

-- the areas hold the plan of an accepted file and of change times that suit it, with some times, and are long enough for it
pub record Planned (task : Task) (d i f : List ℕ) : Type 0 where
  pub read : read_of task.file ≡ accepted (record { inputs = inputs_of task.file; gates = gates_of task.file })
  pub suits : changes_suit (inputs_of task.file) task.schedule ≡ true
  pub times : List ℕ
  pub is : areas d times i f ≡ laid (frames_in task) (areas d times i f)
  pub pairs : 2 * length (frames_in task) ≤ length d
  pub indices : length (all_times (frames_in task)) ≤ length i
  pub rows : length (all_fanins (frames_in task)) ≤ length f

-- the values area has a word for each frame
pub record Roomy (task : Task) (v : List ℕ) : Type 0 where
  pub words : length (all_times (frames_in task)) ≤ length v

-- the values area starts with the packed values of the first n nets
pub record Holds (task : Task) (w : WordLists) (n : ℕ) (v : List ℕ) : Type 0 where
  pub is : take (length (all_times (take n (frames_in task)))) v ≡ flatten (tabulate n (packed_in task w))

-- ---- the inputs

-- n after words, those from place `start` on
abbrev pub after_words : List ℕ → ℕ → ℕ → List ℕ
after_words after start n = tabulate_from n start (λ (k : ℕ). get_or after k 0)

-- the words of the first n inputs: of each its before word and its after words, as many as its count
unfoldable pub input_words : List ℕ → WordLists → ℕ → List ℕ
input_words counts w n =
    flatten (tabulate n (λ (i : ℕ). get_or w.before i 0 ∷ after_words w.after (start_of counts i) (get_or counts i 0)))

-- a count for each before word, as many after words as the counts add up to, and room for all of them
pub record Fed (counts : List ℕ) (l : Lengths) (v : List ℕ) : Type 0 where
  pub each : length counts ≡ l.before
  pub add_up : start_of counts l.before ≡ l.after
  pub room : l.before + l.after ≤ length v

-- ---- the whole

-- a before word for each input, an after word for each change, a place in the values for each frame, and this many frames
pub record Driven (task : Task) (l : Lengths) (v : List ℕ) (total : ℕ) : Type 0 where
  pub before_each : l.before ≡ inputs_of task.file
  pub after_each : l.after ≡ length task.schedule.times
  pub words : Roomy task v
  pub total_is : total ≡ length (all_times (frames_in task))
