-- The wave program's input: two bytes with the circuit's length, the circuit, I before words, I after words. Each input changes
-- once, at 1, so all is said by the rules for pattern pairs.
use Rattle.std.specs.Prelude.{ℕ, ◌+◌, ◌*◌, Bool, ◌&&◌, List, [], ◌∷◌, ◌++◌, length, take, drop, leb, eqb}
use Rattle.lists.specs.Ladder.{Question, ◌or_else◌}
use Rattle.lists.specs.Tables.{tabulate}
use Rattle.method.specs.WordLists.{WordLists, word_lists}
use Rattle.numbers.specs.Numbers.{number_at, word_at}
use Rattle.method.specs.Sums.{fits}
use Rattle.method.specs.Once.{frames_once}
use Rattle.circuit.specs.File.{inputs_of, circuit_of}
use Rattle.circuit.specs.Questions as reader

-- an input has at most this many bytes
abbrev pub most_bytes : ℕ
most_bytes = 4096

-- its first two bytes hold the circuit's length
abbrev pub head_bytes : ℕ
head_bytes = 2

abbrev pub circuit_length : List ℕ → ℕ
circuit_length input = number_at input 0

-- 0: Has it 2 bytes or more, 4,096 or fewer, and as many circuit bytes as it says?
unfoldable pub whole : List ℕ → Bool
whole input =
    leb head_bytes (length input) && (leb (length input) most_bytes && leb (head_bytes + circuit_length input) (length input))

-- the circuit file, and the word part behind it
unfoldable pub file_part : List ℕ → List ℕ
file_part input = take (circuit_length input) (drop head_bytes input)

unfoldable pub word_part : List ℕ → List ℕ
word_part input = drop (head_bytes + circuit_length input) input

-- n words of a word part, from its word `first` on
unfoldable pub words_from : List ℕ → ℕ → ℕ → List ℕ
words_from part first n = tabulate n (λ (i : ℕ). word_at part (8 * (first + i)))

-- the before words, and behind them the after words, one for each input of the file
abbrev pub words_of : List ℕ → List ℕ → WordLists
words_of file part = word_lists (words_from part 0 (inputs_of file)) (words_from part (inputs_of file) (inputs_of file))

-- the questions after 0: the reader's 1 to 9, then
-- 11: Is the word part 16 × I bytes?
-- 13: Has every net at most 64 frames, and all nets together at most 2,048?
unfoldable pub questions : List ℕ → List ℕ → List Question
questions file part =
    reader.questions file
    ++ (eqb (length part) (16 * inputs_of file) or_else 11) ∷ (fits (frames_once (circuit_of file)) or_else 13) ∷ []
