-- The reader's questions 1 to 9 in their order, in an edition, and what it answers.
use Rattle.std.specs.Prelude.{ℕ, zero, suc, ◌+◌, Bool, ◌&&◌, length, leb, eqb}
use mathlib.Core.List.{List, [], ◌∷◌, ◌++◌, flatten}
use Rattle.lists.specs.Ladder.{Question, ◌or_else◌, between, Answer, answer}
use Rattle.lists.specs.Tables.{tabulate, all_below}
use Rattle.numbers.specs.Numbers.{number_at}
use Rattle.method.specs.declared.Kind.{Kind}
use Rattle.method.specs.Kinds.{takes}
use Rattle.editions.specs.declared.Edition.{Edition}
use Rattle.editions.specs.File.{inputs_of, gates_of, head_length, offset_of, length_of, record_head, record_length, kind_byte, delay_of, inertial_of, entries_of, fanins_of, kind_of}
use Rattle.editions.specs.Limits.{most_inputs, most_gates, delays_suit}
use Rattle.editions.specs.declared.InputsAndGates.{InputsAndGates}

-- question 5, for the n pairs from pair j on: does the first start at `end`, each later one where the one before ended, is each
-- length `least` or more, and is the last end the file's length (for no pair: is `end`)? No sum wraps.
unfoldable pub fills : ℕ → List ℕ → ℕ → ℕ → ℕ → Bool
fills least file zero j end = eqb end (length file)
fills least file (suc n) j end =
    eqb (offset_of file j) end && (leb least (length_of file j) && fills least file n (suc j) (offset_of file j + length_of file j))

module _ (e : Edition) where
  -- 1: Has the file 4 bytes or more?
  -- 2: Is I from 1 to 32? In the present edition: do bytes 0-1 hold 257 to 288?
  -- 3: Is G from 0 to 128?
  -- 4: Are there at least 4 + 4G bytes?
  -- 5: Do the pairs start at 4 + 4G, lie end to end, and fill the file, each of 5 bytes or more (in the former edition 3)?
  unfoldable pub head_questions : List ℕ → List Question
  head_questions file =
      (leb 4 (length file) or_else 1)
      ∷ (between (1 + e.added) (most_inputs + e.added) (number_at file 0) or_else 2)
      ∷ (between 0 most_gates (gates_of file) or_else 3)
      ∷ (leb (head_length (gates_of file)) (length file) or_else 4)
      ∷ (fills (record_head e) file (gates_of file) 0 (head_length (gates_of file)) or_else 5)
      ∷ []

  -- the length is 5 + 2M for this M (in the former edition 3 + 2M), and the kind takes it
  unfoldable pub length_suits : ℕ → Kind → ℕ → Bool
  length_suits len kind entries = eqb len (record_length e entries) && takes kind entries

  -- of gate j, whose own net number is I + j:
  -- 6: Is the kind 0 to 7?
  -- 7: Is d from 1 to 60,000 and di from 0 to 60,000 (in the former edition to 63)?
  -- 8: Is the length 5 + 2M (in the former edition 3 + 2M) for an M of that kind?
  -- 9: Is every fan-in number below the gate's own net number?
  unfoldable pub gate_questions : List ℕ → ℕ → List Question
  gate_questions file j =
      (leb (kind_byte file j) 7 or_else 6)
      ∷ (delays_suit e (delay_of e file j) (inertial_of e file j) or_else 7)
      ∷ (length_suits (length_of file j) (kind_of (kind_byte file j)) (entries_of e file j) or_else 8)
      ∷ (all_below (inputs_of e file + j) (fanins_of e file j) or_else 9)
      ∷ []

  -- the reader's questions in their order: 1 to 5, then 6 to 9 gate by gate
  unfoldable pub questions : List ℕ → List Question
  questions file = head_questions file ++ flatten (tabulate (gates_of file) (gate_questions file))

  unfoldable pub inputs_and_gates_of : List ℕ → InputsAndGates
  inputs_and_gates_of file = record { inputs = inputs_of e file; gates = gates_of file }

  -- what the reader answers: the number of the first "no", or I and G
  unfoldable pub read_of : List ℕ → Answer InputsAndGates
  read_of file = answer (questions file) (inputs_and_gates_of file)
