-- What the wave program prints, and what the call that makes it answers and leaves in the buffer.
use Rattle.std.specs.Prelude.{ℕ, cond, List, length, eqb, Result, Ok, Err}
use Rattle.lists.specs.Ladder.{first_no}
use Rattle.lists.specs.Areas.{padded}
use Rattle.circuit.specs.File.{circuit_of}
use Rattle.waveform.specs.declared.OtherLength.{OtherLength}
use Rattle.waveform.specs.Input.{whole, file_part, word_part, words_of, questions}
use Rattle.text.specs.Text.{refusal}
use Rattle.waveform.specs.Lines.{lines}

-- a file and a word part: `refused` and the number of the first "no", or the lines
unfoldable pub answer_text : List ℕ → List ℕ → List ℕ
answer_text file part =
    let n : ℕ = first_no (questions file part) in
    cond (eqb n 0) (lines (circuit_of file) (words_of file part)) (refusal n)

-- an input, whole or not
unfoldable pub text_of : List ℕ → List ℕ
text_of input = cond (whole input) (answer_text (file_part input) (word_part input)) (refusal 0)

-- the buffer has exactly this length
abbrev pub buffer_length : ℕ
buffer_length = 24000

-- on paper: the text's length, or that the buffer has another length
pub data PrintAnswer : Type 0 where
  printed : ℕ → PrintAnswer
  other_length : PrintAnswer

-- what the call answers, with what it leaves in the buffer
pub record Page : Type 0 where
  pub answer : PrintAnswer
  pub left : List ℕ

abbrev pub page : PrintAnswer → List ℕ → Page
page r buffer = record { answer = r; left = buffer }

-- a buffer of the right length holds the text, then zeros; in any other nothing is written
unfoldable pub wave_of : List ℕ → List ℕ → Page
wave_of input buffer =
    cond (eqb (length buffer) buffer_length) (page (printed (length (text_of input))) (padded buffer_length (text_of input)))
    (page other_length buffer)

-- the call's result in these terms
unfoldable pub on_paper : Result ℕ OtherLength → PrintAnswer
on_paper (Ok n) = printed n
on_paper (Err _) = other_length
