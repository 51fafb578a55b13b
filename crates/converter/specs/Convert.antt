-- From one edition of the circuit file to the other: the questions, and what the calls answer and leave.
use Rattle.std.specs.Prelude.{ℕ, Bool, cond, ◌&&◌, List, [], ◌∷◌, ◌++◌, map, leb}
use Rattle.lists.specs.Ladder.{Question, ◌or_else◌}
use Rattle.lists.specs.Tables.{every}
use Rattle.lists.specs.Outcome.{Outcome}
use Rattle.numbers.specs.Numbers.{number_at}
use Rattle.method.specs.Circuit.{Gate}
use Rattle.editions.specs.Edition.{former, present}
use Rattle.editions.specs.File.{circuit_of}
use Rattle.editions.specs.Questions as reader
use Rattle.editions.specs.Encode.{encode}
use Rattle.filing.specs.Filed.{area_question, filed_by}

-- is no delay of these gates above the greatest?
unfoldable pub delays_up_to : ℕ → List Gate → Bool
delays_up_to most gates = every (map (λ (g : Gate). leb g.delay most && leb g.inertial most) gates)

-- ---- old to new

-- the former reader's 1 to 9, then
-- 10: Has the area 4,096 bytes?
unfoldable pub newer_questions : List ℕ → List ℕ → List Question
newer_questions file area = reader.questions former file ++ area_question area ∷ []

-- the same circuit, in the present edition
abbrev pub newer_file : List ℕ → List ℕ
newer_file file = encode present (circuit_of former file)

unfoldable pub newer_of : List ℕ → List ℕ → Outcome ℕ (List ℕ)
newer_of file area = filed_by (newer_questions file area) (newer_file file) area

-- ---- new to old

-- the present reader's 1 to 9, then
-- 10: Has the area 4,096 bytes?
-- 23: Is no delay above 63?
unfoldable pub older_questions : List ℕ → List ℕ → List Question
older_questions file area =
    reader.questions present file ++ area_question area ∷ (delays_up_to former.most (circuit_of present file).gates or_else 23) ∷ []

abbrev pub older_file : List ℕ → List ℕ
older_file file = encode former (circuit_of present file)

unfoldable pub older_of : List ℕ → List ℕ → Outcome ℕ (List ℕ)
older_of file area = filed_by (older_questions file area) (older_file file) area

-- ---- whichever way, as the program `convert` goes: bytes 0-1 of 256 or more go to the present reader

abbrev pub present_from : ℕ
present_from = 256

unfoldable pub other_of : List ℕ → List ℕ → Outcome ℕ (List ℕ)
other_of file area = cond (leb present_from (number_at file 0)) (older_of file area) (newer_of file area)
