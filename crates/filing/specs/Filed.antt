-- What a call that writes a circuit file into a lent area answers and leaves there.
use Rattle.std.specs.Prelude.{ℕ, List, length, eqb}
use Rattle.lists.specs.Ladder.{Question, ◌or_else◌, first_no, unless}
use Rattle.lists.specs.Areas.{padded}
use Rattle.lists.specs.Outcome.{Outcome, outcome, left_unless}

-- the area has exactly this length
abbrev pub area_length : ℕ
area_length = 4096

-- 10: Has the area this length?
abbrev pub area_question : List ℕ → Question
area_question area = eqb (length area) area_length or_else 10

-- the file's length and the file in the area, its rest 0; a refusal is its number alone and writes nothing
unfoldable pub filed_by : List Question → List ℕ → List ℕ → Outcome ℕ (List ℕ)
filed_by questions file area =
    outcome (unless (first_no questions) (length file)) (left_unless (first_no questions) (padded (length area) file) area)
