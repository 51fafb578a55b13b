-- Mark on expectations that come as bytes, in numbers.
use Rattle.std.specs.Prelude.{ℕ, cond, List}
use Rattle.method.specs.WordLists.{WordLists}
use Rattle.circuit.specs.Task.{Task}
use Rattle.engine.specs.Areas.{Areas}
use Rattle.marking.specs.Mark.{mark_of}
use Rattle.answers.specs.Numbers.{Numbered, numbers, numbered, outcome_in, verdict_numbers}
use Rattle.records.specs.Records.{record_count, first_records, records_suit}

abbrev pub no_records : ℕ
no_records = 100

-- 100: Are the bytes a whole number of records, at most 1,024? It is asked first, and writes nothing, in the array neither. Else Mark on
-- the list that the bytes hold
unfoldable pub mark_in : List ℕ → Task → ℕ → WordLists → Areas → List ℕ → Numbered Areas
mark_in array task limit w a bytes =
    cond (records_suit bytes)
    (outcome_in verdict_numbers array (mark_of task limit w a (first_records bytes (record_count bytes))))
    (numbered (numbers no_records array) a)
