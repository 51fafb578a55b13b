-- Expectations as bytes: records of 12, at most 1,024 of them.
use Rattle.std.specs.Prelude.{ℕ, ◌+◌, ◌*◌, ◌/◌, ◌%◌, Bool, ◌&&◌, List, length, leb, eqb}
use Rattle.lists.specs.Tables.{tabulate}
use Rattle.numbers.specs.Numbers.{byte_at, number_at}
use Rattle.expectations.specs.declared.Expectation.{Expectation}

abbrev pub record_length : ℕ
record_length = 12

abbrev pub most_records : ℕ
most_records = 1024

-- the time whose four bytes start at `at`
unfoldable pub time_at : List ℕ → ℕ → ℕ
time_at bytes at = number_at bytes at + 65536 * number_at bytes (at + 2)

-- the record that starts at `at`: the net in bytes 0 and 1, the lane in 2, the level in 3, `from` in 4 to 7, `to` in 8 to 11
unfoldable pub record_at : List ℕ → ℕ → Expectation
record_at bytes at = record {
  net = record { 0 = number_at bytes at };
  lane = byte_at bytes (at + 2);
  from = record { 0 = time_at bytes (at + 4) };
  to = record { 0 = time_at bytes (at + 8) };
  level = byte_at bytes (at + 3);
}

abbrev pub record_count : List ℕ → ℕ
record_count bytes = length bytes / record_length

-- the first n records
unfoldable pub first_records : List ℕ → ℕ → List Expectation
first_records bytes n = tabulate n (λ (i : ℕ). record_at bytes (record_length * i))

-- are the bytes a whole number of records, at most 1,024?
unfoldable pub records_suit : List ℕ → Bool
records_suit bytes = eqb (length bytes % record_length) 0 && leb (record_count bytes) most_records
