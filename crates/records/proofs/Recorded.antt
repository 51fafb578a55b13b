-- Bytes that are records, walked through one by one.
use mathlib.Core.Path.{◌≡◌, refl}
use Prim.Native.Nat.{ℕ, ◌+◌, ◌*◌, ◌%◌, ◌<◌, ◌≤◌}
use mathlib.Core.Bool.{true}
use mathlib.Core.List.{List, []}
use lib.ListN.{length, set, take}
use lib.Dec.{leb, eqb}
use borrow.Author.Tests.{leb-true}
use Rattle.lists.specs.Tables.{tabulate_from}
use Rattle.lists.proofs.Choices.{and_right}
use Rattle.lists.proofs.Tabled.{tabulate_set}
use Rattle.expectations.specs.declared.Expectation.{Expectation}
use Rattle.records.specs.Records.{record_length, most_records, record_at, record_count, first_records, records_suit}

-- ---- do they suit?
pub suits_count : (bytes : List ℕ) → records_suit bytes ≡ true → record_count bytes ≤ most_records
unfolding records_suit
suits_count bytes e = leb-true (record_count bytes) most_records (and_right (eqb (length bytes % record_length) 0) (leb (record_count bytes) most_records) e)

-- ---- one record more
pub records_none : (bytes : List ℕ) → [] ≡ first_records bytes 0
unfolding first_records tabulate_from
records_none bytes = refl

pub records_more : (bytes : List ℕ) (list : List Expectation) (k : ℕ) (e : Expectation) → k < length list → take k list ≡ first_records bytes k → e ≡ record_at bytes (record_length * k)
    → take (k + 1) (set list k e) ≡ first_records bytes (k + 1)
unfolding first_records
records_more bytes list k e = tabulate_set (λ (i : ℕ). record_at bytes (record_length * i)) list k e
