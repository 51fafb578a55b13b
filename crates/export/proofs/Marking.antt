-- Mark on expectations that come as bytes: the two sides of 100.
use mathlib.Core.Path.{◌≡◌, ap, ◌∙◌}
use Prim.Native.Nat.{ℕ}
use mathlib.Core.Bool.{Bool, true, false, cond}
use mathlib.Core.List.{List}
use Rattle.lists.specs.Ladder.{Answer}
use Rattle.lists.specs.Outcome.{outcome}
use Rattle.method.specs.WordLists.{WordLists}
use Rattle.circuit.specs.Task.{Task}
use Rattle.engine.specs.Areas.{Areas}
use Rattle.expectations.specs.declared.Expectation.{Expectation}
use Rattle.expectations.specs.Verdict.{Verdict}
use Rattle.marking.specs.Mark.{mark_of}
use Rattle.answers.specs.Numbers.{Numbers, numbers, numbered, in_numbers, outcome_in, verdict_numbers}
use Rattle.answers.proofs.Given.{given_outcome}
use Rattle.records.specs.Records.{record_count, first_records, records_suit}
use Rattle.export.specs.Marked.{no_records, mark_in}

module _ (array : List ℕ) (task : Task) (limit : ℕ) (w : WordLists) (a : Areas) (bytes : List ℕ) where
  pub mark_none : false ≡ records_suit bytes → numbered (numbers no_records array) a ≡ mark_in array task limit w a bytes
  unfolding mark_in
  mark_none e = ap (λ (b : Bool). cond b (outcome_in verdict_numbers array (mark_of task limit w a (first_records bytes (record_count bytes)))) (numbered (numbers no_records array) a)) e

  pub mark_some : {n : Numbers} {r : Answer Verdict} {a' : Areas} {list : List Expectation} → true ≡ records_suit bytes → list ≡ first_records bytes (record_count bytes) → n ≡ in_numbers verdict_numbers array r → outcome r a' ≡ mark_of task limit w a list
      → numbered n a' ≡ mark_in array task limit w a bytes
  unfolding mark_in
  mark_some suits decoded gave marked =
      given_outcome verdict_numbers array gave (marked ∙ ap (mark_of task limit w a) decoded)
      ∙ ap (λ (b : Bool). cond b (outcome_in verdict_numbers array (mark_of task limit w a (first_records bytes (record_count bytes)))) (numbered (numbers no_records array) a)) suits
