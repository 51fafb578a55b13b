-- Questions 13 and 22 without areas, and Size's ladder.
-- Assumes nothing.
use Prim.Native.Nat.{ℕ}
use mathlib.Core.Path.{◌≡◌, refl, sym, ap, ◌∙◌}
use mathlib.Core.Bool.{Bool, true, false, not}
use mathlib.Core.List.{List, ◌∷◌}
use native.Mathlib.Omega.{arith}
use borrow.Author.Tests.{not-true, not-false}
use Rattle.lists.specs.Ladder.{Question, ◌or_else◌, first_no, accepted, unless, refused}
use Rattle.lists.proofs.Ladders.{is_number, numbered, each_append, ask_yes, ask_no, unless_none, unless_some}
use Rattle.method.specs.declared.Totals.{Totals}
use Rattle.method.specs.Changes.{changes_suit}
use Rattle.method.specs.Sums.{limited, within_limit, totals_of}
use Rattle.circuit.specs.File.{inputs_of, gates_of}
use Rattle.circuit.specs.Questions as reader
use Rattle.circuit.specs.Task.{Task, frames_in}
use Rattle.circuit.proofs.Present.{questions_numbered}
use Rattle.circuit.proofs.Ahead.{own_decide, read_no, read_yes}
use Rattle.counting.specs.Steps.{Asked, Totalled}
use Rattle.limiting.specs.Questions.{last_questions}
use Rattle.limiting.proofs.Last.{last_13, last_22, last_yes}
use Rattle.sizes.specs.Sizes.{size_questions, size_of}
use Rattle.sizes.specs.Steps.{totals_within}
use Rattle.std.specs.Prelude.{Option, Some, None}
use Rattle.editions.specs.declared.InputsAndGates.{InputsAndGates}

-- ---- 13 and 22

module _ (task : Task) (limit : ℕ) where
  number : {n : ℕ} → first_no (last_questions limit (frames_in task)) ≡ n → (n ≡ 0 → ⊥) → refused n ≡ totals_within task limit
  unfolding totals_within
  number {n} e some = sym (rw e (unless_some n (totals_of (frames_in task)) some))

  module _ {q : Option Totals} (h : Totalled task q) where
    pub many : q ≡ None → refused 13 ≡ totals_within task limit
    many e = number (last_13 limit (frames_in task) (h.stopped e)) (λ z. omega arith)

    module _ {t : Totals} (e : q ≡ Some t) {ok : Bool} (is : ok ≡ within_limit limit t.frames) where
      total_asked : ok ≡ limited limit (frames_in task)
      unfolding limited totals_of
      total_asked = is ∙ ap (λ (x : Totals). within_limit limit x.frames) (h.totals t e)

      pub above : not ok ≡ true → refused 22 ≡ totals_within task limit
      above n = number (last_22 limit (frames_in task) (h.fit t e) (sym total_asked ∙ not-true ok n)) (λ z. omega arith)

      pub within : not ok ≡ false → accepted t ≡ totals_within task limit
      unfolding totals_within
      within y =
          ap accepted (h.totals t e)
          ∙ sym (unless_none (first_no (last_questions limit (frames_in task))) (totals_of (frames_in task)) (last_yes limit (frames_in task) (h.fit t e) (sym total_asked ∙ not-false ok y)))

-- ---- Size

module _ (task : Task) (limit : ℕ) where
  abbrev own : List Question
  own = (changes_suit (inputs_of task.file) task.schedule or_else 20) ∷ last_questions limit (frames_in task)

  pub size_numbered : numbered (size_questions task limit) ≡ true
  unfolding size_questions
  size_numbered = each_append is_number (reader.questions task.file) own (questions_numbered task.file) refl

  refusal : {n : ℕ} → first_no (size_questions task limit) ≡ n → (n ≡ 0 → ⊥) → refused n ≡ size_of task limit
  unfolding size_of
  refusal {n} e some = sym (rw e (unless_some n (totals_of (frames_in task)) some))

  pub size_read : {n : ℕ} → refused n ≡ reader.read_of task.file → refused n ≡ size_of task limit
  unfolding size_questions
  size_read e = let q = read_no task.file own e in refusal q.0 (λ z. omega (arith, q.1))

  module _ {s : InputsAndGates} (e : accepted s ≡ reader.read_of task.file) {on : Bool} (at : on ≡ changes_suit s.inputs task.schedule) where
    timed : on ≡ changes_suit (inputs_of task.file) task.schedule
    timed = at ∙ rw (read_yes task.file own e).1

    past_9 : first_no (size_questions task limit) ≡ first_no own
    unfolding size_questions
    past_9 = own_decide task.file own (read_yes task.file own e).0

    pub size_20 : not on ≡ true → refused 20 ≡ size_of task limit
    size_20 n = refusal (past_9 ∙ ask_no (changes_suit (inputs_of task.file) task.schedule) 20 _ (sym timed ∙ not-true on n)) (λ z. omega arith)

    module _ (t : not on ≡ false) where
      pub size_asked : Asked task × (s.inputs ≡ inputs_of task.file) × (s.gates ≡ gates_of task.file)
      size_asked = let y = read_yes task.file own e in (record { read = y.0; suits = sym timed ∙ not-false on t }, y.1, y.2)

      -- the rest is 13 and 22
      pub size_last : totals_within task limit ≡ size_of task limit
      unfolding totals_within size_of
      size_last = ap (λ (n : ℕ). unless n (totals_of (frames_in task))) (sym (past_9 ∙ ask_yes (changes_suit (inputs_of task.file) task.schedule) 20 _ (sym timed ∙ not-false on t)))
