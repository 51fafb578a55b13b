-- `specs/Conversions`, proved: both ways at once, and then each.
-- Assumes nothing.
use Prim.Native.Nat.{ℕ, ◌≤◌}
use mathlib.Core.Path.{◌≡◌, sym, ap, subst, ◌∙◌}
use mathlib.Core.Bool.{Bool, true, false, cond}
use mathlib.Core.List.{List, []}
use native.Mathlib.Omega.{arith}
use lib.ListN.{length, take}
use lib.Dec.{eqb, leb}
use borrow.Author.Tests.{eqb-true, eq-eqb}
use Rattle.lists.specs.Ladder.{first_no, accepted}
use Rattle.lists.specs.Areas.{padded}
use Rattle.lists.specs.Outcome.{Outcome, outcome}
use Rattle.lists.proofs.Ladders.{asked, ask_yes, all_asked, first_none, unless_none, accepted_none}
use Rattle.lists.proofs.Padding.{pad_length, pad_front, pad_behind}
use Rattle.method.specs.Circuit.{Circuit}
use Rattle.editions.specs.declared.Edition.{Edition}
use Rattle.editions.specs.Edition.{former, present}
use Rattle.editions.specs.File.{circuit_of}
use Rattle.editions.specs.Limits.{Writable, Within}
use Rattle.editions.specs.Questions.{questions, inputs_and_gates_of, read_of}
use Rattle.editions.specs.Encode.{encode}
use Rattle.editions.specs.Faithful.{Bytes, Faithful}
use Rattle.editions.proofs.Faithful.{faithful, former_writable, present_writable}
use Rattle.filing.specs.Filed.{area_length}
use Rattle.filing.proofs.Filed.{file_most, filed_yes, answered_yes, left_yes}
use Rattle.numbers.specs.Numbers.{number_at}
use Rattle.converter.specs.Convert.{delays_up_to, newer_of, older_of, present_from, other_of}
use Rattle.converter.specs.Conversions.{Holds, Conversions}
use Rattle.converter.specs.Steps.{questions_by, converted_by}
use Rattle.converter.proofs.Asking.{rest, joined}
use Rattle.converter.proofs.Both.{low_within, within_other, newer_is, older_is}
use Rattle.std.specs.Prelude.{Result, Ok}
use Rattle.method.specs.declared.Refusal.{Refusal}
use Rattle.method.specs.Refusals.{on_paper}

-- ---- both ways at once

module _ (from to : Edition) (fit-from : Writable from) (fit-to : Writable to) where
  true_from : Faithful from
  true_from = faithful from fit-from

  true_to : Faithful to
  true_to = faithful to fit-to

  -- what an acceptance says
  record Yes (file area : List ℕ) (n : ℕ) : Type 0 where
    read : read_of from file ≡ accepted (inputs_and_gates_of from file)
    long : length area ≡ area_length
    within_from : Within from (circuit_of from file)
    within_to : Within to (circuit_of from file)
    answer : n ≡ length (encode to (circuit_of from file))
    left : (converted_by from to file area).left ≡ padded area_length (encode to (circuit_of from file))

  yes_all : (file area : List ℕ) (n : ℕ) → (converted_by from to file area).answer ≡ accepted n → Yes file area n
  unfolding converted_by read_of
  yes_all file area n e =
      let f = encode to (circuit_of from file) in
      let q = answered_yes (questions_by from to file area) f area e in
      let parts = first_none (first_no (questions from file)) (first_no (rest from to file area)) (sym (joined from to file area) ∙ q.0) in
      let a1 = asked (eqb (length area) area_length) 10 _ (λ z. omega arith) parts.1 in
      let a2 = asked (delays_up_to to.most (circuit_of from file).gates) 23 [] (λ z. omega arith) a1.1 in
      let long = eqb-true _ _ a1.0 in
      let read = unless_none (first_no (questions from file)) (inputs_and_gates_of from file) parts.0 in
      let w = true_from.within file _ read in
      record {
        read = read;
        long = long;
        within_from = w;
        within_to = within_other from to (circuit_of from file) w a2.0;
        answer = sym q.1;
        left = left_yes (questions_by from to file area) f area q.0 ∙ rw long;
      }

  pub reads : (file area : List ℕ) (n : ℕ) → (converted_by from to file area).answer ≡ accepted n → Holds to (circuit_of from file) n (converted_by from to file area).left
  reads file area n e =
      let y = yes_all file area n e in
      let f = encode to (circuit_of from file) in
      let most = file_most to from (circuit_of from file) y.within_from in
      let front : take n (converted_by from to file area).left ≡ f = rw (y.left, y.answer) (pad_front area_length f) in
      record {
        long = rw y.left (pad_length area_length f most);
        room = omega (arith, most, y.answer);
        rest = rw (y.left, y.answer) (pad_behind area_length f);
        bytes = rw front (true_to.bytes (circuit_of from file) y.within_to);
        accepts = rw front (true_to.accepts (circuit_of from file) y.within_to);
        means = rw front (true_to.means (circuit_of from file) y.within_to);
      }

  pub back : (file area area' : List ℕ) (n : ℕ) → Bytes file → (converted_by from to file area).answer ≡ accepted n → length area' ≡ area_length
      → converted_by to from (take n (converted_by from to file area).left) area' ≡ outcome (accepted (length file)) (padded area_length file)
  unfolding converted_by read_of
  back file area area' n b e l =
      let y = yes_all file area n e in
      let c = circuit_of from file in
      let f = encode to c in
      let front : take n (converted_by from to file area).left ≡ f = rw (y.left, y.answer) (pad_front area_length f) in
      let same : circuit_of to f ≡ c = true_to.means c y.within_to in
      let first-yes = (accepted_none (first_no (questions to f)) (inputs_and_gates_of to f) (true_to.accepts c y.within_to)).0 in
      let low : delays_up_to from.most (circuit_of to f).gates ≡ true = rw same (low_within from from.most c (omega arith) y.within_from) in
      let whole : encode from (circuit_of to f) ≡ file = rw same (true_from.written file _ b y.read) in
      let none : first_no (questions_by to from f area') ≡ 0 = joined to from f area' ∙ rw first-yes (ask_yes _ _ _ (eq-eqb _ _ l) ∙ ask_yes _ _ _ low ∙ all_asked) in
      rw front (sym (filed_yes (questions_by to from f area') (encode from (circuit_of to f)) area' none (rw whole) (rw (whole, l))))

pub conversions : Conversions
conversions =
    record {
      newer_reads = λ file area n e. subst (λ o. Holds present (circuit_of former file) n o.left) (newer_is file area) (reads former present former_writable present_writable file area n (rw (newer_is file area) e));
      older_reads = λ file area n e. subst (λ o. Holds former (circuit_of present file) n o.left) (older_is file area) (reads present former present_writable former_writable file area n (rw (older_is file area) e));
      newer_back = λ file area area' n b e l. rw (← newer_is file area, ← older_is (take n (converted_by former present file area).left) area') (back former present former_writable present_writable file area area' n b (rw (newer_is file area) e) l);
      older_back = λ file area area' n b e l. rw (← older_is file area, ← newer_is (take n (converted_by present former file area).left) area') (back present former present_writable former_writable file area area' n b (rw (older_is file area) e) l);
    }

-- ---- the file that a conversion leaves lies within the area

within_left : {ed : Edition} {c : Circuit} {n : ℕ} {left : List ℕ} → Holds ed c n left → n ≤ length left
within_left h = omega (arith, h.room, h.long)

other_most : (file area : List ℕ) (n : ℕ) → (other_of file area).answer ≡ accepted n → n ≤ length (other_of file area).left
unfolding other_of
other_most file area n e = go (leb present_from (number_at file 0)) e
  where
    go : (b : Bool) → (cond b (older_of file area) (newer_of file area)).answer ≡ accepted n → n ≤ length (cond b (older_of file area) (newer_of file area)).left
    go true y = within_left (conversions.older_reads file area n y)
    go false y = within_left (conversions.newer_reads file area n y)

pub other_inside : (file area : List ℕ) {area' : List ℕ} {r : Result ℕ Refusal} → outcome (on_paper r) area' ≡ other_of file area → {n : ℕ} → r ≡ Ok n → n ≤ length area'
other_inside file area {area'} e {n} w =
    subst (λ (l : List ℕ). n ≤ length l) (sym (ap (λ (o : Outcome ℕ (List ℕ)). o.left) e))
    (other_most file area n (sym (ap (λ (o : Outcome ℕ (List ℕ)). o.answer) e) ∙ ap on_paper w))
