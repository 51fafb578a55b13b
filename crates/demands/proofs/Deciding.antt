-- A call that answers by its ladder of questions answers as demand 1 has it, and leaves what document 01 lays down.
-- Assumes nothing.
use Prim.Native.Nat.{ℕ, zero, suc}
use mathlib.Core.Path.{◌≡◌, refl, sym, ap, subst, ◌∙◌}
use mathlib.Core.Bool.{Bool, true, false}
use mathlib.Core.List.{List, [], ◌∷◌}
use native.Mathlib.Omega.{arith}
use borrow.Author.Tests.{ne_eqb}
use Rattle.lists.specs.Ladder.{Question, first_no, unless}
use Rattle.lists.specs.Outcome.{left_by, left_unless}
use Rattle.lists.specs.Every.{none, one}
use Rattle.lists.proofs.Choices.{and_left, and_right}
use Rattle.lists.proofs.Ladders.{is_number, number_some, numbered, unless_none, unless_some}
use Rattle.lists.proofs.Leaving.{left_none, left_some}
use Rattle.demands.specs.Answers.{AllYes, FirstFails, Answered, all_yes, first_no_lem, Leaves, LeavesUnless, SameRefusal, refusals, acceptances}

-- every answer is yes, or there is a first "no"
data Decision (qs : List Question) : Type 0 where
  yes_all : AllYes qs → first_no qs ≡ 0 → Decision qs
  no_first : (q : Question) → FirstFails qs q → first_no qs ≡ q.number → (q.number ≡ 0 → ⊥) → Decision qs

decide : (qs : List Question) → numbered qs ≡ true → Decision qs
unfolding first_no
decide [] h = yes_all none refl
decide (q ∷ qs) h = go q.yes refl (decide qs (and_right (is_number q.number) _ h))
  where
    go : (b : Bool) → q.yes ≡ b → Decision qs → Decision (q ∷ qs)
    go true e (yes_all all z) = yes_all (one e all) (rw e z)
    go true e (no_first p f is some) =
        no_first p (record { before = q ∷ f.before; behind = f.behind; splits = ap (λ (ps : List Question). q ∷ ps) f.splits; passed = one e f.passed; fails = f.fails })
        (rw e is) some
    go false e d = no_first q (record { before = []; behind = qs; splits = refl; passed = none; fails = e }) (rw e) (number_some q.number (and_left (is_number q.number) _ h))

pub answered : {R : Type 0} (qs : List Question) → numbered qs ≡ true → (values : R) → Answered qs values (unless (first_no qs) values)
answered qs h values = go (decide qs h)
  where
    go : Decision qs → Answered qs values (unless (first_no qs) values)
    go (yes_all all z) = subst (Answered qs values) (sym (unless_none (first_no qs) values z)) (all_yes all)
    go (no_first q f is some) =
        subst (Answered qs values) (sym (ap (λ (n : ℕ). unless n values) is ∙ unless_some q.number values some)) (first_no_lem q f)

pub leaves : {R S : Type 0} (n : ℕ) (values : R) (filled zeros entry : S) → Leaves (unless n values) filled zeros entry (left_by n filled zeros entry)
unfolding unless
leaves zero values filled zeros entry = left_none filled zeros entry
leaves (suc n) values filled zeros entry = left_some filled zeros entry (suc n) (λ z. omega arith)

pub leaves_unless : {R S : Type 0} (n : ℕ) (values : R) (filled entry : S) → LeavesUnless (unless n values) filled entry (left_unless n filled entry)
unfolding unless left_unless
leaves_unless zero values filled entry = refl
leaves_unless (suc n) values filled entry = rw (ne_eqb (suc n) 0 (λ z. omega arith))

-- the same first "no", whatever the values
pub same_refusal : {R : Type 0} (n : ℕ) (values values' : R) → SameRefusal (unless n values) (unless n values')
unfolding unless
same_refusal zero values values' = acceptances values values'
same_refusal (suc n) values values' = refusals (suc n)
