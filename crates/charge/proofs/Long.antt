-- A list that is longer than any circuit's is refused with 21, or before it, whatever its loads are: so a part of it that is as much too
-- long answers and leaves the same.
-- Assumes nothing.
use Prim.Native.Nat.{ℕ, zero, suc, ◌<◌}
use mathlib.Core.Path.{◌≡◌, refl, sym, ap, ap₂, ◌∙◌}
use mathlib.Core.Bool.{Bool, false, ◌&&◌, true≢false}
use mathlib.Core.List.{List}
use native.Mathlib.Omega.{arith}
use lib.Dec.{ltb}
use lib.ListN.{length}
use borrow.Author.Tests.{ne_eqb}
use Rattle.lists.specs.Ladder.{first_no, refused}
use Rattle.lists.specs.Outcome.{outcome}
use Rattle.lists.proofs.Ladders.{unless_some}
use Rattle.method.specs.Words.{lanes}
use Rattle.method.specs.WordLists.{WordLists, Lengths, lengths_of}
use Rattle.circuit.specs.Task.{Task, nets_in}
use Rattle.engine.specs.Areas.{Areas}
use Rattle.engine.specs.Questions.{first_questions}
use Rattle.engine.specs.Run.{run_left}
use Rattle.engine.proofs.Asking.{few_nets}
use Rattle.engine.proofs.Accepted.{parts}
use Rattle.charge_loads.specs.declared.Load.{Load}
use Rattle.charge_loads.specs.Suits.{all_suit, loads_suit}
use Rattle.charge.specs.Questions.{asked_with, questions}
use Rattle.charge.specs.Charge.{charge_of}
use Rattle.charge.proofs.Laddered.{ladder_early, ladder_yes}

module _ (task : Task) (limit : ℕ) (l : Lengths) (a : Areas) (L : ℕ) where
  -- where the questions before are answered yes, the list does not suit
  unsuited : (loads : List Load) → 160 < length loads → first_no (first_questions task l a) ≡ 0 → loads_suit (nets_in task) loads ≡ false
  unfolding loads_suit
  unsuited loads h e = ap (λ (b : Bool). b && all_suit loads) (ne_eqb (length loads) (nets_in task) (omega (arith, few_nets task l a e)))

  -- else one of them has the first "no"
  same_no : (loads loads' : List Load) → 160 < length loads → 160 < length loads' → first_no (questions task limit l a loads L) ≡ first_no (questions task limit l a loads' L)
  same_no loads loads' h h' = go (first_no (first_questions task l a)) refl
    where
      go : (n : ℕ) → first_no (first_questions task l a) ≡ n → first_no (questions task limit l a loads L) ≡ first_no (questions task limit l a loads' L)
      go zero e = ap (λ (b : Bool). first_no (asked_with task limit l a (ltb L lanes) b)) (unsuited loads h e ∙ sym (unsuited loads' h' e))
      go (suc n) e =
          let some : first_no (first_questions task l a) ≡ 0 → ⊥ = λ z. omega (arith, e) in
          ladder_early task limit l a (ltb L lanes) (loads_suit (nets_in task) loads) some ∙ sym (ladder_early task limit l a (ltb L lanes) (loads_suit (nets_in task) loads') some)

  some_no : (loads : List Load) → 160 < length loads → first_no (questions task limit l a loads L) ≡ 0 → ⊥
  some_no loads h e =
      let yes = ladder_yes task limit l a (ltb L lanes) (loads_suit (nets_in task) loads) e in
      true≢false (sym yes.1 ∙ unsuited loads h (parts task limit l a yes.2).0)

pub long_same : (task : Task) (limit : ℕ) (w : WordLists) (a : Areas) (loads loads' : List Load) (L : ℕ) → 160 < length loads → 160 < length loads' → charge_of task limit w a loads L ≡ charge_of task limit w a loads' L
unfolding charge_of
long_same task limit w a loads loads' L h h' =
    let same = same_no task limit (lengths_of w) a L loads loads' h h' in
    ap₂ outcome (unless_some _ _ (some_no task limit (lengths_of w) a L loads h) ∙ ap refused same ∙ sym (unless_some _ _ (some_no task limit (lengths_of w) a L loads' h')))
    (ap (λ (m : ℕ). run_left m task w a) same)
