-- What the functions that give an answer in numbers say, put together with what a call says of its answer and areas.
use mathlib.Core.Path.{◌≡◌, refl, ap, ◌∙◌}
use Prim.Native.Nat.{ℕ}
use mathlib.Core.List.{List, [], ◌∷◌}
use Rattle.lists.specs.Ladder.{Answer}
use Rattle.lists.specs.Outcome.{Outcome, outcome}
use Rattle.std.specs.Prelude.{Result, Ok, Err, Option}
use Rattle.method.specs.declared.Refusal.{Refusal}
use Rattle.method.specs.Refusals.{first_of, on_paper}
use Rattle.expectations.specs.declared.Unmet.{Unmet}
use Rattle.expectations.specs.Verdict.{verdict_on_paper}
use Rattle.expectations.specs.Verdict as marking
use Rattle.looks.specs.declared.Sight as code
use Rattle.looks.specs.Look.{seen_on_paper}
use Rattle.looks.specs.Sight.{end_on_paper, sight_on_paper}
use mir.Val.{bool_byte}
use mathlib.Core.Bool.{Bool, true, false, cond}
use Rattle.answers.specs.Numbers.{Numbers, numbers, numbered, in_numbers, outcome_in, given, end_number, sight_numbers, verdict_numbers}

module _ {R : Type 0} (own : R → List ℕ) (array : List ℕ) {n : Numbers} {r : Answer R} where
  pub given_answer : {s : Answer R} → n ≡ in_numbers own array r → r ≡ s → n ≡ in_numbers own array s
  given_answer gave answered = gave ∙ ap (in_numbers own array) answered

  pub given_outcome : {S : Type 0} {a : S} {o : Outcome R S} → n ≡ in_numbers own array r → outcome r a ≡ o → numbered n a ≡ outcome_in own array o
  unfolding outcome_in
  given_outcome {S} {a = a} gave answered = ap (λ (m : Numbers). numbered m a) gave ∙ ap (outcome_in own array) answered

-- what `give` says of a result, in the words of its answer on paper
module _ (array : List ℕ) {n : ℕ} {array' : List ℕ} where
  pub given_numbers : {A : Type 0} (own : A → List ℕ) (r : Result A Refusal) → n ≡ first_of r → array' ≡ given own r array → numbers n array' ≡ in_numbers own array (on_paper r)
  unfolding in_numbers
  given_numbers own (Ok a) e f = rw (e, f)
  given_numbers own (Err q) e f = rw (e, f)

  pub given_sight : (r : Result code.Sight Refusal) → n ≡ first_of r → array' ≡ given (λ s. sight_numbers (sight_on_paper s)) r array → numbers n array' ≡ in_numbers sight_numbers array (seen_on_paper r)
  unfolding in_numbers seen_on_paper
  given_sight (Ok s) e f = rw (e, f)
  given_sight (Err q) e f = rw (e, f)

  pub given_verdict : (r : Result (Option Unmet) Refusal) → n ≡ first_of r → array' ≡ given (λ v. verdict_numbers (verdict_on_paper v)) r array → numbers n array' ≡ in_numbers verdict_numbers array (marking.on_paper r)
  unfolding in_numbers marking.on_paper
  given_verdict (Ok v) e f = rw (e, f)
  given_verdict (Err q) e f = rw (e, f)

-- the same of a call that leaves areas, as one equation: so it needs no step of a proof named
pub given_areas : {A S : Type 0} (own : A → List ℕ) (array : List ℕ) (r : Result A Refusal) (a : S) → outcome_in own array (outcome (on_paper r) a) ≡ numbered (numbers (first_of r) (given own r array)) a
unfolding outcome_in in_numbers
given_areas own array (Ok n) a = refl
given_areas own array (Err q) a = refl

level_number : (level : Bool) → bool_byte level ≡ cond level 1 0
level_number true = refl
level_number false = refl

-- the numbers of what is seen, with the level as the code has it, and this end
pub seen_numbers : (s : code.Sight) {end : ℕ} → end ≡ end_number (end_on_paper s.until) → ◌≡◌ {A = List ℕ} (bool_byte s.level ∷ s.began.0 ∷ end ∷ []) (sight_numbers (sight_on_paper s))
unfolding sight_numbers sight_on_paper
seen_numbers s e = rw (level_number s.level, e)
