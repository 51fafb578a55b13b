-- The number of a kind and of a refusal, from what a conversion or a result says.
-- Assumes nothing.
use Prim.Native.Nat.{ℕ, ◌<◌}
use mathlib.Core.Path.{◌≡◌, refl, subst, ap}
use Rattle.std.specs.Prelude.{Result, Ok, Err, IsErr, IsErrAnd, Option, Some, None}
use Rattle.std.specs.Option.{ok_or}
use Rattle.method.specs.declared.Kind.{Kind}
use Rattle.method.specs.declared.NoKind.{NoKind}
use Rattle.method.specs.declared.Refusal.{Refusal}
use Rattle.method.specs.declared.Refusal.TheVariants.{ShortFile, InputCount, GateCount, ShortPairs, RecordPlaces, GateKind, Delays, RecordLength, FaninNumber, AreaLengths, WordCounts, Expectations, TooManyFrames, PartLengths, TimesNotRising, NoLane, ChangeTimes, Loads, AboveLimit, DelayTooLong}
use Rattle.method.specs.Kinds.{kind_number, Numbered}
use Rattle.method.specs.Refusals.{number_of}

pub number_is : {n : ℕ} {r : Result Kind NoKind} → Numbered n r → {k : Kind} → r ≡ Ok k → n ≡ kind_number k
number_is {n = n} h e = let P : Result Kind NoKind → Type 0 = λ r. Numbered n r in subst P e h

pub number_beyond : {n : ℕ} {r : Result Kind NoKind} → Numbered n r → {e : NoKind} → r ≡ Err e → 7 < n
number_beyond {n = n} h e = let P : Result Kind NoKind → Type 0 = λ r. Numbered n r in subst P e h

-- a refusal has a number
pub some_number : (r : Refusal) → number_of r ≡ 0 → ⊥
some_number ShortFile e = cc
some_number InputCount e = cc
some_number GateCount e = cc
some_number ShortPairs e = cc
some_number RecordPlaces e = cc
some_number GateKind e = cc
some_number Delays e = cc
some_number RecordLength e = cc
some_number FaninNumber e = cc
some_number AreaLengths e = cc
some_number WordCounts e = cc
some_number Expectations e = cc
some_number TooManyFrames e = cc
some_number PartLengths e = cc
some_number TimesNotRising e = cc
some_number NoLane e = cc
some_number ChangeTimes e = cc
some_number Loads e = cc
some_number AboveLimit e = cc
some_number DelayTooLong e = cc

-- what `?` hands on
pub passed_on : {A : Type 0} (r : Result A Refusal) {q : Refusal} → IsErr r × IsErrAnd r (λ y. y ≡ q) → r ≡ Err q
passed_on (Ok a) h = absurd h.1
passed_on (Err y) h = ap Err h.1

-- what `ok_or` says of the option
pub ok_or_some : {A : Type 0} (o : Option A) (e : Refusal) {a : A} → Ok a ≡ ok_or o e → o ≡ Some a
ok_or_some None e h = cc
ok_or_some (Some x) e h = cc

pub ok_or_none : {A : Type 0} (o : Option A) (e : Refusal) {q : Refusal} → Err q ≡ ok_or o e → (o ≡ None) × (q ≡ e)
ok_or_none None e h = (refl, cc)
ok_or_none (Some x) e h = cc
