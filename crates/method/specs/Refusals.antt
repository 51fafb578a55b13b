-- The number that each refusal gives.
use Rattle.std.specs.Prelude.{ℕ, Result, Ok, Err}
use Rattle.method.specs.declared.Refusal.{Refusal}
use Rattle.method.specs.declared.Refusal.TheVariants.{ShortFile, InputCount, GateCount, ShortPairs, RecordPlaces, GateKind, Delays, RecordLength, FaninNumber, AreaLengths, WordCounts, Expectations, TooManyFrames, PartLengths, TimesNotRising, NoLane, ChangeTimes, Loads, AboveLimit, DelayTooLong}
use Rattle.lists.specs.Ladder.{Answer, accepted, refused}

abbrev pub number_of : Refusal → ℕ
number_of ShortFile = 1
number_of InputCount = 2
number_of GateCount = 3
number_of ShortPairs = 4
number_of RecordPlaces = 5
number_of GateKind = 6
number_of Delays = 7
number_of RecordLength = 8
number_of FaninNumber = 9
number_of AreaLengths = 10
number_of WordCounts = 11
number_of Expectations = 12
number_of TooManyFrames = 13
number_of PartLengths = 14
number_of TimesNotRising = 15
number_of NoLane = 16
number_of ChangeTimes = 20
number_of Loads = 21
number_of AboveLimit = 22
number_of DelayTooLong = 23

-- the number of the first "no" that a result says, or 0 for none
abbrev pub first_of : {A : Type 0} → Result A Refusal → ℕ
first_of (Ok _) = 0
first_of (Err r) = number_of r

-- a call's result in the paper's terms: what it answers, or the number alone
abbrev pub on_paper : {A : Type 0} → Result A Refusal → Answer A
on_paper (Ok a) = accepted a
on_paper (Err r) = refused (number_of r)
