-- That 0 can stand for no end: no frame that Level answers ends at 0.
use Rattle.std.specs.Prelude.{ℕ, ◌≡◌, List}
use Rattle.lists.specs.Ladder.{accepted}
use Rattle.looks.specs.Sight.{Sight, at}
use Rattle.looks.specs.Look.{level_of}

abbrev pub NoneAt0 : Type 0
NoneAt0 = (times values : List ℕ) (L t : ℕ) (s : Sight) → level_of times values L t ≡ accepted s → s.end ≡ at 0 → ⊥
