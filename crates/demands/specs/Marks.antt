-- When an expectation is met after a run: by the levels that Level answers, and by those of the time-by-time machine.
use Rattle.std.specs.Prelude.{ℕ, ◌≡◌, List}
use Rattle.lists.specs.Ladder.{accepted}
use Rattle.method.specs.WordLists.{WordLists}
use Rattle.circuit.specs.Task.{Task, machine_in}
use Rattle.engine.specs.Areas.{Areas}
use Rattle.engine.specs.After.{times_of, level_in}
use Rattle.expectations.specs.declared.Expectation.{Expectation}
use Rattle.expectations.specs.Verdict.{expected}
use Rattle.marking.specs.Met.{MetBy, PlaceBy}

-- at time t the level is the one expected
abbrev pub LevelMet : Areas → Expectation → ℕ → Type 0
LevelMet left e t = level_in left e.net.0 e.lane t ≡ accepted (expected e)

abbrev pub MachineMet : Task → WordLists → Expectation → ℕ → Type 0
MachineMet task w e t = machine_in task w e.lane e.net.0 t ≡ expected e

-- met at each time that it covers
abbrev pub Met : Areas → Expectation → Type 0
Met left = MetBy (LevelMet left)

abbrev pub MetByMachine : Task → WordLists → Expectation → Type 0
MetByMachine task w = MetBy (MachineMet task w)

-- the place (i, k): all before position i are met, and k is the last frame not later than the least time of the span of the
-- one at i whose level differs
abbrev pub Place : Areas → List Expectation → ℕ → ℕ → Type 0
Place left = PlaceBy (LevelMet left) (times_of left)
