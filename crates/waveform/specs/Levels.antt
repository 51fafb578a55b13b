-- The levels that the wave program prints are those of the time-by-time machine, run for lane 0's pattern pair by itself.
use Rattle.std.specs.Prelude.{ℕ, ◌≡◌, map}
use Rattle.method.specs.WordLists.{WordLists}
use Rattle.method.specs.Circuit.{Circuit}
use Rattle.method.specs.Once.{times_once, machine_once, pair_of}
use Rattle.waveform.specs.Lines.{line, net_line}

-- net n's line has the machine's level at each of the net's potential times
abbrev pub PrintedLevels : Type 0
PrintedLevels =
    (c : Circuit) (w : WordLists) (n : ℕ) → net_line c w n ≡ line n (times_once c n) (map (machine_once c (pair_of 0 w) n) (times_once c n))
