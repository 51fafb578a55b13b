-- A lane's values are the machine's levels at the net's times, so a line has these.
-- Assumes nothing.
use mathlib.Core.Path.{ap}
use Rattle.method.specs.Once.{times_once}
use Rattle.method.proofs.Once.{once_samples}
use Rattle.waveform.specs.Lines.{line}
use Rattle.waveform.specs.Levels.{PrintedLevels}

pub printed_levels : PrintedLevels
printed_levels c w n = ap (line n (times_once c n)) (once_samples c w 0 n)
