-- The sample: the checker computes it by the rules, and it is the one by hand.
-- Assumes nothing.
use mathlib.Core.Path.{refl}
use mathlib.Core.List.{flat_map, zip_with}
use Rattle.lists.specs.Tables.{tabulate_from}
use Rattle.method.specs.Kinds.{gate_fn}
use Rattle.method.specs.Times.{gate_times}
use Rattle.method.specs.Frames.{frames_with, gate_frames, frames}
use Rattle.method.specs.Traces.{raw_value, gate_trace, traces}
use Rattle.method.specs.Machine.{settled, waves}
use Rattle.method.specs.Bursts.{by_rule, by_hand, Settled}

pub by_hand_lem : Settled
unfolding by_rule by_hand gate_fn gate_times flat_map zip_with tabulate_from frames_with gate_frames frames raw_value gate_trace traces settled waves
by_hand_lem = refl
