-- The limits of a circuit in the present edition, from `editions/specs/Limits`, and of its times.
use Rattle.std.specs.Prelude.{ℕ, ◌+◌, ◌*◌}
use Rattle.method.specs.Circuit.{Circuit}
use Rattle.method.specs.Changes.{last_change}
use Rattle.editions.specs.Edition.{present}
use Rattle.editions.specs.Limits as editions
pub use Rattle.editions.specs.Limits.{most_inputs, most_gates}

abbrev pub Within : Circuit → Type 0
Within c = editions.Within present c

-- of either delay: 60,000
abbrev pub most_delay : ℕ
most_delay = present.most

-- no potential time of a circuit within the limits is later: the last that an input can change, and the greatest delay for
-- each gate
abbrev pub most_time : ℕ
most_time = last_change + most_delay * most_gates
