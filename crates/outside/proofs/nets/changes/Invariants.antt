-- A lane's count is a number of two bytes, so the sum fits.
use Rattle.std.proofs.Common.{◌*◌, ◌≤◌}
use Rattle.outside.proofs.nets.changes.Given as goal

abbrev pub invariant-loop-lane : goal.invariant-loop-lane
invariant-loop-lane l = l.sum ≤ 65535 * l.lane
