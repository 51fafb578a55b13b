-- Each turn that goes on has written some of what was left.
use Rattle.std.proofs.Common.{◌-◌, ◌≡◌, length}
use Rattle.streams.proofs.output.write_pieces.Given as goal

abbrev pub invariant-loop-done : goal.invariant-loop-done
invariant-loop-done g l = l.len ≡ length l.bytes

abbrev pub decreases-loop-done : goal.decreases-loop-done
decreases-loop-done g l = l.len - l.done
