-- `after_frames` meets its contract: the total of the frames so far, with the charges from there on, makes the whole.
use Prim.Native.Nat.{◌+◌}
use mathlib.Core.Path.{◌≡◌}
use mathlib.Core.List.{map}
use lib.ListN.{length}
use Rattle.method.specs.Words as bits
use Rattle.charge_loads.specs.Charges.{charges, added}
use Rattle.charge_loads.proofs.Added.{Left}
use Rattle.charge_loads.proofs.drawing.after_frames.Given as goal

abbrev pub invariant-loop-word : goal.invariant-loop-word
invariant-loop-word l = added (charges l.load (map (bits.lane l.lane) l.values)) l.total ≡ Left l.load l.lane l.values (length l.yielded + 1) l.before l.sum
