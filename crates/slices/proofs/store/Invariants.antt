-- `slices::store` meets its contract: after k turns the numbers from k on are still to be stored.
use Rattle.lists.proofs.Storing.{Left}
use Rattle.slices.proofs.store.Given as goal

abbrev pub invariant-loop-k : goal.invariant-loop-k
invariant-loop-k l = Left l.initial.area l.at l.row l.area l.k
