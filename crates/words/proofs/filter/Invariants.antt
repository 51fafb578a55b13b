-- `words::filter` meets its contract. Frame 0 stands; then the whole is what is decided, followed by the filter of the rest, which is still raw.
use mathlib.Core.Path.{◌≡◌}
use mathlib.Core.List.{◌++◌}
use lib.ListN.{length, take, drop}
use Rattle.words.proofs.Filtering.{kept_from, kept_all}
use Rattle.words.proofs.filter.Given as goal

abbrev pub invariant-loop-k : goal.invariant-loop-k
invariant-loop-k l = (length l.words ≡ length l.initial.words) × (kept_all l.inertial l.initial.words ≡ take l.k l.words ++ kept_from l.before (drop l.k l.inertial) (drop l.k l.words))
