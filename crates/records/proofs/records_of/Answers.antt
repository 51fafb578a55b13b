-- `records_of` meets its contract. After k records the list begins with them.
use mathlib.Core.Path.{refl, ◌∙◌}
use native.Mathlib.Omega.{arith}
use lib.ListN.{length-set}
use Rattle.records.proofs.Recorded.{records_none, records_more}
use Rattle.records.proofs.records_of.Goals as goal

pub loop-k-init : goal.loop-k-init
loop-k-init c = (refl, records_none c.args.bytes.now)

pub loop-k-preserved : goal.loop-k-preserved
loop-k-preserved c = let l = c.loop-k in (length-set l.list l.k _ ∙ l.invariant.0, records_more c.args.bytes.now l.list l.k _ (omega arith) l.invariant.1 c.record_at.ensures)
