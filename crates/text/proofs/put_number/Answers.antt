-- `put_number` meets its contract. The digits at the powers before this one are written.
use mathlib.Core.List.{flatten}
use Rattle.lists.specs.Tables.{tabulate_from}
use Rattle.text.proofs.Putting.{wrote_nothing, wrote_next}
use Rattle.text.proofs.Spelling.{digit_by, number_put}
use Rattle.text.proofs.put_number.Goals as goal

pub loop-power-init : goal.loop-power-init
unfolding tabulate_from flatten
loop-power-init c = wrote_nothing _ _

pub loop-power-preserved : goal.loop-power-preserved
loop-power-preserved c = wrote_next (digit_by c.args.n) _ c.loop-power.invariant c.put_digit-end.ensures

pub returns : goal.returns
returns c = number_put _ _ c.loop-power.auto.power-index-end c.loop-power-test.false c.loop-power.invariant c.put.ensures
