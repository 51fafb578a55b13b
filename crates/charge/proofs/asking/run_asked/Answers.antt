-- `asking::run_asked` meets its contract: each question that fails gives its number, and Run does the rest.
use mathlib.Core.Path.{◌∙◌}
use native.Mathlib.Omega.{arith}
use Rattle.charge.proofs.Laddered.{early_no, lane_no, loads_no, run_asks, lane_high, lane_low, other_count, same_count}
use Rattle.charge.proofs.asking.run_asked.Goals as goal
use Rattle.method.proofs.Refused.{passed_on}

pub returns-in_err-read : goal.returns-in_err-read
returns-in_err-read c = rw (passed_on _ c.from_residual.ensures) (early_no _ _ _ _ _ _ c.in_err-read.ensures)

pub returns-then-lane-gt-LAST_LANE : goal.returns-then-lane-gt-LAST_LANE
returns-then-lane-gt-LAST_LANE c = lane_no _ _ _ _ _ _ c.in_ok-read.ensures (lane_high c.args.lane (omega (arith, c.if-lane-gt-LAST_LANE.true)))

pub returns-then-read-loaded : goal.returns-then-read-loaded
returns-then-read-loaded c = loads_no _ _ _ _ _ _ c.in_ok-read.ensures (lane_low c.args.lane (omega (arith, c.if-lane-gt-LAST_LANE.false))) (other_count _ _ _ c.in_ok-read.ensures c.if-read-loaded.true)

pub returns : goal.returns
returns c = c.run.ensures ∙ run_asks _ _ _ _ _ _ (lane_low c.args.lane (omega (arith, c.if-lane-gt-LAST_LANE.false))) (same_count _ _ _ c.in_ok-read.ensures c.if-read-loaded.false)
