-- `after_frame` meets its contract.
use Rattle.charge_loads.proofs.Added.{no_change, change}
use Rattle.charge_loads.proofs.drawing.after_frame.Goals as goal

pub returns-then-level-before : goal.returns-then-level-before
returns-then-level-before c = let s = c.args in no_change s.load s.before s.level s.total c.if-level-before.true

pub returns-else-level-before : goal.returns-else-level-before
returns-else-level-before c = let s = c.args in change s.load s.before s.level s.total c.if-level-before.false c.change_charge.ensures
