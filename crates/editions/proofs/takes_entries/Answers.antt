-- `editions::takes_entries` meets its contract, kind by kind.
use mathlib.Core.Path.{◌∙◌}
use Rattle.editions.proofs.Kinded.{takes_one, takes_several}
use Rattle.editions.proofs.takes_entries.Goals as goal

pub returns-in-Buf : goal.returns-in-Buf
returns-in-Buf c = takes_one _ _ c.in-Buf.is

pub returns-in_default : goal.returns-in_default
returns-in_default c = c.is_between.ensures ∙ takes_several _ _ c.in_default.not-Buf c.in_default.not-Not
