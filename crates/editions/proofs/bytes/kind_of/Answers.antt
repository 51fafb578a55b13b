-- `editions::bytes::kind_of` meets its contract: the kind of the number, or that of none.
use mathlib.Core.Path.{◌∙◌}
use Rattle.editions.proofs.Kinded.{kind_or_last}
use Rattle.editions.proofs.bytes.kind_of.Goals as goal

pub returns : goal.returns
returns c = c.unwrap_or.ensures ∙ kind_or_last _ _ c.try_from.ensures
