-- `editions::record_head` meets its contract. The kind and two delays, by their width.
use Rattle.editions.proofs.Widths.{head_of_five, head_of_three}
use Rattle.editions.proofs.bytes.record_head.Goals as goal

pub returns-then-edition : goal.returns-then-edition
returns-then-edition c = head_of_five _ c.if-edition.true

pub returns-else-edition : goal.returns-else-edition
returns-else-edition c = head_of_three _ c.if-edition.false
