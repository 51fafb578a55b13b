-- `converter::other` meets its contract. Bytes 0-1 decide.
use Rattle.converter.proofs.Both.{other_older, other_newer}
use Rattle.converter.proofs.other.Goals as goal

pub returns-then-is_present : goal.returns-then-is_present
returns-then-is_present c = other_older _ _ c.is_present.ensures c.if-is_present.true c.older.ensures

pub returns-else-is_present : goal.returns-else-is_present
returns-else-is_present c = other_newer _ _ c.is_present.ensures c.if-is_present.false c.newer.ensures
