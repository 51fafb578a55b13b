-- `converter::older` meets its contract. The general way, from the present edition to the former one.
use Rattle.converter.proofs.Both.{older_answers, writable_former}
use Rattle.converter.proofs.older.Goals as goal

pub convert-requires : goal.convert-requires
convert-requires c = writable_former c.former.ensures

pub returns : goal.returns
returns c = older_answers _ _ c.convert.ensures c.present.ensures c.former.ensures
