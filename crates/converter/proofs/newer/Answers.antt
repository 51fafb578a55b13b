-- `converter::newer` meets its contract. The general way, from the former edition to the present one.
use Rattle.converter.proofs.Both.{newer_answers, writable_present}
use Rattle.converter.proofs.newer.Goals as goal

pub convert-requires : goal.convert-requires
convert-requires c = writable_present c.present.ensures

pub returns : goal.returns
returns c = newer_answers _ _ c.convert.ensures c.former.ensures c.present.ensures
