-- `converter::write` meets its contract. The counts, the pairs and the records, in a cleared area.
use Rattle.converter.proofs.Rewriting.{wrote_file}
use Rattle.converter.proofs.writing.write.Goals as goal

pub returns : goal.returns
returns c = wrote_file _ _ _ _ c.requires.1 c.requires.2 c.requires.0.room c.clear.ensures c.put_pair.ensures c.write_pairs.ensures c.write_records.ensures
