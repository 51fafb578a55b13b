-- `converter::write_records` meets its contract. The loop's invariant: the records from gate j on are still to be stored, from the place reached on.
use Rattle.converter.proofs.Rewriting.{recording_more, recording_all}
use Rattle.converter.proofs.writing.write_records.Goals as goal

pub loop-j-preserved : goal.loop-j-preserved
loop-j-preserved c = recording_more _ _ _ _ c.loop-j.invariant c.loop-j-test.true (c.requires.each _ c.loop-j-test.true).entries c.write_record-at.ensures

pub returns : goal.returns
returns c = recording_all _ _ _ _ c.loop-j.invariant c.loop-j-test.false
