-- `evaluation::gates::raw_words` meets its contract. By the number of fan-ins, the rows read with their bases.
use mathlib.Core.Path.{refl, sym}
use Rattle.evaluation.proofs.Placing.{readable, raw_kept, pair_bases}
use Rattle.evaluation.proofs.gates.raw_words.Goals as goal

pub pair_rows-requires : goal.pair_rows-requires
pair_rows-requires c = readable c.args.gate (pair_bases c.args.file.now c.args.directory.now c.args.gate.list c.if-entries-eq2.true c.base_of-x.ensures c.base_of-y.ensures) c.args.fanins.now (sym c.if-entries-eq2.true) c.rule_of-rule.ensures c.requires.raw

pub returns-then-entries-eq2 : goal.returns-then-entries-eq2
returns-then-entries-eq2 c = raw_kept c.args.gate (pair_bases c.args.file.now c.args.directory.now c.args.gate.list c.if-entries-eq2.true c.base_of-x.ensures c.base_of-y.ensures) c.args.fanins.now (sym c.if-entries-eq2.true) c.rule_of-rule.ensures c.args.values.now _ _ _ c.pair_rows.ensures

pub wide_rows-requires : goal.wide_rows-requires
wide_rows-requires c = readable c.args.gate c.bases_of-bases.ensures c.args.fanins.now refl c.rule_of-rule.ensures c.requires.raw

pub returns : goal.returns
returns c = raw_kept c.args.gate c.bases_of-bases.ensures c.args.fanins.now refl c.rule_of-rule.ensures c.args.values.now _ _ _ c.wide_rows.ensures
