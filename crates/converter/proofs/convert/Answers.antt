-- `converter::convert` meets its contract. At each return the tests that led there pick the ladder's case.
use Rattle.converter.proofs.Asking.{gates_lie, refused_read, no_10, no_23, ready, written_all}
use mathlib.Core.Path.{ap, ◌∙◌}
use mathlib.Core.Bool.{not}
use Rattle.lists.specs.Ladder.{Answer}
use Rattle.std.specs.Prelude.{ℕ}
use Rattle.converter.proofs.convert.Goals as goal
use Rattle.method.specs.Refusals.{on_paper}
use Rattle.method.proofs.Refused.{passed_on}
use Rattle.lists.specs.Outcome.{outcome}

pub returns-in_err-read : goal.returns-in_err-read
returns-in_err-read c = ap (λ (r : Answer ℕ). outcome r c.args.area.now) (ap on_paper (passed_on _ c.from_residual.ensures)) ∙ refused_read _ _ _ _ c.in_err-read.ensures

pub returns-then-area-ne-AREA_LENGTH : goal.returns-then-area-ne-AREA_LENGTH
returns-then-area-ne-AREA_LENGTH c = no_10 _ _ _ _ c.in_ok-read.ensures c.if-area-ne-AREA_LENGTH.true

pub delays_up_to-requires : goal.delays_up_to-requires
delays_up_to-requires c = gates_lie c.args.from c.args.to c.args.file.now c.args.area.now c.in_ok-read.ensures

pub returns-then-not-delays_up_to : goal.returns-then-not-delays_up_to
returns-then-not-delays_up_to c = no_23 _ _ _ _ c.in_ok-read.ensures c.if-area-ne-AREA_LENGTH.false c.delays_up_to.ensures (ap not c.if-not-delays_up_to.true)

pub write-requires : goal.write-requires
write-requires c = ready _ _ _ _ c.in_ok-read.ensures c.if-area-ne-AREA_LENGTH.false c.delays_up_to.ensures (ap not c.if-not-delays_up_to.false) c.requires

pub returns : goal.returns
returns c = written_all _ _ _ _ c.in_ok-read.ensures c.if-area-ne-AREA_LENGTH.false c.delays_up_to.ensures (ap not c.if-not-delays_up_to.false) c.write.ensures
