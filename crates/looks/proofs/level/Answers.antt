-- `looks::level` meets its contract. Without a "no" it is what is seen at the last frame not later than the time.
use mathlib.Core.Path.{refl}
use Rattle.method.proofs.Refused.{passed_on, some_number}
use Rattle.looks.specs.Look.{seen_on_paper}
use Rattle.looks.proofs.Seeing.{answered, level_no, level_yes}
use Rattle.looks.proofs.level.Goals as goal

pub returns-in_err-ask_look : goal.returns-in_err-ask_look
unfolding seen_on_paper
returns-in_err-ask_look c = rw (passed_on _ c.from_residual.ensures) (level_no _ _ _ c.in_err-ask_look.ensures _ (some_number _))

pub last_frame-frame-requires : goal.last_frame-frame-requires
last_frame-frame-requires c = let s = answered _ _ _ c.in_ok-ask_look.ensures refl in (s.rises, s.few)

pub returns : goal.returns
unfolding seen_on_paper
returns c = level_yes _ _ _ c.in_ok-ask_look.ensures refl _ c.last_frame-frame.ensures _ c.sight_at.ensures
