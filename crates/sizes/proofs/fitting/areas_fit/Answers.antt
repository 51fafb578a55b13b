-- `fitting::areas_fit` meets its contract: the five lengths are asked in turn.
use Rattle.sizes.proofs.Asking.{directory_no, times_no, inertial_no, fanins_no, values_last}
use Rattle.sizes.proofs.fitting.areas_fit.Goals as goal

pub returns-then-directory-nets : goal.returns-then-directory-nets
returns-then-directory-nets c = directory_no _ _ _ _ _ _ _ c.if-directory-nets.true

pub returns-then-times-frames : goal.returns-then-times-frames
returns-then-times-frames c = times_no _ _ _ _ _ _ _ c.if-directory-nets.false c.if-times-frames.true

pub returns-then-inertial-frames : goal.returns-then-inertial-frames
returns-then-inertial-frames c = inertial_no _ _ _ _ _ _ _ c.if-directory-nets.false c.if-times-frames.false c.if-inertial-frames.true

pub returns-then-fanins-totals : goal.returns-then-fanins-totals
returns-then-fanins-totals c = fanins_no _ _ _ _ _ _ _ c.if-directory-nets.false c.if-times-frames.false c.if-inertial-frames.false c.if-fanins-totals.true

pub returns : goal.returns
returns c = values_last _ _ _ _ _ _ _ c.if-directory-nets.false c.if-times-frames.false c.if-inertial-frames.false c.if-fanins-totals.false
