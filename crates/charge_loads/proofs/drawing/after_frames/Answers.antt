-- `after_frames` meets its contract: the total of the frames so far, with the charges from there on, makes the whole.
use Rattle.std.proofs.Common.{◌+◌, length}
use Rattle.std.proofs.lemmas.Iterator.{YieldsList-from_slice}
use Rattle.std.proofs.lemmas.Iterator.Adapters.{YieldsList-from_skip}
use Rattle.std.proofs.lemmas.Iterator.Consumers.{YieldsList-turn, YieldsList-end}
use Rattle.std.proofs.lemmas.List.{length_push}
use Rattle.charge_loads.proofs.Added.{frames_start, frames_on, frames_end, later_more, later_at, later_end}
use Rattle.charge_loads.proofs.drawing.after_frames.Goals as goal

pub loop-word-init : goal.loop-word-init
loop-word-init c = let s = c.args in frames_start s.load s.lane s.values.now s.total c.entry_at.ensures c.bit_of-before.ensures

pub loop-word-preserved : goal.loop-word-preserved
loop-word-preserved c =
    let s = c.args in
    let n = length c.loop-word.yielded in
    let later = YieldsList-from_skip 1 (YieldsList-from_slice s.values.now cc) cc in
    let turn = YieldsList-turn later c.loop-word.yielded _ c.loop-word.yielded_by _ _ c.in-Some.word c.in-Some.is c.next.ensures.steps in
    rw (length_push c.loop-word.yielded c.in-Some.word)
    (frames_on s.load s.lane s.values.now (n + 1) _ _ c.loop-word.invariant (later_more s.values.now n turn.0) (rw (later_at s.values.now n turn) at c.bit_of-level.ensures) c.after_frame-sum.ensures)

pub returns : goal.returns
returns c =
    let s = c.args in
    let n = length c.loop-word.yielded in
    let later = YieldsList-from_skip 1 (YieldsList-from_slice s.values.now cc) cc in
    let end = YieldsList-end later c.loop-word.yielded _ c.loop-word.yielded_by _ _ c.in-None.is c.next.ensures.steps in
    frames_end s.load s.lane s.values.now (n + 1) _ _ c.loop-word.invariant (later_end s.values.now n end.1)
