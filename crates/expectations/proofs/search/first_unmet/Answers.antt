-- A turn of the outer loop asks each frame of one expectation; a turn of the inner loop leaves both with the place of the frame that
-- breaks it, or goes on to the next frame. Behind the last expectation all are met.
use Rattle.std.proofs.Common.{◌<◌, get_or, arith, sym, ap, ◌∙◌}
use Rattle.method.specs.Layout.{frame_count}
use Rattle.expectations.proofs.Turns.{nought, search_end, search_one, frames_end, frame_breaks, frame_holds, all_met_lem, unmet}
use Rattle.expectations.proofs.search.first_unmet.Goals as goal

pub loop-k-init : goal.loop-k-init
loop-k-init c = let s = c.args in search_one s.directory.now s.times.now s.values.now s.list.now c.loop-i.i c.loop-i-test.true ∙ c.loop-i.invariant

pub loop-k-preserved : goal.loop-k-preserved
loop-k-preserved c =
    let s = c.args in
    let h : c.loop-k.k < frame_count s.directory.now (get_or s.list.now c.loop-i.i nought).net.0 = omega arith in
    frame_holds s.directory.now s.times.now s.values.now s.list.now c.loop-i.i _ _ h _ c.breaks.ensures c.if-breaks.false ∙ c.loop-k.invariant

pub loop-i-preserved : goal.loop-i-preserved
loop-i-preserved c = let s = c.args in sym (frames_end s.directory.now s.times.now s.values.now s.list.now c.loop-i.i _ _ (omega arith)) ∙ c.loop-k.invariant

pub returns-then-breaks : goal.returns-then-breaks
returns-then-breaks c =
    let s = c.args in
    let h : c.loop-k.k < frame_count s.directory.now (get_or s.list.now c.loop-i.i nought).net.0 = omega arith in
    unmet c.loop-i.i _ ∙ (sym (frame_breaks s.directory.now s.times.now s.values.now s.list.now c.loop-i.i _ _ h _ c.breaks.ensures c.if-breaks.true) ∙ c.loop-k.invariant)

pub returns-after-loop-i : goal.returns-after-loop-i
returns-after-loop-i c =
    let s = c.args in
    all_met_lem ∙ (sym (search_end s.directory.now s.times.now s.values.now s.list.now c.loop-i.i (omega arith)) ∙ c.loop-i.invariant)
