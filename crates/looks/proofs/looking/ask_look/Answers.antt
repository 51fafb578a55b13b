-- `ask_look` meets its contract: the questions are asked in turn, and each `return` is the first "no", or none.
use Rattle.looks.proofs.Seeing.{unequal_no, empty_no, many_no, rise_no, lane_no, all_yes}
use mathlib.Core.Path.{ap}
use mathlib.Core.Bool.{not}
use Rattle.looks.proofs.looking.ask_look.Goals as goal

pub returns-then-frames-values : goal.returns-then-frames-values
returns-then-frames-values c = unequal_no _ _ _ c.if-frames-values.true

pub returns-then-frames-eq0 : goal.returns-then-frames-eq0
returns-then-frames-eq0 c = empty_no _ _ _ c.if-frames-values.false c.if-frames-eq0.true

pub returns-then-frames-gt-MOST_NET_FRAMES : goal.returns-then-frames-gt-MOST_NET_FRAMES
returns-then-frames-gt-MOST_NET_FRAMES c = many_no _ _ _ c.if-frames-values.false c.if-frames-eq0.false c.if-frames-gt-MOST_NET_FRAMES.true

pub returns-then-not-start_and_rise : goal.returns-then-not-start_and_rise
returns-then-not-start_and_rise c = rise_no _ _ _ c.if-frames-values.false c.if-frames-eq0.false c.if-frames-gt-MOST_NET_FRAMES.false c.start_and_rise.ensures (ap not c.if-not-start_and_rise.true)

pub returns-then-lane-gt-LAST_LANE : goal.returns-then-lane-gt-LAST_LANE
returns-then-lane-gt-LAST_LANE c = let t = c in lane_no _ _ _ t.if-frames-values.false t.if-frames-eq0.false t.if-frames-gt-MOST_NET_FRAMES.false c.start_and_rise.ensures (ap not c.if-not-start_and_rise.false) c.if-lane-gt-LAST_LANE.true

pub returns : goal.returns
returns c = let t = c in all_yes _ _ _ t.if-frames-values.false t.if-frames-eq0.false t.if-frames-gt-MOST_NET_FRAMES.false c.start_and_rise.ensures (ap not c.if-not-start_and_rise.false) c.if-lane-gt-LAST_LANE.false
