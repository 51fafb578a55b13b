-- `time_gate` meets its contract: the times are counted against both limits in turn.
use native.Mathlib.Omega.{arith}
use Rattle.layout.proofs.Stepping.{counted_over, counted_kept}
use Rattle.layout.proofs.gates.time_gate.Goals as goal

pub returns-then-count-gt-MOST_NET_FRAMES : goal.returns-then-count-gt-MOST_NET_FRAMES
returns-then-count-gt-MOST_NET_FRAMES c = counted_over _ _ c.gate_times-count.ensures _ (λ a b. omega (arith, a, c.if-count-gt-MOST_NET_FRAMES.true))

pub returns-then-first-count : goal.returns-then-first-count
returns-then-first-count c = counted_over _ _ c.gate_times-count.ensures _ (λ a b. omega (arith, b, c.if-first-count.true))

pub returns : goal.returns
returns c = counted_kept _ _ c.gate_times-count.ensures _ (omega (arith, c.if-count-gt-MOST_NET_FRAMES.false)) (omega (arith, c.if-first-count.false))
