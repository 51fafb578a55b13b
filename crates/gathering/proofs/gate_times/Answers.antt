-- `gate_times` meets its contract: where there are two fan-ins, their spans are the two that are merged.
use mathlib.Core.Path.{◌≡◌}
use mathlib.Core.List.{[], ◌∷◌}
use native.Mathlib.Omega.{arith}
use Rattle.gathering.specs.Steps.{Span, spans}
use Rattle.gathering.proofs.Spans.{two_spans, fanin_span}
use Rattle.gathering.proofs.gate_times.Goals as goal

pub merge_times-requires : goal.merge_times-requires
merge_times-requires c =
    let one : Span c.times_of-one.result.now = rw c.times_of-one.ensures (fanin_span c.requires.fed 0 (omega arith) c.fanin_at.ensures) in
    let other : Span c.times_of-other.result.now = rw c.times_of-other.ensures (fanin_span c.requires.fed 1 (omega arith) c.fanin_at-then-gate-eq2.ensures) in
    record { span = (one, other, c.requires.fed.delay_most); other_in_bounds = omega arith }

pub returns-then-gate-eq2 : goal.returns-then-gate-eq2
returns-then-gate-eq2 c =
    let one : Span c.times_of-one.result.now = rw c.times_of-one.ensures (fanin_span c.requires.fed 0 (omega arith) c.fanin_at.ensures) in
    let other : Span c.times_of-other.result.now = rw c.times_of-other.ensures (fanin_span c.requires.fed 1 (omega arith) c.fanin_at-then-gate-eq2.ensures) in
    let both : spans c.args.file.now c.args.gate.list c.args.gate.entries c.args.directory.now c.args.times.now ≡ c.times_of-one.result.now ∷ c.times_of-other.result.now ∷ [] =
    two_spans _ _ _ _ _ c.if-gate-eq2.true c.fanin_at.ensures c.fanin_at-then-gate-eq2.ensures c.times_of-one.ensures c.times_of-other.ensures in
    let m = c.merge_times.ensures in
    record { is = rw both m.is; size = rw both m.size; few = omega (arith, m.few) }
