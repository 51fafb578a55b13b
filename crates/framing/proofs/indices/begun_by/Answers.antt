-- `begun_by` meets its contract: the frame behind `from` is the last where it has begun, less the delay, and else `from` is.
use Prim.Native.Nat.{◌-◌}
use native.Mathlib.Omega.{arith}
use Rattle.method.proofs.Rising.{test_starts}
use Rattle.method.proofs.Lasting.{last_within}
use Rattle.framing.proofs.Indexing.{next_begun, next_later}
use Rattle.framing.proofs.indices.begun_by.Goals as goal

pub behind-next-requires : goal.behind-next-requires
behind-next-requires c = omega (arith, last_within c.args.fanin.now (c.args.time.0 - c.args.delay) (test_starts _ c.requires.span.0.starts))

pub returns-then-fanin-next : goal.returns-then-fanin-next
returns-then-fanin-next c = let n = c.behind-next.ensures in next_begun _ (test_starts _ c.requires.span.0.starts) _ _ _ c.requires.from_bound.0 c.requires.from_bound.1 n.0 n.1 c.if-fanin-next.true

pub returns-else-fanin-next : goal.returns-else-fanin-next
returns-else-fanin-next c = let n = c.behind-next.ensures in next_later _ (test_starts _ c.requires.span.0.starts) _ _ _ c.requires.from_bound.0 c.requires.from_bound.1 n.0 n.1 c.if-fanin-next.false
