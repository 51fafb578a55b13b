-- `slices::store` meets its contract: after k turns the numbers from k on are still to be stored, and past the area's end none is.
use Prim.Native.Nat.{◌+◌, ◌-◌}
use mathlib.Core.Path.{sym, ◌∙◌}
use mathlib.Core.Logic.{inl, inr}
use native.Mathlib.Omega.{arith}
use lib.ListN.{length, drop}
use Rattle.lists.proofs.Choices.{order}
use Rattle.lists.proofs.Storing.{none, more, all, sets_out}
use Rattle.slices.proofs.store.Goals as goal

pub returns-then-area-at : goal.returns-then-area-at
returns-then-area-at c = sym (sets_out _ _ c.args.row.now c.if-area-at.true)

pub loop-k-init : goal.loop-k-init
loop-k-init c = none _ _ _

pub loop-k-preserved : goal.loop-k-preserved
loop-k-preserved c = more c.loop-k.invariant (omega (arith, c.loop-k-test.true, c.min-count.ensures)) (omega arith)

pub returns : goal.returns
returns c = elim (order (length c.args.row.now) (length c.args.area.now - c.args.at)) [
  | inl l ↦ all c.loop-k.invariant (omega (arith, l, c.min-count.ensures, c.loop-k-test.false))
  | inr l ↦ sym (c.loop-k.invariant.is ∙ sets_out c.loop-k.area (c.args.at + c.loop-k.k) (drop c.loop-k.k c.args.row.now) (omega (arith, l, c.min-count.ensures, c.loop-k-test.false, c.loop-k.invariant.same)))
]
