-- `evaluation::gates::input_words` meets its contract. After i inputs the area starts with their words, and the after words of
-- the next start at `start`.
use Prim.Native.Nat.{ℕ, ◌+◌}
use mathlib.Core.Path.{refl, ap}
use native.Mathlib.Omega.{arith}
use native.Mathlib.Numerals.{add-one}
use lib.ListN.{get_or}
use Rattle.method.specs.WordLists.{word_lists}
use Rattle.evaluation.proofs.Driving.{inputs_none, input_after, input_room, inputs_more}
use Rattle.evaluation.proofs.gates.input_words.Goals as goal

pub loop-i-init : goal.loop-i-init
loop-i-init c = let s = c.args in (refl, refl, inputs_none s.counts.now (word_lists s.before.now s.after.now) s.values.now)

pub overflow_add-i : goal.overflow_add-i
overflow_add-i c = let s = c.args in
    omega (arith, input_room s.counts.now (word_lists s.before.now s.after.now) c.requires c.loop-i-test.true c.loop-i.invariant.1)

pub one_input-requires : goal.one_input-requires
one_input-requires c = let s = c.args in
    let w = word_lists s.before.now s.after.now in (
      omega (arith, input_room s.counts.now w c.requires c.loop-i-test.true c.loop-i.invariant.1, c.loop-i.invariant.0),
      input_after s.counts.now w c.requires c.loop-i-test.true c.loop-i.invariant.1,
    )

pub overflow_add-start : goal.overflow_add-start
overflow_add-start c = let s = c.args in
    omega (arith, input_after s.counts.now (word_lists s.before.now s.after.now) c.requires c.loop-i-test.true c.loop-i.invariant.1)

pub loop-i-preserved : goal.loop-i-preserved
loop-i-preserved c = let l = c.loop-i in
    let counts = c.args.counts.now in
    let w = word_lists c.args.before.now c.args.after.now in
    let room = input_room counts w c.requires c.loop-i-test.true l.invariant.1 in (
      omega (arith, c.one_input.auto.values, l.invariant.0),
      rw add-one (ap (λ (n : ℕ). n + get_or counts l.i 0) l.invariant.1),
      inputs_more counts w l.values l.i l.start (omega (arith, room, l.invariant.0)) l.invariant.1 c.one_input.ensures l.invariant.2,
    )
