-- `evaluation::gates::all_gates` meets its contract. After j gates the area holds the words of the inputs and of these gates.
use mathlib.Core.Path.{refl}
use Prim.Native.Nat.{◌<◌}
use native.Mathlib.Omega.{arith}
use native.Mathlib.Nat.{add-zero}
use lib.ListN.{length}
use Rattle.circuit.specs.File.{gates_of}
use Rattle.circuit.proofs.Parts.{lies, few}
use Rattle.evaluation.proofs.Gating.{rows_start_lem, turn_ready, turn_rows, turn_holds}
use Rattle.evaluation.proofs.gates.all_gates.Goals as goal

pub loop-j-init : goal.loop-j-init
loop-j-init c = (refl, rows_start_lem c.requires.planned.0 c.requires.planned.1, (λ w h. rw add-zero h))

pub gate_at-gate-requires : goal.gate_at-gate-requires
gate_at-gate-requires c = let p = c.requires.planned in
    lies c.args.task.file.now _ p.0.read c.loop-j.j (omega (arith, c.loop-j-test.true, p.2))

pub overflow_add-net : goal.overflow_add-net
overflow_add-net c = let p = c.requires.planned in
    omega (arith, few c.args.task.file.now p.0.read, p.1, p.2, c.loop-j-test.true)

pub gate_words-requires : goal.gate_words-requires
gate_words-requires c = let p = c.requires.planned in
    let l = c.loop-j in
    turn_ready p.0 p.1 (omega (arith, c.loop-j-test.true, p.2)) l.invariant.1 c.gate_at-gate.ensures (length l.values) (omega (arith, c.requires.roomy.words, l.invariant.0))

pub entries_of-at-requires : goal.entries_of-at-requires
entries_of-at-requires c = let p = c.requires.planned in
    (turn_ready p.0 p.1 (omega (arith, c.loop-j-test.true, p.2)) c.loop-j.invariant.1 c.gate_at-gate.ensures (length c.args.values.now) c.requires.roomy.words).pair

pub overflow_add-at : goal.overflow_add-at
overflow_add-at c = let p = c.requires.planned in
    let ready = turn_ready p.0 p.1 (omega (arith, c.loop-j-test.true, p.2)) c.loop-j.invariant.1 c.gate_at-gate.ensures (length c.args.values.now) c.requires.roomy.words in
    omega (arith, c.entries_of-at.ensures, ready.raw.within)

pub loop-j-preserved : goal.loop-j-preserved
loop-j-preserved c = let p = c.requires.planned in
    let l = c.loop-j in
    let more : l.j < gates_of c.args.task.file.now = omega (arith, c.loop-j-test.true, p.2) in (
      omega (arith, c.gate_words.auto.values, l.invariant.0),
      rw c.entries_of-at.ensures (turn_rows p.0 p.1 more l.invariant.1 c.gate_at-gate.ensures),
      (λ w h. turn_holds p.0 p.1 more l.invariant.1 c.gate_at-gate.ensures (omega (arith, c.requires.roomy.words, l.invariant.0)) c.gate_words.ensures (l.invariant.2 w h)),
    )
