-- `add_gate` meets its contract: its times are those of the next net; they are stored unless they are too many.
use Rattle.circuit.specs.Task.{task_in}
use Rattle.method.specs.Areas.{areas}
use Rattle.layout.proofs.Stepping.{Step, step, reached_now, reached_many}
use Rattle.circuit.proofs.Parts.{lies}
use borrow.Author.Rules.{rules}
use Rattle.layout.proofs.gates.add_gate.Goals as goal

pub gate_at-gate-requires : goal.gate_at-gate-requires
gate_at-gate-requires c = let s = c in lies s.args.task.file.now _ s.requires.given.0.read s.args.j s.requires.given.1

pub time_gate-requires : goal.time_gate-requires
time_gate-requires c = let known : Step (task_in c.args.task) c.args.net.0 c.args.j (areas c.args.directory.now c.args.times.now c.args.inertial.now c.args.fanins.now) c.args.totals c.gate_at-gate.result = let s = c in step _ s.requires.given.0 _ s.requires.given.1 s.requires.given.2 s.requires.going c.gate_at-gate.ensures in let k = known in record { fed = (k.fed, k.frames_low); most_net_frames_in_bounds = search rules }

pub returns-in_err-count : goal.returns-in_err-count
returns-in_err-count c = let s = c in let known : Step (task_in c.args.task) c.args.net.0 c.args.j (areas c.args.directory.now c.args.times.now c.args.inertial.now c.args.fanins.now) c.args.totals c.gate_at-gate.result = step _ s.requires.given.0 _ s.requires.given.1 s.requires.given.2 s.requires.going c.gate_at-gate.ensures in rw c.from_residual.ensures (reached_many _ _ _ (known.over c.in_err-count.ensures))

pub store_gate-requires : goal.store_gate-requires
store_gate-requires c = let known : Step (task_in c.args.task) c.args.net.0 c.args.j (areas c.args.directory.now c.args.times.now c.args.inertial.now c.args.fanins.now) c.args.totals c.gate_at-gate.result = let s = c in step _ s.requires.given.0 _ s.requires.given.1 s.requires.given.2 s.requires.going c.gate_at-gate.ensures in let k = known in
    let f = k.stays c.in_ok-count.ensures in record { fed = k.fed; span = (f.times, f.gathered); place = f.place }

pub returns : goal.returns
returns c = let known : Step (task_in c.args.task) c.args.net.0 c.args.j (areas c.args.directory.now c.args.times.now c.args.inertial.now c.args.fanins.now) c.args.totals c.gate_at-gate.result = let s = c in step _ s.requires.given.0 _ s.requires.given.1 s.requires.given.2 s.requires.going c.gate_at-gate.ensures in reached_now _ _ _ _ ((known.stays c.in_ok-count.ensures).stepped c.store_gate.ensures)
