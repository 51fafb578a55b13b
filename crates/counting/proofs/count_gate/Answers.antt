-- `count_gate` meets its contract: its times are those of the next net; they are stored unless they are too many.
use Rattle.method.specs.Areas.{areas}
use Rattle.circuit.specs.Task.{task_in}
use Rattle.layout.proofs.Stepping.{Step, step}
use Rattle.counting.proofs.Walking.{counted, counted_now, counted_many}
use Rattle.circuit.proofs.Parts.{lies}
use borrow.Author.Rules.{rules}
use Rattle.counting.proofs.count_gate.Goals as goal

pub gate_at-gate-requires : goal.gate_at-gate-requires
gate_at-gate-requires c = let s = c in lies s.args.task.file.now _ s.requires.counting.0.given.read s.args.j s.requires.counting.1

pub time_gate-requires : goal.time_gate-requires
time_gate-requires c = let known : Step (task_in c.args.task) c.args.net.0 c.args.j (areas c.args.directory.now c.args.times.now c.requires.counting.0.inertial c.requires.counting.0.fanins) c.args.totals c.gate_at-gate.result = let s = c in step _ s.requires.counting.0.given _ s.requires.counting.1 s.requires.counting.2 s.requires.counting.0.going c.gate_at-gate.ensures in let k = known in record { fed = (k.fed, k.frames_low); most_net_frames_in_bounds = search rules }

pub returns-in_err-count : goal.returns-in_err-count
returns-in_err-count c = let s = c in let known : Step (task_in c.args.task) c.args.net.0 c.args.j (areas c.args.directory.now c.args.times.now c.requires.counting.0.inertial c.requires.counting.0.fanins) c.args.totals c.gate_at-gate.result = step _ s.requires.counting.0.given _ s.requires.counting.1 s.requires.counting.2 s.requires.counting.0.going c.gate_at-gate.ensures in rw c.from_residual.ensures (counted_many (known.over c.in_err-count.ensures))

pub store_times-requires : goal.store_times-requires
store_times-requires c = let known : Step (task_in c.args.task) c.args.net.0 c.args.j (areas c.args.directory.now c.args.times.now c.requires.counting.0.inertial c.requires.counting.0.fanins) c.args.totals c.gate_at-gate.result = let s = c in step _ s.requires.counting.0.given _ s.requires.counting.1 s.requires.counting.2 s.requires.counting.0.going c.gate_at-gate.ensures in let f = known.stays c.in_ok-count.ensures in
    (f.times, f.place.slot)

pub returns : goal.returns
returns c = let known : Step (task_in c.args.task) c.args.net.0 c.args.j (areas c.args.directory.now c.args.times.now c.requires.counting.0.inertial c.requires.counting.0.fanins) c.args.totals c.gate_at-gate.result = let s = c in step _ s.requires.counting.0.given _ s.requires.counting.1 s.requires.counting.2 s.requires.counting.0.going c.gate_at-gate.ensures in counted_now (counted c.requires.counting.0 (known.stays c.in_ok-count.ensures) c.store_times.ensures)
