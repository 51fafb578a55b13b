-- `add_inputs` meets its contract: n inputs are planned.
use Rattle.method.specs.Changes.{schedule, moments_from}
use Rattle.layout.specs.Steps.{Begun}
use Rattle.layout.proofs.inputs.add_inputs.Given as goal

abbrev pub invariant-loop-n : goal.invariant-loop-n
invariant-loop-n l = Begun (moments_from (schedule l.counts l.changes)) l.n l.directory l.times l.totals
