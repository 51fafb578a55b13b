-- What the charge call answers, and what it leaves in the areas.
use Rattle.std.specs.Prelude.{ℕ, List, Float, Result, Ok, Err}
use Rattle.lists.specs.Ladder.{Answer, accepted, refused, first_no, unless}
use Rattle.lists.specs.Outcome.{Outcome, outcome}
use Rattle.method.specs.declared.Totals.{Totals}
use Rattle.method.specs.Sums.{totals_of}
use Rattle.method.specs.WordLists.{WordLists, lengths_of}
use Rattle.circuit.specs.Task.{Task, frames_in, lane_values}
use Rattle.engine.specs.Areas.{Areas}
use Rattle.engine.specs.Run.{run_left}
use Rattle.charge_loads.specs.declared.Load.{Load}
use Rattle.charge_loads.specs.Charges.{drawn_by_nets}
use Rattle.method.specs.declared.Refusal.{Refusal}
use Rattle.method.specs.Refusals.{number_of}
use Rattle.charge.specs.declared.Drawn.{Drawn}
use Rattle.charge.specs.Questions.{questions}

-- Run's totals, and the charge
pub record Charge : Type 0 where
  pub totals : Totals
  pub charge : Float

-- the charge of a task run for these words in lane L, by the values of that lane's own trace
unfoldable pub drawn_in : Task → WordLists → ℕ → List Load → Float
drawn_in task w L loads = drawn_by_nets (lane_values task w L) loads

-- the charge call of a task with a limit and these words, of areas with these contents, and of a list of loads and a lane; an
-- acceptance fills the areas as Run does
unfoldable pub charge_of : Task → ℕ → WordLists → Areas → List Load → ℕ → Outcome Charge Areas
charge_of task limit w a loads L =
    let n : ℕ = first_no (questions task limit (lengths_of w) a loads L) in
    outcome (unless n (record { totals = totals_of (frames_in task); charge = drawn_in task w L loads })) (run_left n task w a)

-- the call's result in the paper's terms: Run's totals and the charge, or the number alone
unfoldable pub on_paper : Result Drawn Refusal → Answer Charge
on_paper (Ok d) = accepted (record { totals = d.totals; charge = d.charge })
on_paper (Err r) = refused (number_of r)
