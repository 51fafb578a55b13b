-- What the charge call's own functions promise each other. A reader of its promise may skip this file.
use Rattle.std.specs.Prelude.{ℕ, Bool, Float}
use Rattle.lists.specs.Ladder.{Answer, accepted, refused, first_no, unless}
use Rattle.lists.specs.Outcome.{Outcome, outcome}
use Rattle.method.specs.declared.Totals.{Totals}
use Rattle.method.specs.Sums.{totals_of}
use Rattle.method.specs.WordLists.{WordLists, lengths_of}
use Rattle.circuit.specs.Task.{Task, frames_in}
use Rattle.engine.specs.Areas.{Areas}
use Rattle.engine.specs.Run.{run_left}
use Rattle.charge.specs.Charge.{Charge}
use Rattle.charge.specs.Questions.{asked_with}

-- the run, where `below` answers 16 and `suit` answers 21
unfoldable pub ran_of : Task → ℕ → WordLists → Areas → Bool → Bool → Outcome Totals Areas
ran_of task limit w a below suit =
    let n : ℕ = first_no (asked_with task limit (lengths_of w) a below suit) in
    outcome (unless n (totals_of (frames_in task))) (run_left n task w a)

-- a run's answer, with the charge beside its totals
unfoldable pub charging : Answer Totals → Float → Answer Charge
charging (accepted t) q = accepted (record { totals = t; charge = q })
charging (refused n) q = refused n
