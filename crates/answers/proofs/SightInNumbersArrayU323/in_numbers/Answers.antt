-- A sight's numbers: the level as a number, the begin, and the end, or 0 where there is none.
use mathlib.Core.Path.{◌≡◌, ap}
use Rattle.looks.specs.Sight.{end_on_paper, sight_on_paper}
use Rattle.answers.specs.Numbers.{end_number, sight_numbers}
use Rattle.answers.proofs.Given.{seen_numbers}
use Rattle.answers.proofs.SightInNumbersArrayU323.in_numbers.Goals as goal
use Rattle.answers.proofs.SightInNumbersArrayU323.in_numbers.Goals.{in-Some, in-None}

pub returns : goal.returns
unfolding end_number end_on_paper
returns c = seen_numbers c.args.self (elim c.match-self.branch [ in-Some w ↦ cc (ap (λ u. end_number (end_on_paper u)) w.in-Some.is) | in-None w ↦ cc (ap (λ u. end_number (end_on_paper u)) w.in-None.is) ])
