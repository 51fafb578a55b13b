-- A verdict's numbers, case by case.
use Rattle.expectations.specs.Verdict.{verdict_on_paper}
use Rattle.answers.specs.Numbers.{verdict_numbers}
use Rattle.answers.proofs.OptionUnmetInNumbersArrayU643.in_numbers.Goals as goal

pub returns-in-None : goal.returns-in-None
unfolding verdict_numbers verdict_on_paper
returns-in-None c = rw c.in-None.is

pub returns-in-Some : goal.returns-in-Some
unfolding verdict_numbers verdict_on_paper
returns-in-Some c = rw c.in-Some.is
