-- `mazh_size` meets its contract: what the call says of its answer, in numbers.
use Rattle.answers.specs.Numbers.{total_numbers}
use Rattle.answers.proofs.Given.{given_answer, given_numbers}
use Rattle.export.proofs.mazh_size.Goals as goal

pub returns : goal.returns
returns c = given_answer total_numbers c.args.totals.now (given_numbers _ total_numbers _ c.give.ensures.number c.give.ensures.array) c.size.ensures
