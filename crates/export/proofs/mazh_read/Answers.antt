-- `mazh_read` meets its contract: what the call says of its answer, in numbers.
use Rattle.answers.specs.Numbers.{net_numbers}
use Rattle.answers.proofs.Given.{given_answer, given_numbers}
use Rattle.export.proofs.mazh_read.Goals as goal

pub returns : goal.returns
returns c = given_answer net_numbers c.args.nets.now (given_numbers _ net_numbers _ c.give.ensures.number c.give.ensures.array) c.read.ensures
