-- `mazh_level` meets its contract: what the call says of its answer, in numbers.
use Rattle.answers.specs.Numbers.{sight_numbers}
use Rattle.answers.proofs.Given.{given_answer, given_sight}
use Rattle.export.proofs.mazh_level.Goals as goal

pub returns : goal.returns
returns c = given_answer sight_numbers c.args.sight.now (given_sight _ _ c.give.ensures.number c.give.ensures.array) c.level.ensures
