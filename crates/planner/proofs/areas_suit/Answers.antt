-- `areas_suit` meets its contract: the four lengths are asked in turn.
use Rattle.planner.proofs.Asking.{directory_no, times_no, inertial_no, fanins_last}
use borrow.Author.Rules.{rules}
use Rattle.planner.proofs.areas_suit.Goals as goal

pub returns-then-directory-ne-DIRECTORY_LENGTH : goal.returns-then-directory-ne-DIRECTORY_LENGTH
returns-then-directory-ne-DIRECTORY_LENGTH c = directory_no _ _ _ _ c.if-directory-ne-DIRECTORY_LENGTH.true

pub returns-then-times-ne-TIMES_LENGTH : goal.returns-then-times-ne-TIMES_LENGTH
returns-then-times-ne-TIMES_LENGTH c = times_no _ _ _ _ (search rules) c.if-times-ne-TIMES_LENGTH.true

pub returns-then-inertial-ne-TIMES_LENGTH : goal.returns-then-inertial-ne-TIMES_LENGTH
returns-then-inertial-ne-TIMES_LENGTH c = inertial_no _ _ _ _ (search rules) (search rules) c.if-inertial-ne-TIMES_LENGTH.true

pub returns : goal.returns
returns c = fanins_last _ _ _ _ (search rules) (search rules) (search rules)
