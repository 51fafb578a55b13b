-- The last questions of every call that plans. They ask about frames alone, whatever call has them.
use Rattle.std.specs.Prelude.{ℕ, List, [], ◌∷◌}
use Rattle.lists.specs.Ladder.{Question, ◌or_else◌}
use Rattle.method.specs.Frames.{Frames}
use Rattle.method.specs.Sums.{fits, limited}

-- 13 and 22, by the caller's limit
abbrev pub last_questions : ℕ → List Frames → List Question
last_questions limit fs = (fits fs or_else 13) ∷ (limited limit fs or_else 22) ∷ []
