-- Level and Count: what they ask of one net's parts, and what they answer.
use Rattle.std.specs.Prelude.{ℕ, Bool, ◌&&◌, List, [], ◌∷◌, map, length, ltb, eqb, Result, Ok, Err}
use Rattle.lists.specs.Ladder.{Question, ◌or_else◌, between, Answer, accepted, refused, answer}
use Rattle.method.specs.Times.{start_and_rise}
use Rattle.method.specs.Look.{changes}
use Rattle.method.specs.Words.{lanes, lane}
use Rattle.method.specs.Limits.{most_net_frames}
use Rattle.method.specs.declared.Refusal.{Refusal}
use Rattle.method.specs.Refusals.{number_of}
use Rattle.looks.specs.declared.Sight as code
use Rattle.looks.specs.Sight.{Sight, sight, sight_on_paper}

-- 14: Are the parts equally long, 1 to 64?
abbrev pub parts_suit : List ℕ → List ℕ → Bool
parts_suit times values = eqb (length times) (length values) && between 1 most_net_frames (length times)

-- 15: Do the times start at 0 and strictly rise?
-- 16: Is the lane below 64?
unfoldable pub look_questions : List ℕ → List ℕ → ℕ → List Question
look_questions times values L =
    (parts_suit times values or_else 14) ∷ (start_and_rise times or_else 15) ∷ (ltb L lanes or_else 16) ∷ []

-- what is seen in the lane at the last frame not later than the time
unfoldable pub level_of : List ℕ → List ℕ → ℕ → ℕ → Answer Sight
level_of times values L t = answer (look_questions times values L) (sight times (map (lane L) values) t)

-- of that answer the level alone, for statements that speak of no more
abbrev pub level_part : Answer Sight → Answer Bool
level_part (accepted s) = accepted s.level
level_part (refused n) = refused n

-- at how many frames from 1 on the lane's bit differs from the frame before
unfoldable pub count_of : List ℕ → List ℕ → ℕ → Answer ℕ
count_of times values L = answer (look_questions times values L) (changes (map (lane L) values))

-- Level's result in the paper's terms: the level with its frame's begin and end, or the number alone
unfoldable pub seen_on_paper : Result code.Sight Refusal → Answer Sight
seen_on_paper (Ok s) = accepted (sight_on_paper s)
seen_on_paper (Err r) = refused (number_of r)
