-- What is seen of a net in one lane at a frame: the level, the time at which the frame began, and the time at which the next
-- begins, or that there is no end.
use Rattle.std.specs.Prelude.{ℕ, suc, Bool, false, List, [], ◌∷◌, get_or, drop, Option, Some, None}
use Rattle.method.specs.Indices.{last_frame}
use Rattle.method.specs.declared.Time.{Time}
use Rattle.looks.specs.declared.Sight as code

-- when a frame ends: when the next begins, or never
pub data End : Type 0 where
  at : ℕ → End
  never : End

pub record Sight : Type 0 where
  pub level : Bool
  pub began : ℕ
  pub end : End

-- the end of a frame behind which the frames have these times
unfoldable pub end_by : List ℕ → End
end_by [] = never
end_by (next ∷ later) = at next

-- frame k of a net with these times and, in a lane, these levels; what the lists do not have is level 0, time 0 and no end
unfoldable pub sight_at : List ℕ → List Bool → ℕ → Sight
sight_at times levels k = record { level = get_or levels k false; began = get_or times k 0; end = end_by (drop (suc k) times) }

-- the frame that holds time t: the last one not later
unfoldable pub sight : List ℕ → List Bool → ℕ → Sight
sight times levels t = sight_at times levels (last_frame times t)

-- ---- the code's types in these terms

unfoldable pub end_on_paper : Option Time → End
end_on_paper (Some t) = at t.0
end_on_paper None = never

unfoldable pub sight_on_paper : code.Sight → Sight
sight_on_paper s = record { level = s.level; began = s.began.0; end = end_on_paper s.until }
