-- How many frames there may be.
use Rattle.std.specs.Prelude.{ℕ}

-- a net has at most 64 frames
abbrev pub most_net_frames : ℕ
most_net_frames = 64

-- all nets together have at most 2,048
abbrev pub most_total_frames : ℕ
most_total_frames = 2048
