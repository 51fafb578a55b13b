-- Until when a level holds, after every accepted run: what request P1 asks of Level, and of the frames that Mark and the wave
-- program read. `spans` in `proofs/Spans` proves it.
use Rattle.std.specs.Prelude.{ℕ, ◌≤◌, ◌<◌, ◌≡◌, List, get_or}
use Rattle.lists.specs.Ladder.{accepted}
use Rattle.method.specs.Words.{lanes}
use Rattle.method.specs.Layout.{frame_count}
use Rattle.method.specs.WordLists.{WordLists}
use Rattle.circuit.specs.Task.{Task, nets_in}
use Rattle.looks.specs.Sight.{Sight}
use Rattle.looks.specs.Look.{level_of}
use Rattle.engine.specs.Areas.{Areas}
use Rattle.engine.specs.After.{SightHolds, times_of, sight_in, frame_in, last_time}
use Rattle.demands.specs.Runs.{Ran}
use Rattle.demands.specs.Demands.{TwoRuns}

pub record Spans : Type 0 where
  -- whatever net, lane and time are asked for, Level answers: its frame holds the time, begins and ends at potential times of the
  -- net with none between, and from its begin until before its end, or for ever, the machine's level is the one answered
  pub holds : (task : Task) (w : WordLists) (left : Areas) → Ran task w left → (n L t : ℕ) → n < nets_in task → L < lanes → t ≤ last_time
      → SightHolds task w left n L t
  -- what is seen of a frame by its number, which Mark and the wave program go by, is Level's answer at the frame's own time
  pub by_number : (task : Task) (w : WordLists) (left : Areas) → Ran task w left
      → (n L k : ℕ) → n < nets_in task → L < lanes → k < frame_count left.plan.directory n
      → sight_in left n L (get_or (times_of left n) k 0) ≡ accepted (frame_in left n L k)
  -- no pattern bit enters begin or end, in whatever parts: they are the same for all values and in all lanes
  pub by_times : (times values values' : List ℕ) (L L' t : ℕ) (s s' : Sight) → level_of times values L t ≡ accepted s → level_of times values' L' t ≡ accepted s'
      → (s.began ≡ s'.began) × (s.end ≡ s'.end)
  -- two accepted runs of one circuit whose words agree in a lane have the same frames there too
  pub alike : (L : ℕ) (task : Task) (w : WordLists) (left : Areas) (task' : Task) (w' : WordLists) (left' : Areas)
      → TwoRuns L task w left task' w' left'
      → (n t : ℕ) → n < nets_in task → t ≤ last_time → sight_in left n L t ≡ sight_in left' n L t
