-- What a call that plans is handed, its task: the circuit file and the inputs' change times. And what follows from a task and,
-- in a run, from its words: the frames, the packed values, and in each lane the machine.
use Rattle.std.specs.Prelude.{ℕ, Bool, List}
use Rattle.method.specs.Circuit.{Circuit}
use Rattle.method.specs.Stimulus.{Stimuli, Moments}
use Rattle.method.specs.Changes.{Schedule, schedule, moments_from}
use Rattle.method.specs.Frames.{Frames, frames, frames_at}
use Rattle.method.specs.Traces.{trace_at}
use Rattle.method.specs.Machine.{Wave, machine}
use Rattle.method.specs.Packed.{lane_of, packed_values}
use Rattle.method.specs.Values.{net_count, all_values}
use Rattle.method.specs.Agreement.{potential}
use Rattle.method.specs.WordLists.{WordLists}
use Rattle.circuit.specs.declared.Task as code
use Rattle.circuit.specs.File.{circuit_of}

pub record Task : Type 0 where
  pub file : List ℕ
  pub schedule : Schedule

-- from the file, the list of change counts and the list of times
abbrev pub task_of : List ℕ → List ℕ → List ℕ → Task
task_of file counts changes = record { file = file; schedule = schedule counts changes }

-- from the struct that the code hands on
abbrev pub task_in : code.Task → Task
task_in t = task_of t.file.now t.counts.now t.changes.now

-- ---- of a task alone: no word enters these

abbrev pub circuit_in : Task → Circuit
circuit_in task = circuit_of task.file

-- the change times of each input
abbrev pub moments_in : Task → Moments
moments_in task = moments_from task.schedule

-- how many nets there are
abbrev pub nets_in : Task → ℕ
nets_in task = net_count (circuit_in task)

-- the frames of all nets
abbrev pub frames_in : Task → List Frames
frames_in task = frames (circuit_in task) (moments_in task)

-- the potential times of net n, and whether t is one
abbrev pub times_in : Task → ℕ → List ℕ
times_in task n = (frames_at (circuit_in task) (moments_in task) n).times

abbrev pub potential_in : Task → ℕ → ℕ → Bool
potential_in task n t = potential (circuit_in task) (moments_in task) n t

-- ---- of a task run for these words

-- what drives the inputs in lane L: the lane's bits of the words, at the change times
abbrev pub stimuli_in : Task → WordLists → ℕ → Stimuli
stimuli_in task w L = lane_of L (moments_in task) w

-- in lane L net n's values, frame by frame, and its level in the time-by-time machine, each run for that lane's stimuli by
-- themselves
abbrev pub lane_values : Task → WordLists → ℕ → ℕ → List Bool
lane_values task w L n = (trace_at (circuit_in task) (stimuli_in task w L) n).values

abbrev pub machine_in : Task → WordLists → ℕ → ℕ → Wave
machine_in task w L n = machine (circuit_in task) (stimuli_in task w L) n

-- the packed values of net n, and those of all nets
abbrev pub packed_in : Task → WordLists → ℕ → List ℕ
packed_in task w n = packed_values (circuit_in task) (moments_in task) w n

abbrev pub all_packed_in : Task → WordLists → List ℕ
all_packed_in task w = all_values (circuit_in task) (moments_in task) w
