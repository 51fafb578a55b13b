-- What the crate's own functions promise each other. A reader of the wave program's promise may skip this file.
use Rattle.std.specs.Prelude.{ℕ, ◌+◌, ◌/◌, ◌%◌, cond, ◌&&◌, leb, eqb}
use mathlib.Core.List.{List, [], ◌∷◌, ◌++◌, flatten, map}
use Rattle.lists.specs.Ladder.{first_no, Answer, accepted, refused}
use Rattle.lists.specs.Tables.{tabulate}
use Rattle.method.specs.Words.{lane}
use Rattle.method.specs.WordLists.{WordLists, lengths_of}
use Rattle.editions.specs.declared.InputsAndGates.{InputsAndGates}
use Rattle.circuit.specs.Task.{Task, nets_in, times_in, lane_values}
use Rattle.method.specs.Layout.{frame_count, part_of}
use Rattle.looks.specs.Sight.{Sight, sight_at}
use Rattle.method.specs.Limits.{most_total_frames}
use Rattle.engine.specs.Areas.{Areas}
use Rattle.engine.specs.Questions as engine
use Rattle.text.specs.Text.{newline, decimal, refusal, frame_text}
use Rattle.waveform.specs.Lines.{line}

-- how many words a word part of n bytes has for each list; where it does not divide, or has more than 32 for each, none
abbrev pub list_length : ℕ → ℕ
list_length n = cond (eqb (n % 16) 0 && leb n 512) (n / 16) 0

-- ---- lines as they are read off the areas

-- a frame of which this is seen
abbrev pub seen_text : Sight → List ℕ
seen_text s = frame_text s.began s.level

-- n frames, in lane 0, of a net with these parts
unfoldable pub part_frames : List ℕ → List ℕ → ℕ → List ℕ
part_frames times values n = flatten (tabulate n (λ (k : ℕ). seen_text (sight_at times (map (lane 0) values) k)))

unfoldable pub area_line : List ℕ → List ℕ → List ℕ → ℕ → List ℕ
area_line directory times values n =
    decimal n ++ (part_frames (part_of directory times n) (part_of directory values n) (frame_count directory n) ++ newline ∷ [])

-- the first n nets
unfoldable pub area_lines : List ℕ → List ℕ → List ℕ → ℕ → List ℕ
area_lines directory times values n = flatten (tabulate n (area_line directory times values))

-- ---- a run, printed

-- a line for each net of a task, run for these words
unfoldable pub task_lines : Task → WordLists → List ℕ
task_lines task w = flatten (tabulate (nets_in task) (λ (n : ℕ). line n (times_in task n) (lane_values task w 0 n)))

-- how many nets a circuit has, by what the reader answers: I + G
abbrev pub nets_read : Answer InputsAndGates → ℕ
nets_read (accepted s) = s.inputs + s.gates
nets_read (refused n) = 0

-- the number of the first "no" of Run with the greatest limit, or the lines
unfoldable pub run_text : Task → WordLists → Areas → List ℕ
run_text task w a =
    let n : ℕ = first_no (engine.questions task most_total_frames (lengths_of w) a) in
    cond (eqb n 0) (task_lines task w) (refusal n)
