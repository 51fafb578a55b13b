-- What the crate's own functions ask of each other and promise. A reader of the calls' promises may skip this file.
use Rattle.std.specs.Prelude.{ℕ, ◌+◌, ◌-◌, ◌*◌, ◌≤◌, ◌<◌, ◌≡◌, List, [], ◌∷◌, ◌++◌, length}
use Rattle.std.proofs.lemmas.List.Edits.{sets}
use Rattle.lists.specs.Ladder.{Question, ◌or_else◌}
use Rattle.lists.specs.Tables.{tabulate_from}
use Rattle.lists.specs.Areas.{padded}
use Rattle.lists.specs.Outcome.{Outcome}
use Rattle.method.specs.Kinds.{most_fanins}
use Rattle.method.specs.Circuit.{Gate}
use Rattle.editions.specs.declared.Edition.{Edition}
use Rattle.editions.specs.File.{inputs_of, gates_of, record_head, delay_of, inertial_of, entries_of, gate_of, circuit_of, record_of}
use Rattle.editions.specs.Lies.{Lies}
use Rattle.editions.specs.Limits.{most_gates, delay_range}
use Rattle.editions.specs.Questions as reader
use Rattle.editions.specs.Encode.{encode}
use Rattle.filing.specs.Filed.{area_question, filed_by}
use Rattle.converter.specs.Convert.{delays_up_to}

-- ---- both ways in one

unfoldable pub questions_by : Edition → Edition → List ℕ → List ℕ → List Question
questions_by from to file area =
    reader.questions from file ++ area_question area ∷ (delays_up_to to.most (circuit_of from file).gates or_else 23) ∷ []

unfoldable pub converted_by : Edition → Edition → List ℕ → List ℕ → Outcome ℕ (List ℕ)
converted_by from to file area = filed_by (questions_by from to file area) (encode to (circuit_of from file)) area

-- ---- the gates of a file

-- gates j to n - 1
abbrev pub gates_in : Edition → List ℕ → ℕ → ℕ → List Gate
gates_in from file n j = tabulate_from (n - j) j (gate_of from file)

-- gate j is there, and can be written in an edition
pub record Fit (from to : Edition) (file : List ℕ) (j : ℕ) : Type 0 where
  pub lies : Lies (record_head from) file j
  pub listed : (record_of from file j).list + 2 * (record_of from file j).entries ≤ length file
  pub entries : entries_of from file j ≤ most_fanins
  pub delay : delay_of from file j < delay_range to
  pub inertial : inertial_of from file j < delay_range to

-- so can the first n gates
pub record Fits (from to : Edition) (file : List ℕ) (n : ℕ) : Type 0 where
  pub few : n ≤ most_gates
  pub each : (j : ℕ) → j < n → Fit from to file j

-- and all of the file, into an area that is long enough
pub record Ready (from to : Edition) (file area : List ℕ) : Type 0 where
  pub gates : Fits from to file (gates_of file)
  pub counts : inputs_of from file + to.added < 65536
  pub room : length (encode to (circuit_of from file)) ≤ length area

-- bytes stand in the area from a place on; `end` is the place behind them
pub record Wrote (entry : List ℕ) (at : ℕ) (bytes exit : List ℕ) (end : ℕ) : Type 0 where
  pub is : exit ≡ sets entry at bytes
  pub ends : end ≡ at + length bytes

-- the whole file, zeros behind it, and its length
pub record WroteFile (from to : Edition) (file entry exit : List ℕ) (end : ℕ) : Type 0 where
  pub is : exit ≡ padded (length entry) (encode to (circuit_of from file))
  pub ends : end ≡ length (encode to (circuit_of from file))
