-- What holds of the converters: the file written reads back, in its edition, to the same circuit, and there and back is the same
-- file (`Conversions`, proved in `proofs/Conversions`); and how much of a file decides (`Long`, in `proofs/Long`). That no file passes
-- in both editions stands in `editions/specs/Faithful`.
use Rattle.std.specs.Prelude.{ℕ, suc, ◌-◌, ◌≤◌, ◌<◌, ◌≡◌, List, length, take, drop, replicate}
use Rattle.lists.specs.Ladder.{accepted}
use Rattle.lists.specs.Areas.{padded}
use Rattle.lists.specs.Outcome.{outcome}
use Rattle.method.specs.Circuit.{Circuit}
use Rattle.editions.specs.declared.Edition.{Edition}
use Rattle.editions.specs.Edition.{former, present}
use Rattle.editions.specs.File.{circuit_of}
use Rattle.editions.specs.Questions.{read_of}
use Rattle.editions.specs.Faithful.{Bytes, inputs_and_gates_in}
use Rattle.filing.specs.Filed.{area_length}
use Rattle.converter.specs.Convert.{newer_of, older_of, other_of}

-- the first n bytes of the area are a file of the edition, which means the circuit, and the rest is 0
pub record Holds (e : Edition) (c : Circuit) (n : ℕ) (left : List ℕ) : Type 0 where
  pub long : length left ≡ area_length
  pub room : n ≤ area_length
  pub rest : drop n left ≡ replicate (area_length - n) 0
  pub bytes : Bytes (take n left)
  pub accepts : read_of e (take n left) ≡ accepted (inputs_and_gates_in c)
  pub means : circuit_of e (take n left) ≡ c

pub record Conversions : Type 0 where
  pub newer_reads : (file area : List ℕ) (n : ℕ) → (newer_of file area).answer ≡ accepted n → Holds present (circuit_of former file) n (newer_of file area).left
  pub older_reads : (file area : List ℕ) (n : ℕ) → (older_of file area).answer ≡ accepted n → Holds former (circuit_of present file) n (older_of file area).left
  -- there and back, byte for byte
  pub newer_back : (file area area' : List ℕ) (n : ℕ) → Bytes file → (newer_of file area).answer ≡ accepted n → length area' ≡ area_length
      → older_of (take n (newer_of file area).left) area' ≡ outcome (accepted (length file)) (padded area_length file)
  pub older_back : (file area area' : List ℕ) (n : ℕ) → Bytes file → (older_of file area).answer ≡ accepted n → length area' ≡ area_length
      → newer_of (take n (older_of file area).left) area' ≡ outcome (accepted (length file)) (padded area_length file)

-- no offset and length of two bytes each add up to more
abbrev pub most_reach : ℕ
most_reach = 131070

-- so of a longer file one byte more than that is enough to read: the answer is the same
abbrev pub Long : Type 0
Long = (file area : List ℕ) → Bytes file → most_reach < length file → other_of (take (suc most_reach) file) area ≡ other_of file area
