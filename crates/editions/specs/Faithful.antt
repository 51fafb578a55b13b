-- The reader is neither empty nor loose: in an edition it accepts exactly the files of circuits within the limits, and one circuit
-- is one file. And no file passes in both editions. `proofs/Faithful` proves these records.
use Rattle.std.specs.Prelude.{ℕ, ◌<◌, ◌≡◌, ◌↔◌, List, length, get_or}
use Rattle.lists.specs.Ladder.{accepted, refused}
use Rattle.method.specs.Circuit.{Circuit}
use Rattle.editions.specs.declared.Edition.{Edition}
use Rattle.editions.specs.Edition.{former, present}
use Rattle.editions.specs.File.{circuit_of}
use Rattle.editions.specs.declared.InputsAndGates.{InputsAndGates}
use Rattle.editions.specs.Questions.{read_of}
use Rattle.editions.specs.Limits.{Within}
use Rattle.editions.specs.Encode.{encode}

-- every entry is a byte, as every entry of a `&[u8]` is
abbrev pub Bytes : List ℕ → Type 0
Bytes file = (i : ℕ) → i < length file → get_or file i 0 < 256

-- the I and the G of a circuit
abbrev pub inputs_and_gates_in : Circuit → InputsAndGates
inputs_and_gates_in c = record { inputs = c.inputs; gates = length c.gates }

pub record Faithful (e : Edition) : Type 0 where
  -- the file of a circuit within the limits is a file of bytes, is accepted with its I and G, and means that circuit
  pub bytes : (c : Circuit) → Within e c → Bytes (encode e c)
  pub accepts : (c : Circuit) → Within e c → read_of e (encode e c) ≡ accepted (inputs_and_gates_in c)
  pub means : (c : Circuit) → Within e c → circuit_of e (encode e c) ≡ c
  -- an accepted file answers its circuit's I and G, its circuit is within the limits, and it is that circuit's file
  pub answers : (file : List ℕ) (s : InputsAndGates) → read_of e file ≡ accepted s → s ≡ inputs_and_gates_in (circuit_of e file)
  pub within : (file : List ℕ) (s : InputsAndGates) → read_of e file ≡ accepted s → Within e (circuit_of e file)
  pub written : (file : List ℕ) (s : InputsAndGates) → Bytes file → read_of e file ≡ accepted s → encode e (circuit_of e file) ≡ file
  -- so the accepted files are exactly the files of circuits within the limits
  pub exactly : (file : List ℕ) → Bytes file → ((s : InputsAndGates) × (read_of e file ≡ accepted s)) ↔ ((c : Circuit) × Within e c × (encode e c ≡ file))

-- of both editions
pub record BothFaithful : Type 0 where
  pub former_faithful : Faithful former
  pub present_faithful : Faithful present
  -- a file that passes in one edition is refused with 2 in the other
  pub not_present : (file : List ℕ) (s : InputsAndGates) → read_of former file ≡ accepted s → read_of present file ≡ refused 2
  pub not_former : (file : List ℕ) (s : InputsAndGates) → read_of present file ≡ accepted s → read_of former file ≡ refused 2
