-- The circuit file: what its bytes mean in an edition. A place past the end of the file reads as 0.
use Rattle.std.specs.Prelude.{ℕ, ◌+◌, ◌-◌, ◌*◌, ◌/◌, cond, List, [], ◌∷◌, get_or}
use Rattle.lists.specs.Tables.{tabulate}
use Rattle.numbers.specs.Numbers.{byte_at, number_at}
use Rattle.method.specs.declared.Kind.{Kind}
use Rattle.method.specs.declared.Kind.TheVariants.{Buf, Not, And, Nand, Or, Nor, Xor, Xnor}
use Rattle.method.specs.Circuit.{Gate, Circuit}
use Rattle.editions.specs.declared.Edition.{Edition}
use Rattle.editions.specs.declared.GateRecord.{GateRecord}
use Rattle.editions.specs.Edition.{delay_bytes}

-- ---- the same in both editions

-- bytes 2-3 hold G
abbrev pub gates_of : List ℕ → ℕ
gates_of file = number_at file 2

-- then come G pairs of offset and length, two bytes each
abbrev pub head_length : ℕ → ℕ
head_length gates = 4 + 4 * gates

abbrev pub offset_of : List ℕ → ℕ → ℕ
offset_of file j = number_at file (4 + 4 * j)

abbrev pub length_of : List ℕ → ℕ → ℕ
length_of file j = number_at file (6 + 4 * j)

-- a record starts with the kind
abbrev pub kind_byte : List ℕ → ℕ → ℕ
kind_byte file j = byte_at file (offset_of file j)

-- kinds: 0 BUF, 1 NOT, 2 AND, 3 NAND, 4 OR, 5 NOR, 6 XOR, 7 XNOR
unfoldable pub kind_of : ℕ → Kind
kind_of n = get_or (Buf ∷ Not ∷ And ∷ Nand ∷ Or ∷ Nor ∷ Xor ∷ Xnor ∷ []) n Xnor

-- entry i of a fan-in list that starts at byte `list`
abbrev pub fanin_at : List ℕ → ℕ → ℕ → ℕ
fanin_at file list i = number_at file (list + 2 * i)

-- ---- by the edition

module _ (e : Edition) where
  -- bytes 0-1 hold I and what the edition adds
  unfoldable pub inputs_of : List ℕ → ℕ
  inputs_of file = number_at file 0 - e.added

  -- a record is kind (a byte), d, di (a delay each), then M fan-in net numbers of two bytes
  abbrev pub record_head : ℕ
  record_head = 1 + 2 * delay_bytes e

  abbrev pub record_length : ℕ → ℕ
  record_length entries = record_head + 2 * entries

  -- the delay that starts at byte `at`
  unfoldable pub delay_at : List ℕ → ℕ → ℕ
  delay_at file at = cond e.wide (number_at file at) (byte_at file at)

  abbrev pub delay_of : List ℕ → ℕ → ℕ
  delay_of file j = delay_at file (offset_of file j + 1)

  abbrev pub inertial_of : List ℕ → ℕ → ℕ
  inertial_of file j = delay_at file (offset_of file j + (1 + delay_bytes e))

  -- where the fan-in list starts, and M
  abbrev pub list_of : List ℕ → ℕ → ℕ
  list_of file j = offset_of file j + record_head

  abbrev pub entries_of : List ℕ → ℕ → ℕ
  entries_of file j = (length_of file j - record_head) / 2

  unfoldable pub fanins_of : List ℕ → ℕ → List ℕ
  fanins_of file j = tabulate (entries_of file j) (fanin_at file (list_of file j))

  -- gate j
  unfoldable pub gate_of : List ℕ → ℕ → Gate
  gate_of file j =
      record { kind = kind_of (kind_byte file j); delay = delay_of file j; inertial = inertial_of file j; fanins = fanins_of file j }

  -- the circuit that a file means
  unfoldable pub circuit_of : List ℕ → Circuit
  circuit_of file = record { inputs = inputs_of file; gates = tabulate (gates_of file) (gate_of file) }

  -- gate j's record, taken apart: where its fan-in list lies stands for the list itself
  unfoldable pub record_of : List ℕ → ℕ → GateRecord
  record_of file j =
      record {
        kind = kind_of (kind_byte file j);
        delay = delay_of file j;
        inertial = inertial_of file j;
        list = list_of file j;
        entries = entries_of file j;
      }
