-- Gates written in a file of an edition: what the file says of gates j, j + 1, .. is what these gates are, their records one
-- behind the other from a byte on. This holds where their encoding stands in the file, and the other way round in a file of bytes.
-- Assumes nothing.
use Prim.Native.Nat.{ℕ, suc, ◌+◌, ◌-◌, ◌*◌, ◌/◌}
use mathlib.Core.Path.{◌≡◌, refl, ◌∙◌, ap₂}
use mathlib.Core.Bool.{Bool, true, false, cond}
use mathlib.Core.List.{List, [], ◌∷◌, ◌++◌, flat_map}
use native.Mathlib.Omega.{arith}
use lib.ListN.{length, get_or, length-append}
use Rattle.lists.specs.Tables.{tabulate_from}
use Rattle.lists.proofs.Standing.{Stands, stands_left, stands_right, stands_append, stands_head, stands_tail, stands_cons, stands_none}
use Rattle.numbers.specs.Numbers.{byte_at, number_at}
use Rattle.method.specs.Circuit.{Gate}
use Rattle.editions.specs.declared.Edition.{Edition}
use Rattle.editions.specs.Edition.{delay_bytes}
use Rattle.editions.specs.File.{offset_of, length_of, record_head, record_length, kind_byte, delay_at, delay_of, inertial_of, entries_of, fanins_of, gate_of}
use Rattle.method.specs.Kinds.{kind_number}
use Rattle.editions.specs.Encode.{two_bytes, encode_delay, encode_head, encode_gate, encode_pairs}
use Rattle.editions.specs.Faithful.{Bytes}
use Rattle.editions.proofs.Bytewise.{number_stands, stands_number, two_length, list_stands, stands_list, list_length_lem, kind_number_lem}

-- ---- a delay of two bytes or of one

delay_stands_by : (wide : Bool) (s : List ℕ) (k d : ℕ) → Stands s k (cond wide (two_bytes d) (d ∷ [])) → cond wide (number_at s k) (byte_at s k) ≡ d
delay_stands_by true s k d h = number_stands s k d h
delay_stands_by false s k d h = stands_head s k d [] h

stands_delay_by : (wide : Bool) (s : List ℕ) → Bytes s → (k d : ℕ) → cond wide (number_at s k) (byte_at s k) ≡ d → Stands s k (cond wide (two_bytes d) (d ∷ []))
stands_delay_by true s b k d e = stands_number s b k d e
stands_delay_by false s b k d e = stands_cons s k d [] e (stands_none s (k + 1))

delay_length_by : (wide : Bool) (d : ℕ) → length (cond wide (two_bytes d) (d ∷ [])) ≡ cond wide 2 1
delay_length_by true d = two_length d
delay_length_by false d = refl

module _ (ed : Edition) where
  delay_stands : (s : List ℕ) (k d : ℕ) → Stands s k (encode_delay ed d) → delay_at ed s k ≡ d
  unfolding encode_delay delay_at
  delay_stands s k d h = delay_stands_by ed.wide s k d h

  stands_delay : (s : List ℕ) → Bytes s → (k d : ℕ) → delay_at ed s k ≡ d → Stands s k (encode_delay ed d)
  unfolding encode_delay delay_at
  stands_delay s b k d e = stands_delay_by ed.wide s b k d e

  pub delay_length : (d : ℕ) → length (encode_delay ed d) ≡ delay_bytes ed
  unfolding encode_delay delay_bytes
  delay_length d = delay_length_by ed.wide d

  -- ---- one gate

  -- gate j's pair and record say g, and the record starts at `at`
  pub record Written (s : List ℕ) (j at : ℕ) (g : Gate) : Type 0 where
    pub offset : offset_of s j ≡ at
    pub len : length_of s j ≡ record_length ed (length g.fanins)
    pub kind : kind_byte s j ≡ kind_number g.kind
    pub delay : delay_of ed s j ≡ g.delay
    pub inertial : inertial_of ed s j ≡ g.inertial
    pub fanins : fanins_of ed s j ≡ g.fanins

  pub head_length_lem : (g : Gate) → length (encode_head ed g.kind g.delay g.inertial) ≡ record_head ed
  unfolding encode_head
  head_length_lem g =
      omega (arith, length-append (encode_delay ed g.delay) (encode_delay ed g.inertial), delay_length g.delay, delay_length g.inertial)

  pub gate_length : (g : Gate) → length (encode_gate ed g) ≡ record_length ed (length g.fanins)
  unfolding encode_gate
  gate_length g =
      length-append (encode_head ed g.kind g.delay g.inertial) (flat_map two_bytes g.fanins)
      ∙ omega (arith, head_length_lem g, list_length_lem g.fanins)

  pub written_gate : (s : List ℕ) (j at : ℕ) (g : Gate) → Written s j at g → gate_of ed s j ≡ g
  unfolding gate_of
  written_gate s j at g w = rw (w.kind, kind_number_lem g.kind, w.delay, w.inertial, w.fanins)

  -- the places of d, di and the fan-in list in a record
  second_place : (at d : ℕ) → (at + 1) + length (encode_delay ed d) ≡ at + (1 + delay_bytes ed)
  second_place at d = omega (arith, delay_length d)

  list_place : (at : ℕ) (g : Gate) → at + length (encode_head ed g.kind g.delay g.inertial) ≡ (at + record_head ed) + 2 * 0
  list_place at g = omega (arith, head_length_lem g)

  stands→gate : (s : List ℕ) (j at : ℕ) (g : Gate) → offset_of s j ≡ at → length_of s j ≡ record_length ed (length g.fanins) → Stands s at (encode_gate ed g) → Written s j at g
  unfolding encode_gate encode_head fanins_of
  stands→gate s j at g o l h =
      let d = encode_delay ed g.delay in
      let di = encode_delay ed g.inertial in
      let head = kind_number g.kind ∷ (d ++ di) in
      let list = flat_map two_bytes g.fanins in
      let first = stands_left s at head list h in
      let delays = stands_tail s at (kind_number g.kind) (d ++ di) first in
      let second : Stands s (at + (1 + delay_bytes ed)) di = rw (second_place at g.delay) at (stands_right s (at + 1) d di delays) in
      let m : (length_of s j - record_head ed) / 2 ≡ length g.fanins = omega arith in
      record {
        offset = o;
        len = l;
        kind = rw o (stands_head s at (kind_number g.kind) (d ++ di) first);
        delay = rw o (delay_stands s (at + 1) g.delay (stands_left s (at + 1) d di delays));
        inertial = rw o (delay_stands s (at + (1 + delay_bytes ed)) g.inertial second);
        fanins = rw (m, o) (list_stands s (at + record_head ed) 0 g.fanins (rw (list_place at g) at (stands_right s at head list h)));
      }

  gate→stands : (s : List ℕ) → Bytes s → (j at : ℕ) (g : Gate) → Written s j at g → Stands s at (encode_gate ed g)
  unfolding encode_gate encode_head fanins_of
  gate→stands s b j at g w =
      let o = w.offset in
      let d = encode_delay ed g.delay in
      let di = encode_delay ed g.inertial in
      let list = flat_map two_bytes g.fanins in
      let kind : get_or s at 0 ≡ kind_number g.kind = rw (← o) w.kind in
      let delay : delay_at ed s (at + 1) ≡ g.delay = rw (← o) w.delay in
      let inertial : delay_at ed s (at + (1 + delay_bytes ed)) ≡ g.inertial = rw (← o) w.inertial in
      let fanins : Stands s ((at + record_head ed) + 2 * 0) list = rw (← w.fanins, ← o) (stands_list s b (offset_of s j + record_head ed) (entries_of ed s j) 0) in
      let second = stands_delay s b (at + (1 + delay_bytes ed)) g.inertial inertial in
      let delays = stands_append s (at + 1) d di (stands_delay s b (at + 1) g.delay delay) (rw (← second_place at g.delay) at second) in
      stands_append s at (kind_number g.kind ∷ (d ++ di)) list (stands_cons s at (kind_number g.kind) (d ++ di) kind delays)
      (rw (← list_place at g) at fanins)

  -- ---- gates one after the other

  -- gates j, j + 1, .. of the file are these, with their records from byte `at` on
  abbrev pub WrittenFrom : List ℕ → ℕ → ℕ → List Gate → Type 0
  WrittenFrom s j at [] = Unit {0}
  WrittenFrom s j at (g ∷ gs) = Written s j at g × WrittenFrom s (suc j) (at + record_length ed (length g.fanins)) gs

  pub stands→written : (s : List ℕ) (j at : ℕ) (gs : List Gate) → Stands s (4 + 4 * j) (encode_pairs ed at gs) → Stands s at (flat_map (encode_gate ed) gs) → WrittenFrom s j at gs
  unfolding encode_pairs flat_map
  stands→written s j at [] p r = tt
  stands→written s j at (g ∷ gs) p r =
      let len = record_length ed (length g.fanins) in
      let rest = two_bytes len ++ encode_pairs ed (at + len) gs in
      let pair = stands_right s (4 + 4 * j) (two_bytes at) rest p in
      let one : (4 + 4 * j) + length (two_bytes at) ≡ 6 + 4 * j = omega (arith, two_length at) in
      let pair' : Stands s (6 + 4 * j) rest = rw one at pair in
      let pairs = stands_right s (6 + 4 * j) (two_bytes len) (encode_pairs ed (at + len) gs) pair' in
      let next : (6 + 4 * j) + length (two_bytes len) ≡ 4 + 4 * suc j = omega (arith, two_length len) in
      let records = stands_right s at (encode_gate ed g) (flat_map (encode_gate ed) gs) r in (
        stands→gate s j at g
            (number_stands s (4 + 4 * j) at (stands_left s (4 + 4 * j) (two_bytes at) rest p))
            (number_stands s (6 + 4 * j) len (stands_left s (6 + 4 * j) (two_bytes len) (encode_pairs ed (at + len) gs) pair'))
            (stands_left s at (encode_gate ed g) (flat_map (encode_gate ed) gs) r),
        stands→written s (suc j) (at + len) gs (rw next at pairs) (rw (gate_length g) at records),
      )

  pub written→pairs : (s : List ℕ) → Bytes s → (j at : ℕ) (gs : List Gate) → WrittenFrom s j at gs → Stands s (4 + 4 * j) (encode_pairs ed at gs)
  unfolding encode_pairs
  written→pairs s b j at [] w = stands_none s (4 + 4 * j)
  written→pairs s b j at (g ∷ gs) w =
      let len = record_length ed (length g.fanins) in
      let rest = two_bytes len ++ encode_pairs ed (at + len) gs in
      let one : 6 + 4 * j ≡ (4 + 4 * j) + length (two_bytes at) = omega (arith, two_length at) in
      let next : 4 + 4 * suc j ≡ (6 + 4 * j) + length (two_bytes len) = omega (arith, two_length len) in
      let pairs = written→pairs s b (suc j) (at + len) gs w.1 in
      let pair' = stands_append s (6 + 4 * j) (two_bytes len) (encode_pairs ed (at + len) gs) (stands_number s b (6 + 4 * j) len w.0.len) (rw next at pairs) in
      stands_append s (4 + 4 * j) (two_bytes at) rest (stands_number s b (4 + 4 * j) at w.0.offset) (rw one at pair')

  pub written→records : (s : List ℕ) → Bytes s → (j at : ℕ) (gs : List Gate) → WrittenFrom s j at gs → Stands s at (flat_map (encode_gate ed) gs)
  unfolding flat_map
  written→records s b j at [] w = stands_none s at
  written→records s b j at (g ∷ gs) w =
      let records = written→records s b (suc j) (at + record_length ed (length g.fanins)) gs w.1 in
      stands_append s at (encode_gate ed g) (flat_map (encode_gate ed) gs) (gate→stands s b j at g w.0) (rw (← gate_length g) at records)

  -- the gates that the file means are those written in it
  pub written_gates : (s : List ℕ) (j at : ℕ) (gs : List Gate) → WrittenFrom s j at gs → tabulate_from (length gs) j (gate_of ed s) ≡ gs
  unfolding tabulate_from
  written_gates s j at [] w = refl
  written_gates s j at (g ∷ gs) w = ap₂ ◌∷◌ (written_gate s j at g w.0) (written_gates s (suc j) (at + record_length ed (length g.fanins)) gs w.1)

  pub pairs_length : (at : ℕ) (gs : List Gate) → length (encode_pairs ed at gs) ≡ 4 * length gs
  unfolding encode_pairs
  pairs_length at [] = refl
  pairs_length at (g ∷ gs) =
      let len = record_length ed (length g.fanins) in
      length-append (two_bytes at) (two_bytes len ++ encode_pairs ed (at + len) gs)
      ∙ omega (arith, two_length at, two_length len, length-append (two_bytes len) (encode_pairs ed (at + len) gs), pairs_length (at + len) gs)
