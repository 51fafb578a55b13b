-- What the functions of this crate ask for and promise: a time put in its place, the times of one fan-in, of all fan-ins.
use Rattle.std.specs.Prelude.{ℕ, ◌+◌, ◌*◌, ◌<◌, ◌≤◌, ◌≡◌, true, List, [], ◌∷◌, ◌++◌, map, length, get_or, take, drop}
use Rattle.lists.specs.Tables.{tabulate}
use Rattle.method.specs.Kinds.{most_fanins}
use Rattle.method.specs.Times.{insert_once, start_and_rise}
use Rattle.method.specs.Limits.{most_net_frames}
use Rattle.method.specs.Layout.{part_of}
use Rattle.editions.specs.declared.GateRecord.{GateRecord}
use Rattle.circuit.specs.File.{fanin_at}
use Rattle.circuit.specs.Limits.{most_delay, most_time}

-- ---- the times of one gate, gathered from those of its fan-ins

-- t is inserted into the first `count` numbers of the row, which makes them r; the rest is as it was
pub record Inserted (row row' : List ℕ) (count t r : ℕ) : Type 0 where
  pub count_is : r ≡ length (insert_once t (take count row))
  pub row_is : row' ≡ insert_once t (take count row) ++ drop r row
  pub most : r ≤ count + 1

-- each of these times plus d, inserted one after the other
unfoldable pub into : ℕ → List ℕ → List ℕ → List ℕ
into d [] ts = ts
into d (s ∷ ss) ts = into d ss (insert_once (s + d) ts)

-- the first r numbers of the row are ts, at most `most`
pub record Put (row ts : List ℕ) (most r : ℕ) : Type 0 where
  pub is : take r row ≡ ts
  pub size : length ts ≡ r
  pub few : r ≤ most

-- each of these times plus d
abbrev pub plus : ℕ → List ℕ → List ℕ
plus d ss = map (λ (s : ℕ). s + d) ss

-- ts stand behind the first `count` numbers of the row, which makes them r
pub record Added (row row' : List ℕ) (count : ℕ) (ts : List ℕ) (r : ℕ) : Type 0 where
  pub is : take r row' ≡ take count row ++ ts
  pub size : r ≡ count + length ts

-- ---- the nets that are planned already, as the areas have them

-- the times of the nets in a fan-in list with this many entries, which starts at byte `list`
abbrev pub spans : List ℕ → ℕ → ℕ → List ℕ → List ℕ → List (List ℕ)
spans file list entries d t = map (part_of d t) (tabulate entries (fanin_at file list))

-- a gate within the limits whose fan-in list is there, and whose fan-ins all are: each has its pair in the directory and its times in
-- the area, not too many, from 0 on and rising; no time in the area is late
pub record Fed (file : List ℕ) (g : GateRecord) (d t : List ℕ) : Type 0 where
  pub delay_least : 1 ≤ g.delay
  pub delay_most : g.delay ≤ most_delay
  pub inertial_most : g.inertial ≤ most_delay
  pub entries_most : g.entries ≤ most_fanins
  pub listed : g.list + 2 * g.entries ≤ length file
  pub pair : (e : ℕ) → e < g.entries → 2 * fanin_at file g.list e + 1 < length d
  pub inside : (e : ℕ) → e < g.entries → get_or d (2 * fanin_at file g.list e) 0 + get_or d (2 * fanin_at file g.list e + 1) 0 ≤ length t
  pub few : (e : ℕ) → e < g.entries → get_or d (2 * fanin_at file g.list e + 1) 0 ≤ most_net_frames
  pub starts : (e : ℕ) → e < g.entries → start_and_rise (part_of d t (fanin_at file g.list e)) ≡ true
  pub early : (i : ℕ) → get_or t i 0 ≤ most_time

-- the times of one net: from 0 on and rising, not too many, none late
pub record Span (ts : List ℕ) : Type 0 where
  pub starts : start_and_rise ts ≡ true
  pub few : length ts ≤ most_net_frames
  pub early : (k : ℕ) → get_or ts k 0 ≤ most_time
