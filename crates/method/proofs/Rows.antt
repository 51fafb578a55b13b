-- The fan-in rows of a net, read from the fan-in area: each entry, and of every gate where its rows start. The gates before it
-- have as many rows as frames, and rows as wide as their fan-in lists.
-- Assumes nothing.
use Prim.Native.Nat.{ℕ, zero, suc, ◌+◌, ◌*◌, ◌≤◌, ◌<◌}
use mathlib.Core.Path.{◌≡◌, sym, ap, ◌∙◌}
use mathlib.Core.List.{List, map, flatten}
use native.Mathlib.Omega.{arith}
use native.Mathlib.Nat.{suc-mul, add_assoc, add-zero, mul-le-mul_right}
use lib.ListN.{length, get_or, take, length-map}
use lib.Seq.{take-suc}
use Rattle.lists.proofs.Tabled.{from_ext, map_at, entries_all}
use Rattle.lists.proofs.Flat.{table_at, table_length}
use Rattle.method.specs.Circuit.{Circuit, gate_at, NoFeedback}
use Rattle.method.specs.Stimulus.{Moments}
use Rattle.method.specs.Indices.{fanin_index}
use Rattle.method.specs.Frames.{Frames, fanin_row, no_frames, frames, frames_at}
use Rattle.method.specs.Areas.{Areas}
use Rattle.method.specs.Layout.{laid, frame_count, all_fanins}
use Rattle.method.specs.Rows.{entries_of, rows_start, entry_in, rows_in}
use Rattle.method.specs.Netwise.{fanin_times_of}
use Rattle.method.proofs.Laying.{pair_count, fanin_at_lem, fanins_more}
use Rattle.method.proofs.Prefix.{no_rows}
use Rattle.method.proofs.Netwise.{net_by_net}
use Rattle.method.proofs.Parts.{nets_count}

entry_fits : (k n m e : ℕ) → k < n → e < m → k * m + e < n * m
entry_fits k n m e h l = let q : suc k * m ≤ n * m = mul-le-mul_right m h in omega (arith, suc-mul k m)

-- net n of any frames that lie in the areas: at its times ts it has these rows, all m wide
module _ (fs : List Frames) (n : ℕ) (h : n < length fs) (row : ℕ → List ℕ) (m : ℕ) (wide : (t : ℕ) → length (row t) ≡ m) (ts : List ℕ)
    (rows : (get_or fs n no_frames).rows ≡ map row ts) where
  pub rows_wide : length (flatten (get_or fs n no_frames).rows) ≡ length ts * m
  rows_wide = rw rows (table_length row m wide ts)

  -- where the rows of the next net start
  pub rows_next : length (all_fanins (take (suc n) fs)) ≡ length (all_fanins (take n fs)) + length ts * m
  rows_next = rw (take-suc fs n no_frames h, ← rows_wide) (fanins_more (take n fs) (get_or fs n no_frames))

  pub entry_at : {a : Areas} → a ≡ laid fs a → (k e : ℕ) → k < length ts → e < m
      → get_or a.fanins (length (all_fanins (take n fs)) + k * m + e) 0 ≡ get_or (row (get_or ts k 0)) e 0
  entry_at {a} is k e l u =
      ap (λ (i : ℕ). get_or a.fanins i 0) (add_assoc (length (all_fanins (take n fs))) (k * m) e)
      ∙ fanin_at_lem fs is n h (k * m + e) (rw rows_wide (entry_fits k (length ts) m e l u))
      ∙ ap (λ (rs : List (List ℕ)). get_or (flatten rs) (k * m + e) 0) rows
      ∙ table_at row m wide ts 0 k e l u

-- ---- the gates of a circuit

module _ (c : Circuit) (ok : NoFeedback c) (m : Moments) {a : Areas} (is : a ≡ laid (frames c m) a) where
  module _ (j : ℕ) (h : j < length c.gates) where
    abbrev net : ℕ
    net = c.inputs + j

    abbrev ts : List ℕ
    ts = (frames_at c m net).times

    there : net < length (frames c m)
    there = omega (arith, nets_count c m)

    row : ℕ → List ℕ
    row t = fanin_row (gate_at c j).delay (fanin_times_of c j m) t

    row_wide : (t : ℕ) → length (row t) ≡ entries_of c j
    unfolding row
    row_wide t = length-map (fanin_times_of c j m) (λ (ss : List ℕ). fanin_index (gate_at c j).delay ss t) ∙ length-map (gate_at c j).fanins (λ (n : ℕ). (frames_at c m n).times)

    rows_are : (frames_at c m net).rows ≡ map row ts
    unfolding row
    rows_are = ((net_by_net c).1 ok).gate_rows m j h

    count_is : frame_count a.directory net ≡ length ts
    count_is = pair_count (frames c m) is net there

    next_start : length (all_fanins (take (suc net) (frames c m))) ≡ length (all_fanins (take net (frames c m))) + length ts * entries_of c j
    next_start = rows_next (frames c m) net there row (entries_of c j) row_wide ts rows_are

  starts_at : (j : ℕ) → j ≤ length c.gates → rows_start c a.directory j ≡ length (all_fanins (take (c.inputs + j) (frames c m)))
  unfolding rows_start
  starts_at zero h = rw add-zero (sym (no_rows c m c.inputs (omega arith)))
  starts_at (suc j) h =
      rw (let q : c.inputs + suc j ≡ suc (c.inputs + j) = omega arith in q, next_start j h, count_is j h, starts_at j (omega arith))

  -- each entry is that of the frame's row, and so all of them
  entry_in_lem : (j : ℕ) (h : j < length c.gates) (k e : ℕ) → k < length (ts j h) → e < entries_of c j → entry_in c a j k e ≡ get_or (row j h (get_or (ts j h) k 0)) e 0
  entry_in_lem j h k e l u =
      ap (λ (start : ℕ). get_or a.fanins (start + k * entries_of c j + e) 0) (starts_at j (omega arith))
      ∙ entry_at (frames c m) (net j h) (there j h) (row j h) (entries_of c j) (row_wide j h) (ts j h) (rows_are j h) is k e l u

  pub rows_in_lem : (j : ℕ) → j < length c.gates → rows_in c a j ≡ (frames_at c m (c.inputs + j)).rows
  unfolding rows_in
  rows_in_lem j h =
      rw (count_is j h)
      (from_ext (length (ts j h)) 0 _ _ (λ k z l.
      from_ext (entries_of c j) 0 _ _ (λ e y u. entry_in_lem j h k e (omega arith) (omega arith))
      ∙ sym (rw (row_wide j h (get_or (ts j h) k 0)) at (entries_all (row j h (get_or (ts j h) k 0)))))
      ∙ sym (map_at (row j h) (ts j h)) ∙ sym (rows_are j h))
