-- The frames of the inputs and the first gates: a gate more, how many nets, how much room they take.
-- Assumes nothing.
use Prim.Native.Nat.{ℕ, zero, suc, ◌+◌, ◌*◌, ◌≤◌, ◌<◌}
use mathlib.Core.Path.{◌≡◌, refl, sym, ap, ap₂, ◌∙◌}
use mathlib.Core.List.{List, [], ◌∷◌, ◌++◌, map, flat_map, flatten}
use native.Mathlib.Omega.{arith}
use native.Mathlib.Nat.{mul-le-mul_left}
use lib.ListN.{length, get_or, length-append, length-map, take}
use lib.Seq.{take-suc, take-length, length-take-le}
use Rattle.lists.specs.Tables.{tabulate_from}
use Rattle.lists.proofs.Tabled.{tabulate_snoc}
use Rattle.lists.proofs.Flat.{flat_map_lem}
use Rattle.method.specs.Kinds.{most_fanins}
use Rattle.method.specs.Circuit.{Gate, Circuit, no_gate, gate_at}
use Rattle.method.specs.Stimulus.{Moments}
use Rattle.method.specs.Nets.{nets}
use Rattle.method.specs.Times.{gate_times}
use Rattle.method.specs.Indices.{inertial_indices}
use Rattle.method.specs.Frames.{Frames, input_frames, fanin_row, frames_with, gate_frames, no_frames, frames}
use Rattle.method.proofs.Nets.{nets_count, nets_snoc}
use Rattle.method.proofs.Planned.{inertial_length, rows_length}
use Rattle.method.specs.Layout.{all_times, all_inertial, all_fanins}
use Rattle.method.specs.First.{first_gates, inputs_only}
use Rattle.method.proofs.Laying.{inertial_snoc, total_more, fanins_more, inputs_frames}
use Rattle.method.specs.Packed.{changes_before}
use Rattle.method.proofs.Netwise.{net_by_net, input_own}

-- ---- a gate more

-- the times of the fan-ins of gate j, and the frames of its net
abbrev pub fanin_times : Circuit → Moments → ℕ → List (List ℕ)
fanin_times c m j = map (λ (f : Frames). f.times) (map (λ (n : ℕ). get_or (frames (first_gates j c) m) n no_frames) (gate_at c j).fanins)

abbrev pub next_frames : Circuit → Moments → ℕ → Frames
next_frames c m j = gate_frames (gate_at c j) (map (λ (n : ℕ). get_or (frames (first_gates j c) m) n no_frames) (gate_at c j).fanins)

module _ (c : Circuit) (m : Moments) where
  pub frames_none : frames (first_gates 0 c) m ≡ inputs_only m c.inputs
  unfolding frames
  frames_none = refl

  pub frames_next : (j : ℕ) → j < length c.gates → frames (first_gates (suc j) c) m ≡ frames (first_gates j c) m ++ (next_frames c m j ∷ [])
  unfolding frames
  frames_next j h =
      ap (λ (gs : List Gate). nets no_frames gate_frames (λ (i : ℕ). input_frames (m i)) (record { inputs = c.inputs; gates = gs })) (take-suc c.gates j no_gate h)
      ∙ nets_snoc no_frames gate_frames (λ (i : ℕ). input_frames (m i)) (first_gates j c) (gate_at c j)

  pub frames_all : (j : ℕ) → j ≡ length c.gates → frames (first_gates j c) m ≡ frames c m
  frames_all j e = ap (λ (gs : List Gate). frames (record { inputs = c.inputs; gates = gs }) m) (rw e (take-length c.gates))

  pub frames_count : (j : ℕ) → j ≤ length c.gates → length (frames (first_gates j c) m) ≡ c.inputs + j
  unfolding frames
  frames_count j h = nets_count no_frames gate_frames (λ (i : ℕ). input_frames (m i)) (first_gates j c) ∙ rw (length-take-le j c.gates h)

  pub next_times : (j : ℕ) → (next_frames c m j).times ≡ gate_times (gate_at c j).delay (fanin_times c m j)
  unfolding gate_frames frames_with
  next_times j = refl

  pub next_inertial : (j : ℕ) → (next_frames c m j).inertial ≡ inertial_indices (gate_at c j).inertial (next_frames c m j).times
  unfolding gate_frames frames_with
  next_inertial j = refl

  pub next_rows : (j : ℕ) → flatten (next_frames c m j).rows ≡ flat_map (fanin_row (gate_at c j).delay (fanin_times c m j)) (next_frames c m j).times
  unfolding gate_frames frames_with
  next_rows j = flat_map_lem (fanin_row (gate_at c j).delay (fanin_times c m j)) (gate_times (gate_at c j).delay (fanin_times c m j))

-- ---- how much room

pub record Sized (fs : List Frames) : Type 0 where
  pub even : length (all_inertial fs) ≡ length (all_times fs)
  pub wide : length (all_fanins fs) ≤ most_fanins * length (all_times fs)

module _ (m : Moments) where
  no_inputs_rows : (n j : ℕ) → length (all_fanins (tabulate_from n j (λ (i : ℕ). input_frames (m i)))) ≡ 0
  unfolding flat_map flatten tabulate_from
  no_inputs_rows zero j = refl
  no_inputs_rows (suc n) j = no_inputs_rows n (suc j)

  even_inputs : (n j : ℕ) → length (all_inertial (tabulate_from n j (λ (i : ℕ). input_frames (m i)))) ≡ length (all_times (tabulate_from n j (λ (i : ℕ). input_frames (m i))))
  unfolding flat_map tabulate_from
  even_inputs zero j = refl
  even_inputs (suc n) j =
      let rest : List Frames = tabulate_from n (suc j) (λ (i : ℕ). input_frames (m i)) in
      omega (arith, length-append (input_frames (m j)).inertial (all_inertial rest), length-append (input_frames (m j)).times (all_times rest), inertial_length 0 (0 ∷ m j), even_inputs n (suc j))

  sized_inputs : (n j : ℕ) → Sized (tabulate_from n j (λ (i : ℕ). input_frames (m i)))
  sized_inputs n j = record { even = even_inputs n j; wide = rw (no_inputs_rows n j) (omega arith) }

module _ (c : Circuit) (m : Moments) (j : ℕ) where
  pub next_even : length (next_frames c m j).inertial ≡ length (next_frames c m j).times
  next_even = rw (next_inertial c m j) (inertial_length (gate_at c j).inertial (next_frames c m j).times)

  fanins_count : length (fanin_times c m j) ≡ length (gate_at c j).fanins
  fanins_count =
      length-map (map (λ (n : ℕ). get_or (frames (first_gates j c) m) n no_frames) (gate_at c j).fanins) (λ (f : Frames). f.times)
      ∙ length-map (gate_at c j).fanins (λ (n : ℕ). get_or (frames (first_gates j c) m) n no_frames)

  -- a row a frame, an entry a fan-in
  pub next_count : length (flatten (next_frames c m j).rows) ≡ length (next_frames c m j).times * length (gate_at c j).fanins
  next_count =
      ap length (next_rows c m j) ∙ rows_length (gate_at c j).delay (fanin_times c m j) (next_frames c m j).times
      ∙ ap (λ (n : ℕ). length (next_frames c m j).times * n) fanins_count

  sized_next : length (gate_at c j).fanins ≤ most_fanins → {fs : List Frames} → Sized fs → Sized (fs ++ (next_frames c m j ∷ []))
  sized_next narrow {fs} s =
      let x = next_frames c m j in
      let total = total_more fs x in
      let wide : length x.times * length (gate_at c j).fanins ≤ length x.times * most_fanins = mul-le-mul_left (length x.times) narrow in
      record {
        even = rw (inertial_snoc fs x, length-append (all_inertial fs) x.inertial) (omega (arith, s.even, next_even));
        wide = omega (arith, s.wide, fanins_more fs x, next_count);
      }

pub sized : (c : Circuit) (m : Moments) → ((j : ℕ) → j < length c.gates → length (gate_at c j).fanins ≤ most_fanins)
    → (j : ℕ) → j ≤ length c.gates → Sized (frames (first_gates j c) m)
sized c m narrow zero h = rw (frames_none c m) (sized_inputs m c.inputs 0)
sized c m narrow (suc j) h = rw (frames_next c m j (omega arith)) (sized_next c m j (narrow j (omega arith)) (sized c m narrow j (omega arith)))

-- ---- the inputs among all nets

-- the first n nets of all are the inputs, where there are as many
inputs_first : (c : Circuit) (m : Moments) (n : ℕ) → n ≤ c.inputs → take n (frames c m) ≡ inputs_only m n
unfolding tabulate_from
inputs_first c m zero h = refl
inputs_first c m (suc n) h =
    let some : n < length (frames c m) = omega (arith, (net_by_net c).0.frames_count m) in
    take-suc (frames c m) n no_frames some
    ∙ ap₂ (λ (fs : List Frames) (f : Frames). fs ++ (f ∷ [])) (inputs_first c m n (omega arith)) (input_own c m n (omega arith))
    ∙ sym (tabulate_snoc n (λ (i : ℕ). input_frames (m i)))

-- an input has a frame, and one for each change
pub input_frames_lem : (c : Circuit) (m : Moments) (n : ℕ) → n ≤ c.inputs → length (all_times (take n (frames c m))) ≡ n + changes_before m n
input_frames_lem c m n h = rw (inputs_first c m n h) (inputs_frames m n)

-- inputs have no fan-in rows
pub no_rows : (c : Circuit) (m : Moments) (n : ℕ) → n ≤ c.inputs → length (all_fanins (take n (frames c m))) ≡ 0
no_rows c m n h = rw (inputs_first c m n h) (no_inputs_rows m n 0)
