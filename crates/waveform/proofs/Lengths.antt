-- How long a text can be: a number has at most seven digits, a frame at most ten bytes, a line at most eight more.
-- `answer_fits` in Answering puts in the limits of an accepted circuit.
-- Assumes nothing.
use Prim.Native.Nat.{ℕ, zero, suc, ◌+◌, ◌*◌, ◌/◌, ◌%◌, ◌^◌, ◌≤◌}
use mathlib.Core.Path.{◌≡◌, sym, ap, ◌∙◌}
use mathlib.Core.Bool.{Bool, true, false, cond}
use mathlib.Core.List.{List, [], ◌∷◌, ◌++◌, flatten, flat_map, zip_with}
use native.Mathlib.Omega.{arith}
use lib.ListN.{length, take, length-append}
use lib.Seq.{take-length}
use lib.Dec.{leb}
use Rattle.lists.specs.Tables.{tabulate, tabulate_from}
use Rattle.lists.proofs.Flat.{flat_next}
use Rattle.method.specs.Circuit.{Circuit}
use Rattle.method.specs.Layout.{all_times}
use Rattle.method.specs.Values.{net_count}
use Rattle.method.specs.WordLists.{WordLists}
use Rattle.method.specs.Once.{frames_once, times_once, lane_once}
use Rattle.method.proofs.Laying.{times_next}
use Rattle.method.proofs.Parts.{nets_count}
use Rattle.method.proofs.Once.{old_rules, always, always_once}
use Rattle.text.specs.Text.{glyph, digit_at, digits_from, decimal, newline, equals, refusal, frame_text}
use Rattle.waveform.specs.Lines.{line, net_line, lines}

digit_length : (power n : ℕ) → length (digit_at power n) ≤ 1
unfolding digit_at
digit_length power n = go (leb power n) (glyph (n / power % 10))
  where
    go : (b : Bool) (x : ℕ) → length (cond b (x ∷ []) []) ≤ 1
    go true x = omega arith
    go false x = omega arith

digits_length : (k n : ℕ) → length (digits_from k n) ≤ suc k
digits_length zero n = omega arith
digits_length (suc k) n =
    omega (arith, length-append (digit_at (10 ^ suc k) n) (digits_from k n), digit_length (10 ^ suc k) n, digits_length k n)

decimal_length : (n : ℕ) → length (decimal n) ≤ 7
unfolding decimal
decimal_length n = digits_length 6 n

pub refusal_length : (n : ℕ) → length (refusal n) ≤ 16
unfolding refusal
refusal_length n = omega (arith, length-append (decimal n) (newline ∷ []), decimal_length n)

frame_length : (time : ℕ) (level : Bool) → length (frame_text time level) ≤ 10
unfolding frame_text
frame_length time level = omega (arith, length-append (decimal time) (equals ∷ glyph (cond level 1 0) ∷ []), decimal_length time)

frames_length : (times : List ℕ) (levels : List Bool) → length (flatten (zip_with frame_text times levels)) ≤ 10 * length times
unfolding flatten zip_with
frames_length [] levels = omega arith
frames_length (t ∷ times) [] = omega arith
frames_length (t ∷ times) (l ∷ levels) = omega (arith, length-append (frame_text t l) (flatten (zip_with frame_text times levels)), frame_length t l, frames_length times levels)

line_length : (net : ℕ) (times : List ℕ) (levels : List Bool) → length (line net times levels) ≤ 8 + 10 * length times
unfolding line
line_length net times levels =
    let row = flatten (zip_with frame_text times levels) in
    omega (arith, length-append (decimal net) (row ++ newline ∷ []), length-append row (newline ∷ []), decimal_length net, frames_length times levels)

module _ (c : Circuit) (w : WordLists) where
  none : length (flatten (tabulate 0 (net_line c w))) ≤ 8 * 0 + 10 * length (all_times (take 0 (frames_once c)))
  unfolding tabulate_from flatten flat_map
  none = omega arith

  some_length : (n : ℕ) → n ≤ length (frames_once c) → length (flatten (tabulate n (net_line c w))) ≤ 8 * n + 10 * length (all_times (take n (frames_once c)))
  some_length zero h = none
  some_length (suc n) h =
      let f = net_line c w in
      omega (
        arith,
        ap length (flat_next f n) ∙ length-append (flatten (tabulate n f)) (f n),
        ap length (times_next (frames_once c) n h) ∙ length-append (all_times (take n (frames_once c))) (times_once c n),
        line_length n (times_once c n) (lane_once c w 0 n),
        some_length n (omega arith),
      )

  -- there are as many nets
  all_nets : length (frames_once c) ≡ net_count c
  all_nets = ap length (sym (old_rules c always (always_once c.inputs)).same_frames) ∙ nets_count c always

  pub lines_length : length (lines c w) ≤ 8 * net_count c + 10 * length (all_times (frames_once c))
  unfolding lines
  lines_length =
      let all : take (net_count c) (frames_once c) ≡ frames_once c = rw (← all_nets) (take-length (frames_once c)) in
      rw all at (some_length (net_count c) (omega (arith, all_nets)))
