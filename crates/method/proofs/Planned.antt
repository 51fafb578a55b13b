-- The frames of a circuit's nets: those of every trace, whatever the pattern; they start at 0 and rise; how many indices
-- they have, and how late they get.
-- Assumes nothing.
use Prim.Native.Nat.{ℕ, zero, suc, ◌+◌, ◌-◌, ◌*◌, ◌≤◌, zero-le}
use mathlib.Core.Path.{◌≡◌, refl, sym, ap, ap₂, ◌∙◌}
use mathlib.Core.Logic.{inl, inr}
use mathlib.Core.Bool.{true, false≢true}
use mathlib.Core.List.{List, [], ◌∷◌, ◌++◌, map, flat_map, Forall₂}
use native.Mathlib.Omega.{arith}
use native.Mathlib.Nat.{mul-suc, suc-mul, zero-mul, mul-le-mul_left}
use lib.Dec.{eqb}
use lib.ListN.{length, get_or, length-append, length-map, get_or-eq_default}
use borrow.Author.Tests.{eqb-true, eq-eqb}
use Rattle.lists.specs.Tables.{tabulate}
use Rattle.lists.proofs.Choices.{either, order, or_cases}
use Rattle.lists.proofs.Tabled.{from_length, tabulate_at}
use Rattle.lists.proofs.ByNumber.{grow_each}
use Rattle.method.specs.Circuit.{Gate, Circuit, no_gate, DelaysUpTo}
use Rattle.method.specs.Stimulus.{Stimuli, Moments, moments_of, Ordered}
use Rattle.method.specs.Times.{shifted, rising, gate_times, among}
use Rattle.method.specs.Indices.{fanin_index, inertial_indices}
use Rattle.method.specs.Frames.{Frames, input_frames, fanin_row, frames_with, gate_frames, no_frames, frames, frames_at}
use Rattle.method.specs.Traces.{Trace, input_trace, gate_trace, no_trace, traces, trace_at}
use Rattle.method.proofs.Nets.{nets_rel, nets_each}
use Rattle.method.proofs.Rising.{Starts, test_rise, rising_among, among_append, gate_times_start}

-- ---- the frames of a trace are the circuit's

abbrev HasFrames : Frames → Trace → Type 0
HasFrames f n = f ≡ n.frames

all_frames : {fs : List Frames} {ns : List Trace} → Forall₂ HasFrames fs ns → fs ≡ map (λ (n : Trace). n.frames) ns
all_frames Forall₂.nil = refl
all_frames (Forall₂.cons r rs) = ap₂ ◌∷◌ r (all_frames rs)

gate_frames_lem : (g : Gate) (fs : List Frames) (ns : List Trace) → Forall₂ HasFrames fs ns → HasFrames (gate_frames g fs) (gate_trace g ns)
unfolding gate_trace
gate_frames_lem g fs ns r = ap (gate_frames g) (all_frames r)

pub frames_are : (c : Circuit) (s : Stimuli) (n : ℕ) → frames_at c (moments_of s) n ≡ (trace_at c s n).frames
unfolding frames traces
frames_are c s n =
    nets_rel HasFrames {b = no_trace} refl {g = gate_trace} gate_frames_lem {j = λ (i : ℕ). input_trace (s i)} (λ i. refl) c n

-- ---- they start at 0 and rise

gate_start : (g : Gate) (fs : List Frames) → Starts (gate_frames g fs).times
unfolding gate_frames frames_with
gate_start g fs = gate_times_start g.delay (map (λ (f : Frames). f.times) fs)

pub times_start : (c : Circuit) (m : Moments) → Ordered m → (n : ℕ) → Starts (frames_at c m n).times
unfolding frames
times_start c m o =
    nets_each (λ (f : Frames). Starts f.times) no_frames gate_frames (λ (i : ℕ). input_frames (m i)) (refl, tt) gate_start
    (λ i. (refl, test_rise 0 (m i) (o i))) c

-- ---- how many indices there are

pub inertial_length : (di : ℕ) (ts : List ℕ) → length (inertial_indices di ts) ≡ length ts
inertial_length di [] = refl
inertial_length di (t ∷ ts) = ap suc (inertial_length di ts)

pub rows_length : (d : ℕ) (ss : List (List ℕ)) (ts : List ℕ) → length (flat_map (fanin_row d ss) ts) ≡ length ts * length ss
unfolding flat_map
rows_length d ss [] = sym (zero-mul (length ss))
rows_length d ss (t ∷ ts) =
    let a : length (fanin_row d ss t) ≡ length ss = length-map ss (λ (s : List ℕ). fanin_index d s t) in
    let b = rows_length d ss ts in
    let e : suc (length ts) * length ss ≡ length ts * length ss + length ss = suc-mul (length ts) (length ss) in
    omega (arith, length-append (fanin_row d ss t) (flat_map (fanin_row d ss) ts))

-- ---- how late they get

-- no time of the list is after `end`
abbrev pub Ends : ℕ → List ℕ → Type 0
Ends end ts = (t : ℕ) → among t ts ≡ true → t ≤ end

ends_cons : (end x : ℕ) (ts : List ℕ) → x ≤ end → Ends end ts → Ends end (x ∷ ts)
ends_cons end x ts h k t e =
    elim (or_cases (eqb t x) (among t ts) e) [
      | inl q ↦ let p : t ≡ x = eqb-true t x q in omega arith
      | inr q ↦ k t q
    ]

ends_append : (end : ℕ) (ss ts : List ℕ) → Ends end ss → Ends end ts → Ends end (ss ++ ts)
ends_append end ss ts h k t e = elim (or_cases (among t ss) (among t ts) (sym (among_append t ss ts) ∙ e)) [ inl q ↦ h t q | inr q ↦ k t q ]

ends_nil : (end : ℕ) → Ends end []
ends_nil end t e = absurd (false≢true e)

pub ends_head : (end x : ℕ) (ts : List ℕ) → Ends end (x ∷ ts) → x ≤ end
ends_head end x ts k = k x (rw (eq-eqb x x refl))

pub ends_tail : (end x : ℕ) (ts : List ℕ) → Ends end (x ∷ ts) → Ends end ts
ends_tail end x ts k t e = k t (elim (either (eqb t x)) [ inl q ↦ rw q | inr q ↦ rw q e ])

pub ends_at : (end : ℕ) (ts : List ℕ) → Ends end ts → (k : ℕ) → get_or ts k 0 ≤ end
ends_at end [] h k = omega arith
ends_at end (t ∷ ts) h zero = ends_head end t ts h
ends_at end (t ∷ ts) h (suc k) = ends_at end ts (ends_tail end t ts h) k

shifted_ends : (d end : ℕ) (ss : List ℕ) → Ends end ss → Ends (end + d) (shifted d ss)
shifted_ends d end [] k = ends_nil (end + d)
shifted_ends d end (zero ∷ ss) k = shifted_ends d end ss (ends_tail end zero ss k)
shifted_ends d end (suc s ∷ ss) k =
    ends_cons (end + d) (suc s + d) (shifted d ss) (omega (arith, ends_head end (suc s) ss k)) (shifted_ends d end ss (ends_tail end (suc s) ss k))

all_shifted_ends : (d end : ℕ) (nets : List Frames) (fanins : List ℕ) → ((m : ℕ) → Ends end (get_or nets m no_frames).times)
    → Ends (end + d) (flat_map (shifted d) (map (λ (f : Frames). f.times) (map (λ (m : ℕ). get_or nets m no_frames) fanins)))
unfolding flat_map
all_shifted_ends d end nets [] k = ends_nil (end + d)
all_shifted_ends d end nets (m ∷ ms) k =
    ends_append (end + d) (shifted d (get_or nets m no_frames).times) _ (shifted_ends d end (get_or nets m no_frames).times (k m)) (all_shifted_ends d end nets ms k)

gate_ends : (g : Gate) (end : ℕ) (nets : List Frames) → ((m : ℕ) → Ends end (get_or nets m no_frames).times)
    → Ends (end + g.delay) (gate_frames g (map (λ (m : ℕ). get_or nets m no_frames) g.fanins)).times
unfolding gate_frames frames_with gate_times
gate_ends g end nets k =
    let later : List ℕ = flat_map (shifted g.delay) (map (λ (f : Frames). f.times) (map (λ (m : ℕ). get_or nets m no_frames) g.fanins)) in
    ends_cons (end + g.delay) 0 (rising later) zero-le
    (λ t e. all_shifted_ends g.delay end nets g.fanins k t (sym (rising_among t later) ∙ e))

module _ (last most : ℕ) (c : Circuit) (moments : Moments) where
  -- the latest that net n gets
  abbrev latest : ℕ → ℕ
  latest n = last + most * (n + 1 - c.inputs)

  -- one gate more
  latest_next : (n : ℕ) → c.inputs ≤ n → last + most * (n - c.inputs) + most ≡ latest n
  latest_next n h = rw (let q : n + 1 - c.inputs ≡ suc (n - c.inputs) = omega arith in q, mul-suc most (n - c.inputs)) (omega arith)

  abbrev InTime : ℕ → Frames → Type 0
  InTime n f = Ends (latest n) f.times

  missing : (n : ℕ) → InTime n no_frames
  missing n = ends_cons (latest n) 0 [] zero-le (ends_nil (latest n))

  -- the entries before the gate's own end in time for it
  earlier : (nets : List Frames) → c.inputs ≤ length nets → ((n : ℕ) → InTime n (get_or nets n no_frames))
      → (m : ℕ) → Ends (last + most * (length nets - c.inputs)) (get_or nets m no_frames).times
  earlier nets h old m =
      elim (order (length nets) m) [
        | inl k ↦ rw (get_or-eq_default nets no_frames {n = m} k) (ends_cons _ 0 [] zero-le (ends_nil _))
        | inr k ↦ λ t e. let l : most * (m + 1 - c.inputs) ≤ most * (length nets - c.inputs) = mul-le-mul_left most (omega arith) in
            let b : t ≤ latest m = old m t e in
            omega arith
      ]

  made : (nets : List Frames) (g : Gate) → c.inputs ≤ length nets → g.delay ≤ most → ((n : ℕ) → InTime n (get_or nets n no_frames))
      → InTime (length nets) (gate_frames g (map (λ (n : ℕ). get_or nets n no_frames) g.fanins))
  made nets g h small old t e =
      let b : t ≤ last + most * (length nets - c.inputs) + g.delay = gate_ends g (last + most * (length nets - c.inputs)) nets (earlier nets h old) t e in
      let q : last + most * (length nets - c.inputs) + most ≡ latest (length nets) = latest_next (length nets) h in
      omega arith

  module _ (ends : (i : ℕ) → Ends last (moments i)) where
    abbrev inputs : List Frames
    inputs = tabulate c.inputs (λ (i : ℕ). input_frames (moments i))

    inputs_count : length inputs ≡ c.inputs
    inputs_count = from_length c.inputs 0 (λ (i : ℕ). input_frames (moments i))

    inputs_in_time : (n : ℕ) → InTime n (get_or inputs n no_frames)
    inputs_in_time n =
        elim (order c.inputs n) [
          | inl k ↦ rw (get_or-eq_default inputs no_frames {n = n} (rw inputs_count k)) (missing n)
          | inr k ↦ rw (tabulate_at c.inputs (λ (i : ℕ). input_frames (moments i)) no_frames n k) (ends_cons (latest n) 0 (moments n) zero-le (λ t e. omega (arith, ends n t e)))
        ]

    pub times_end : DelaysUpTo most c → (n : ℕ) → Ends (last + most * (n + 1 - c.inputs)) (frames_at c moments n).times
    unfolding frames
    times_end small =
        grow_each (λ (g : Gate). g.fanins) gate_frames InTime (λ (g : Gate). g.delay ≤ most) c.inputs no_frames missing made no_gate
        inputs c.gates (rw inputs_count (omega arith)) small inputs_in_time
