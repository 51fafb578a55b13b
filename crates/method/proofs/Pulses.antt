-- The pulse law. Where the filtered wave changes the raw one is settled, so the filtered one keeps that level for di. The frames
-- that a kept change counts have its value before and after the filter, so it is kept again. And the filtered values change only
-- to a raw value that they did not have, so the raw ones have changed since.
-- Assumes nothing.
use Prim.Native.Nat.{ℕ, zero, suc, ◌+◌, ◌≤◌, ◌<◌, zero-le}
use mathlib.Core.Path.{◌≡◌, refl, sym, ap, subst, ◌∙◌}
use mathlib.Core.Logic.{inl, inr, ◌≢◌}
use mathlib.Core.Bool.{Bool, true, false, cond, beq}
use mathlib.Core.List.{List, [], ◌∷◌, map}
use native.Mathlib.Omega.{arith}
use lib.ListN.{take, drop, length, get_or}
use Rattle.lists.specs.Tables.{all_same}
use Rattle.lists.proofs.Choices.{order, either, and_left, and_right, beq_true, beq_refl}
use Rattle.method.specs.Circuit.{Circuit, gate_at, NoFeedback}
use Rattle.method.specs.Stimulus.{Stimuli, Moments, moments_of, Ordered}
use Rattle.method.specs.Frames.{Frames, frames_at}
use Rattle.method.specs.Filter.{keep, filter_from, filtered}
use Rattle.method.specs.Traces.{Trace, raw_values, trace_at}
use Rattle.method.specs.Look.{changes_after, changes}
use Rattle.method.specs.Machine.{Wave, settled, out_wave, machine}
use Rattle.method.specs.WordLists.{WordLists}
use Rattle.method.specs.Packed.{lane_of}
use Rattle.method.specs.Netwise.{machine_raw}
use Rattle.method.specs.Pulses.{KeptAt, Pulses}
use Rattle.method.proofs.Rising.{Rise, Starts, time_later}
use Rattle.method.proofs.Waves.{Steady, gap, steady_tail}
use Rattle.method.proofs.Filtering.{cond_same, keep_is, settled_all}
use Rattle.method.proofs.Following.{Follows, follows}
use Rattle.method.proofs.Planned.{frames_are}
use Rattle.method.proofs.Netwise.{values_by, wave_of_lem}
use Rattle.method.proofs.Lanes.{own_moments, lane_ordered}

-- ---- two changes of the filtered wave

module _ (di : ℕ) (raw : Wave) where
  -- where it changes, the raw wave is settled
  change_settled : (a : ℕ) → out_wave di raw (suc a) ≢ out_wave di raw a → settled di raw (suc a) ≡ true
  change_settled a n = elim (either (settled di raw (suc a))) [ inl e ↦ e | inr e ↦ absurd (n (rw e)) ]

  -- and it keeps that level for di
  holds : (a : ℕ) → settled di raw (suc a) ≡ true → (u : ℕ) → suc a ≤ u → u ≤ suc a + di → out_wave di raw u ≡ raw (suc a)
  holds a e zero h k = absurd (omega arith)
  holds a e (suc u) h k =
      elim (order (suc a) u) [
        | inl l ↦ rw (settled_all raw di (suc a) e (suc u) h k, holds a e u l (omega arith)) (cond_same (settled di raw (suc u)) (raw (suc a)))
        | inr l ↦ rw (let q : u ≡ a = omega arith in q) (rw e)
      ]

  changes_apart : (a b : ℕ) → a < b → out_wave di raw (suc a) ≢ out_wave di raw a → out_wave di raw (suc b) ≢ out_wave di raw b → suc a + di < suc b
  changes_apart a b h p q =
      elim (order (suc b) (suc a + di)) [
        | inl k ↦ let e = change_settled a p in absurd (q (holds a e (suc b) (omega arith) k ∙ sym (holds a e b h (omega arith))))
        | inr k ↦ k
      ]

-- a kept change is one of the wave, at its frame's time
module _ (w : Wave) where
  change_from : (p : ℕ) (ts : List ℕ) → Rise p ts → Steady p ts w → (k : ℕ) → k < length ts → KeptAt (map w (p ∷ ts)) k
      → (a : ℕ) × (suc a ≡ get_or ts k 0) × (w (suc a) ≢ w a)
  change_from p [] r st k h n = absurd (omega arith)
  change_from p (zero ∷ ts) r st k h n = absurd (omega arith)
  change_from p (suc a ∷ ts) r st zero h n = (a, refl, λ e. n (e ∙ gap w p a (suc a ∷ ts) st (omega arith, r.1) (omega arith)))
  change_from p (suc s ∷ ts) r st (suc k) h n = change_from (suc s) ts r.1 (steady_tail w p (suc s) ts (omega arith) st) k (omega arith) n

  kept_change : (ts : List ℕ) → Starts ts → Steady 0 ts w → (k : ℕ) → suc k < length ts → KeptAt (map w ts) k
      → (a : ℕ) × (suc a ≡ get_or ts (suc k) 0) × (w (suc a) ≢ w a)
  kept_change [] r st k h n = absurd r
  kept_change (p ∷ ts) r st k h n = change_from p ts r.1 (steady_tail w 0 p ts zero-le st) k (omega arith) n

kept_apart : (di : ℕ) (raw : Wave) (ts : List ℕ) → Starts ts → Steady 0 ts (out_wave di raw) → (k l : ℕ) → k < l → suc l < length ts
    → KeptAt (map (out_wave di raw) ts) k → KeptAt (map (out_wave di raw) ts) l → get_or ts (suc k) 0 + di < get_or ts (suc l) 0
kept_apart di raw ts r st k l h b m n =
    let (x, p, c) = kept_change (out_wave di raw) ts r st k (omega arith) m in
    let (y, q, d) = kept_change (out_wave di raw) ts r st l b n in
    omega (arith, p, q, changes_apart di raw x y (omega (arith, p, q, time_later ts r (suc k) (suc l) (omega arith) b)) c d)

-- ---- the filter, twice

keep_same : (v : Bool) (fs : List Bool) → keep v v fs ≡ v
keep_same v fs = rw (beq_refl v)

-- the following frames that have the value v before the filter have it afterwards
same_after : (v : Bool) (i : ℕ) (ks : List ℕ) (rs : List Bool) → all_same v (take i rs) ≡ true → all_same v (take i (filter_from v ks rs)) ≡ true
same_after v zero ks rs e = refl
same_after v (suc i) [] rs e = refl
same_after v (suc i) (k ∷ ks) [] e = refl
same_after v (suc i) (k ∷ ks) (r ∷ rs) e =
    let rest : Bool = all_same v (take i rs) in
    rw (beq_true r v (and_left (beq r v) rest e), keep_same v (take k rs), beq_refl v) (same_after v i ks rs (and_right (beq r v) rest e))

-- so what the filter makes of a frame it makes of it again
keep_again : (v r : Bool) (k : ℕ) (ks : List ℕ) (rs : List Bool)
    → keep v (keep v r (take k rs)) (take k (filter_from (keep v r (take k rs)) ks rs)) ≡ keep v r (take k rs)
keep_again v r k ks rs =
    rw (keep_is v r (take k rs)) (elim (either (all_same r (take k rs))) [
      | inl e ↦ rw (e, keep_is v r (take k (filter_from r ks rs)), same_after r k ks rs e)
      | inr e ↦ rw e (keep_same v (take k (filter_from v ks rs)))
    ])

from_again : (v : Bool) (ks : List ℕ) (rs : List Bool) → filter_from v ks (filter_from v ks rs) ≡ filter_from v ks rs
from_again v [] rs = refl
from_again v (k ∷ ks) [] = refl
from_again v (k ∷ ks) (r ∷ rs) =
    let x : Bool = keep v r (take k rs) in
    rw (keep_again v r k ks rs) (ap (λ (l : List Bool). x ∷ l) (from_again x ks rs))

pub filtered_again : (ks : List ℕ) (rs : List Bool) → filtered ks (filtered ks rs) ≡ filtered ks rs
filtered_again ks [] = refl
filtered_again ks (r ∷ rs) = ap (λ (l : List Bool). r ∷ l) (from_again r (drop 1 ks) rs)

-- ---- how many changes

-- 1 if the two differ
abbrev differ : Bool → Bool → ℕ
differ v r = cond (beq v r) 0 1

differ_self : (v : Bool) → differ v v ≡ 0
differ_self v = rw (beq_refl v)

differ_most : (u v w : Bool) → differ u w ≤ differ u v + differ w v
differ_most true true true = omega arith
differ_most true true false = omega arith
differ_most true false true = omega arith
differ_most true false false = omega arith
differ_most false true true = omega arith
differ_most false true false = omega arith
differ_most false false true = omega arith
differ_most false false false = omega arith

-- how a frame counts
one_more : (same : Bool) (n : ℕ) → cond same n (suc n) ≡ n + cond same 0 1
one_more true n = omega arith
one_more false n = omega arith

-- v is the filtered value before, r the raw one; a and b are the changes from here on, with s as the value before: what is kept
-- here, or dropped
kept_here : (v r s : Bool) (a b : ℕ) → a ≤ b + differ s s → cond (beq s v) a (suc a) ≤ cond (beq s r) b (suc b) + differ v r
kept_here v r s a b h = omega (arith, h, one_more (beq s v) a, one_more (beq s r) b, differ_self s, differ_most s r v)

dropped_here : (v r s : Bool) (a b : ℕ) → a ≤ b + differ v s → cond (beq v v) a (suc a) ≤ cond (beq s r) b (suc b) + differ v r
dropped_here v r s a b h = omega (arith, h, one_more (beq v v) a, one_more (beq s r) b, differ_self v, differ_most v r s)

fewer_from : (v r : Bool) (ks : List ℕ) (rs : List Bool) → changes_after v (filter_from v ks rs) ≤ changes_after r rs + differ v r
fewer_from v r [] rs = zero-le
fewer_from v r (k ∷ ks) [] = zero-le
fewer_from v r (k ∷ ks) (s ∷ rs) =
    rw (keep_is v s (take k rs)) (elim (either (all_same s (take k rs))) [
      | inl e ↦ rw e (kept_here v r s (changes_after s (filter_from s ks rs)) (changes_after s rs) (fewer_from s s ks rs))
      | inr e ↦ rw e (dropped_here v r s (changes_after v (filter_from v ks rs)) (changes_after s rs) (fewer_from v s ks rs))
    ])

fewer_changes : (ks : List ℕ) (rs : List Bool) → changes (filtered ks rs) ≤ changes rs
fewer_changes ks [] = zero-le
fewer_changes ks (r ∷ rs) = omega (arith, differ_self r, fewer_from r r (drop 1 ks) rs)

-- ---- the law, of any trace that follows a filtered wave

module _ (n : Trace) (di : ℕ) (wave : Wave) (f : Follows n (out_wave di wave)) (raw : List Bool) (e : n.values ≡ filtered n.frames.inertial raw) where
  values_apart : (k l : ℕ) → k < l → suc l < length n.frames.times → KeptAt n.values k → KeptAt n.values l
      → get_or n.frames.times (suc k) 0 + di < get_or n.frames.times (suc l) 0
  values_apart = rw f.samples (kept_apart di wave n.frames.times f.starts f.steady)

  values_again : filtered n.frames.inertial n.values ≡ n.values
  values_again = rw e (filtered_again n.frames.inertial raw)

  values_fewer : changes n.values ≤ changes raw
  values_fewer = rw e (fewer_changes n.frames.inertial raw)

  pub pulses : Pulses di n.frames.times n.frames.inertial raw n.values
  pulses =
      record { from_raw = e; apart = λ k l h b x y. omega (arith, values_apart k l h b x y); again = values_again; fewer = omega (arith, values_fewer) }

-- ---- gate j, in one lane

module _ (c : Circuit) (ok : NoFeedback c) (j : ℕ) (h : j < length c.gates) where
  abbrev net : ℕ
  net = c.inputs + j

  -- its raw values, if its frames are these
  abbrev raw_by : Stimuli → Frames → List Bool
  raw_by s f = raw_values (gate_at c j) (λ (n : ℕ). (trace_at c s n).values) f.rows

  abbrev PulsesBy : Stimuli → Moments → Type 0
  PulsesBy s m = Pulses (gate_at c j).inertial (frames_at c m net).times (frames_at c m net).inertial (raw_by s (frames_at c m net)) (trace_at c s net).values

  gate_pulses : (s : Stimuli) → Ordered (moments_of s) → PulsesBy s (moments_of s)
  gate_pulses s o =
      let follow = rw (wave_of_lem c ok j h s) at (follows c s o net) in
      rw (frames_are c s net) (pulses (trace_at c s net) (gate_at c j).inertial (machine_raw c j s) follow (raw_by s (trace_at c s net).frames) (rw (frames_are c s net) at (values_by c ok j h s)))

  pub lane_pulses : (m : Moments) → Ordered m → (w : WordLists) (L : ℕ) → PulsesBy (lane_of L m w) m
  lane_pulses m o w L = subst (PulsesBy (lane_of L m w)) (own_moments L m w) (gate_pulses (lane_of L m w) (lane_ordered c m w L net o))

  -- the same of the machine's level
  pub machine_apart : (s : Stimuli) (t u : ℕ) → t < u → machine c s net (suc t) ≢ machine c s net t → machine c s net (suc u) ≢ machine c s net u
      → suc t + (gate_at c j).inertial < suc u
  machine_apart s t u = rw (wave_of_lem c ok j h s) (changes_apart (gate_at c j).inertial (machine_raw c j s) t u)
