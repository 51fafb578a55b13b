-- One change at 1 gives the old rules: each input has the old frames, values and wave, and the nets are made from them.
-- Assumes nothing.
use Prim.Native.Nat.{ℕ, zero, suc, ◌≤◌, ◌<◌}
use mathlib.Core.Path.{◌≡◌, refl, sym, ap, ap₂, ◌∙◌, fun_ext}
use mathlib.Core.Bool.{Bool, true, false}
use mathlib.Core.List.{List, [], ◌∷◌, map, flatten}
use native.Mathlib.Omega.{arith}
use lib.ListN.{length, get_or, take, drop, replicate, length-replicate, get_or-replicate}
use lib.Dec.{leb}
use borrow.Author.Tests.{le-leb, eq-eqb}
use Rattle.lists.specs.Ladder.{between}
use Rattle.lists.specs.Tables.{tabulate, every}
use Rattle.lists.proofs.Choices.{and_both}
use Rattle.lists.proofs.Tabled.{from_every}
use Rattle.method.specs.Circuit.{Circuit}
use Rattle.method.specs.Stimulus.{Moments, Ordered}
use Rattle.method.specs.Times.{rise_above}
use Rattle.method.specs.Changes.{start_of, moments_from, most_changes, last_change, changes_suit}
use Rattle.method.specs.Frames.{Frames, input_frames, gate_frames, no_frames, frames, frames_at}
use Rattle.method.specs.Traces.{Trace, input_trace, gate_trace, no_trace, traces}
use Rattle.method.specs.Machine.{Wave, input_wave, gate_wave, no_wave, waves, machine}
use Rattle.method.specs.Words.{lanes, pack}
use Rattle.method.specs.WordLists.{WordLists}
use Rattle.method.specs.Packed.{changes_before, lane_of, packed_word, packed_values}
use Rattle.method.specs.Values.{net_count, all_values}
use Rattle.method.specs.Once.{PatternPair, pair_frames, pair_trace, pair_wave, frames_once, traces_once, times_once, machine_once, pair_of, lane_once, values_once, all_values_once, ones, Once, OldRules}
use Rattle.method.proofs.Nets.{nets_ext}
use Rattle.method.proofs.Following.{follows}
use Rattle.method.proofs.Planned as planned
use Rattle.method.proofs.Lanes.{own_moments, lane_ordered}

-- ---- the nets

module _ (c : Circuit) (m : Moments) (o : Once c.inputs m) where
  before_is : (i : ℕ) → i ≤ c.inputs → changes_before m i ≡ i
  before_is zero h = refl
  before_is (suc i) h = omega (arith, before_is i (omega arith), ap length (o i (omega arith)))

  frames_are : frames c m ≡ frames_once c
  unfolding frames frames_once
  frames_are = nets_ext no_frames gate_frames (λ (i : ℕ). input_frames (m i)) c (λ (i : ℕ). pair_frames) (λ i h. ap input_frames (o i h))

  module _ (w : WordLists) (L : ℕ) where
    -- the change of input i is to the bit of after word i
    drives : (i : ℕ) → i < c.inputs → lane_of L m w i ≡ record { before = (pair_of L w i).before; changes = record { time = 1; bit = (pair_of L w i).after } ∷ [] }
    drives i h = rw (o i h, before_is i (omega arith))

    traces_are : traces c (lane_of L m w) ≡ traces_once c (pair_of L w)
    unfolding traces traces_once
    traces_are =
        nets_ext no_trace gate_trace (λ (i : ℕ). input_trace (lane_of L m w i)) c (λ (i : ℕ). pair_trace (pair_of L w i)) (λ i h. ap input_trace (drives i h))

    wave_is : (p : PatternPair) (t : ℕ) → input_wave (record { before = p.before; changes = record { time = 1; bit = p.after } ∷ [] }) t ≡ pair_wave p t
    wave_is p zero = refl
    wave_is p (suc t) = rw (le-leb 1 (suc t) (omega arith))

    machine_is : (n : ℕ) → machine c (lane_of L m w) n ≡ machine_once c (pair_of L w) n
    unfolding waves machine_once
    machine_is n =
        ap (λ (ws : List Wave). get_or ws n no_wave)
        (nets_ext no_wave gate_wave (λ (i : ℕ). input_wave (lane_of L m w i)) c (λ (i : ℕ). pair_wave (pair_of L w i))
        (λ i h. ap input_wave (drives i h) ∙ fun_ext (wave_is (pair_of L w i))))

  module _ (w : WordLists) where
    word_is : (n k : ℕ) → packed_word c m w n k ≡ pack lanes (λ (L : ℕ). get_or (get_or (traces_once c (pair_of L w)) n no_trace).values k false)
    unfolding packed_word
    word_is n k = ap (pack lanes) (fun_ext (λ L. ap (λ (ns : List Trace). get_or (get_or ns n no_trace).values k false) (traces_are w L)))

    values_are : (n : ℕ) → packed_values c m w n ≡ values_once c w n
    unfolding packed_values values_once
    values_are n =
        ap₂ (λ (size : ℕ) (word : ℕ → ℕ). tabulate size word) (ap (λ (fs : List Frames). length (get_or fs n no_frames).times) frames_are) (fun_ext (word_is n))

    all_values_are : all_values c m w ≡ all_values_once c w
    unfolding all_values all_values_once
    all_values_are = ap (λ (f : ℕ → List ℕ). flatten (tabulate (net_count c) f)) (fun_ext values_are)

  pub old_rules : OldRules c m
  old_rules = record { same_frames = frames_are; same_traces = traces_are; same_machine = machine_is; same_values = all_values_are }

-- every input changes once, at 1
abbrev pub always : Moments
always i = 1 ∷ []

pub always_ordered : Ordered always
always_ordered i = refl

pub always_once : (n : ℕ) → Once n always
always_once n i h = refl

-- so a lane's values are the machine's levels at the net's times
pub once_samples : (c : Circuit) (w : WordLists) (L n : ℕ) → lane_once c w L n ≡ map (machine_once c (pair_of L w) n) (times_once c n)
once_samples c w L n =
    let s = lane_of L always w in
    let old = old_rules c always (always_once c.inputs) in
    ap (λ (ns : List Trace). (get_or ns n no_trace).values) (sym (old.same_traces w L))
    ∙ (follows c s (lane_ordered c always w L n always_ordered) n).samples
    ∙ ap₂ (λ (f : Wave) (ts : List ℕ). map f ts) (old.same_machine w L n)
    (ap (λ (f : Frames). f.times) (sym (planned.frames_are c s n)) ∙ ap (λ (m : Moments). (frames_at c m n).times) (own_moments L always w) ∙ ap (λ (fs : List Frames). (get_or fs n no_frames).times) old.same_frames)

-- ---- as many ones

start_ones : (n i : ℕ) → i ≤ n → start_of (replicate n 1) i ≡ i
start_ones n zero h = refl
start_ones n (suc i) h = omega (arith, start_ones n i (omega arith), get_or-replicate {A = ℕ} n i 1 0 (omega arith))

first_one : (n i : ℕ) → i < n → take 1 (drop i (replicate {A = ℕ} n 1)) ≡ 1 ∷ []
first_one zero i h = absurd (omega arith)
first_one (suc n) zero h = refl
first_one (suc n) (suc i) h = first_one n i (omega arith)

pub ones_once : (n : ℕ) → Once n (moments_from (ones n))
ones_once n i h = rw (get_or-replicate {A = ℕ} n i 1 0 h, start_ones n i (omega arith)) (first_one n i h)

every_one : (p : ℕ → Bool) → p 1 ≡ true → (n : ℕ) → every (map p (replicate n 1)) ≡ true
every_one p e zero = refl
every_one p e (suc n) = and_both (p 1) (every (map p (replicate n 1))) e (every_one p e n)

pub ones_suit : (n : ℕ) → changes_suit n (ones n) ≡ true
unfolding changes_suit
ones_suit n =
    let size : length (replicate {A = ℕ} n 1) ≡ n = length-replicate n 1 in
    rw (eq-eqb (length (replicate {A = ℕ} n 1)) n size, every_one (λ (k : ℕ). leb k most_changes) refl n, eq-eqb (start_of (replicate n 1) n) (length (replicate {A = ℕ} n 1)) (start_ones n n (omega arith) ∙ sym size), every_one (between 1 last_change) refl n)
    (from_every (rise_above 0) (moments_from (ones n)) n 0 (λ i a b. rw (ones_once n i (omega arith))))
