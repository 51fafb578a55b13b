-- An input's wave: it changes at its change times alone, and there it takes the bit of the change.
-- Assumes nothing.
use Prim.Native.Nat.{ℕ, suc}
use mathlib.Core.Path.{◌≡◌, refl, sym, ap, ap₂, ◌∙◌}
use mathlib.Core.Logic.{inl, inr}
use mathlib.Core.Bool.{Bool, false}
use mathlib.Core.List.{List, [], ◌∷◌, map}
use native.Mathlib.Omega.{arith}
use lib.Dec.{leb, eqb}
use borrow.Author.Tests.{le-leb, lt-leb, eqb-false}
use Rattle.lists.proofs.Choices.{order, or_left, or_right}
use Rattle.method.specs.Stimulus.{Change, Stimulus, change_times}
use Rattle.method.specs.Times.{among}
use Rattle.method.specs.Machine.{latest_bit, input_wave}
use Rattle.method.proofs.Rising.{Rise, rise_lower}
use Rattle.method.proofs.Waves.{Steady}

abbrev times : List Change → List ℕ
times cs = map (λ (c : Change). c.time) cs

-- before the first change it has not changed
latest_low : (v : Bool) (cs : List Change) (t : ℕ) → Rise t (times cs) → latest_bit v cs t ≡ v
latest_low v [] t r = refl
latest_low v (c ∷ cs) t r = rw (lt-leb c.time t r.0) (latest_low v cs t (rise_lower (times cs) (omega arith) r.1))

-- at a time that is not s, no more has come than just before
pub leb_step : (s u : ℕ) → eqb (suc u) s ≡ false → leb s (suc u) ≡ leb s u
leb_step s u e =
    elim (order s u) [
      | inl h ↦ rw (le-leb s u h, le-leb s (suc u) (omega arith))
      | inr h ↦ let n : (suc u ≡ s → ⊥) = eqb-false (suc u) s e in rw (lt-leb s u h, lt-leb s (suc u) (omega arith))
    ]

latest_steady : (v : Bool) (cs : List Change) (u : ℕ) → among (suc u) (times cs) ≡ false → latest_bit v cs (suc u) ≡ latest_bit v cs u
latest_steady v [] u e = refl
latest_steady v (c ∷ cs) u e =
    let rest : (w : Bool) → latest_bit w cs (suc u) ≡ latest_bit w cs u = λ w. latest_steady w cs u (or_right (eqb (suc u) c.time) (among (suc u) (times cs)) e) in
    rw (leb_step c.time u (or_left (eqb (suc u) c.time) (among (suc u) (times cs)) e), rest)

-- once a change has come, what was before it does not matter
past : (v : Bool) (c : Change) (cs : List Change) (us : List ℕ) → Rise c.time us → map (latest_bit v (c ∷ cs)) us ≡ map (latest_bit c.bit cs) us
past v c cs [] r = refl
past v c cs (u ∷ us) r =
    rw (le-leb c.time u (omega arith)) (ap (λ (l : List Bool). latest_bit c.bit cs u ∷ l) (past v c cs us (rise_lower us (omega arith) r.1)))

latest_samples : (v : Bool) (p : ℕ) (cs : List Change) → Rise p (times cs) → map (λ (c : Change). c.bit) cs ≡ map (latest_bit v cs) (times cs)
latest_samples v p [] r = refl
latest_samples v p (c ∷ cs) r =
    ap₂ ◌∷◌ (sym (rw (le-leb c.time c.time (omega arith)) (latest_low c.bit cs c.time r.1)))
    (latest_samples c.bit c.time cs r.1 ∙ sym (past v c cs (times cs) r.1))

pub input_steady : (s : Stimulus) → Steady 0 (0 ∷ change_times s) (input_wave s)
input_steady s u h e = latest_steady s.before s.changes u (or_right (eqb (suc u) 0) (among (suc u) (change_times s)) e)

pub input_samples : (s : Stimulus) → Rise 0 (change_times s) → s.before ∷ map (λ (c : Change). c.bit) s.changes ≡ map (input_wave s) (0 ∷ change_times s)
input_samples s r = ap₂ ◌∷◌ (sym (latest_low s.before s.changes 0 r)) (latest_samples s.before 0 s.changes r)
