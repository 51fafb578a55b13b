-- The frames and the time-by-time machine agree, since every net's trace follows the machine's wave.
-- Assumes nothing.
use Prim.Native.Nat.{ℕ, suc, ◌≤◌, zero-le}
use mathlib.Core.Path.{◌≡◌, sym, ◌∙◌}
use mathlib.Core.Logic.{inl, inr, ◌≢◌}
use mathlib.Core.Bool.{true}
use Rattle.lists.proofs.Choices.{either}
use Rattle.method.specs.Circuit.{Circuit}
use Rattle.method.specs.Stimulus.{Stimuli, moments_of, Ordered}
use Rattle.method.specs.Frames.{frames_at}
use Rattle.method.specs.Traces.{trace_at}
use Rattle.method.specs.Look.{changes}
use Rattle.method.specs.Machine.{machine}
use Rattle.method.specs.Agreement.{level_at, potential, changed_times, Agreement}
use Rattle.method.proofs.Rising.{starts_test}
use Rattle.method.proofs.Following.{follows, level_follows}
use Rattle.method.proofs.Planned.{frames_are, times_start, times_end}
use Rattle.method.proofs.Counting.{counted}

module _ (c : Circuit) (s : Stimuli) (o : Ordered (moments_of s)) (n : ℕ) where
  level_is : (t : ℕ) → level_at c s n t ≡ machine c s n t
  level_is t = rw (frames_are c s n) (level_follows (trace_at c s n) (machine c s n) (follows c s o n) t)

  only_at : (t : ℕ) → level_at c s n (suc t) ≢ level_at c s n t → potential c (moments_of s) n (suc t) ≡ true
  only_at t d =
      elim (either (potential c (moments_of s) n (suc t))) [
        | inl e ↦ e
        | inr e ↦ absurd (d (level_is (suc t) ∙ (follows c s o n).steady t zero-le (rw (frames_are c s n) at e) ∙ sym (level_is t)))
      ]

  count_is : (end : ℕ) → ((t : ℕ) → potential c (moments_of s) n t ≡ true → t ≤ end) → changes (trace_at c s n).values ≡ changed_times (machine c s n) end
  count_is end k = rw (follows c s o n).samples (counted (machine c s n) end (trace_at c s n).frames.times (follows c s o n).starts (follows c s o n).steady (rw (frames_are c s n) at k))

pub agreement : Agreement
agreement =
    record {
      level_is_machine = level_is;
      changes_at_times = only_at;
      count_is_machine = count_is;
      frames_alone = λ c s n. sym (frames_are c s n);
      times_rise = λ c m o n. starts_test (frames_at c m n).times (times_start c m o n);
      times_bounded = λ c m last most ends small n. times_end last most c m ends small n;
    }
