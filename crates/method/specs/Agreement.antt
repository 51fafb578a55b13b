-- The frames and the time-by-time machine agree: for every circuit, whatever drives its inputs, on every net, at every time.
-- A net that does not exist is at level 0 always, by its frames and in the machine.
-- `agreement` in `proofs/Agreement` proves it.
use Rattle.std.specs.Prelude.{ℕ, zero, suc, ◌+◌, ◌-◌, ◌*◌, ◌≤◌, ◌≡◌, ◌≢◌, Bool, true, cond}
use Rattle.std.specs.Bool.{beq}
use Rattle.method.specs.Circuit.{Circuit, DelaysUpTo}
use Rattle.method.specs.Stimulus.{Stimuli, Moments, moments_of, Ordered}
use Rattle.method.specs.Times.{among, start_and_rise}
use Rattle.method.specs.Frames.{frames_at}
use Rattle.method.specs.Traces.{trace_at}
use Rattle.method.specs.Look.{level, changes}
use Rattle.method.specs.Machine.{Wave, machine}

-- the level of net n at time t, by its frames
abbrev pub level_at : Circuit → Stimuli → ℕ → ℕ → Bool
level_at c s n t = level (frames_at c (moments_of s) n).times (trace_at c s n).values t

-- is t a potential time of net n?
abbrev pub potential : Circuit → Moments → ℕ → ℕ → Bool
potential c m n t = among t (frames_at c m n).times

-- the number of times t from 1 to `end` at which the level differs from that at t - 1
unfoldable pub changed_times : Wave → ℕ → ℕ
changed_times w zero = 0
changed_times w (suc t) = cond (beq (w (suc t)) (w t)) (changed_times w t) (suc (changed_times w t))

pub record Agreement : Type 0 where
  -- the level by the frames is the machine's
  pub level_is_machine : (c : Circuit) (s : Stimuli) → Ordered (moments_of s) → (n t : ℕ) → level_at c s n t ≡ machine c s n t
  -- from time 1 on, the level changes only at a potential time
  pub changes_at_times : (c : Circuit) (s : Stimuli) → Ordered (moments_of s) → (n t : ℕ)
      → level_at c s n (suc t) ≢ level_at c s n t → potential c (moments_of s) n (suc t) ≡ true
  -- the count of changes is the number of times t from 1 on at which the machine's level differs from that at t - 1:
  -- of those up to any end that no potential time lies beyond; after it, by the line above, there are none
  pub count_is_machine : (c : Circuit) (s : Stimuli) → Ordered (moments_of s) → (n end : ℕ)
      → ((t : ℕ) → potential c (moments_of s) n t ≡ true → t ≤ end)
      → changes (trace_at c s n).values ≡ changed_times (machine c s n) end
  -- no pattern bit enters the frames
  pub frames_alone : (c : Circuit) (s : Stimuli) (n : ℕ) → (trace_at c s n).frames ≡ frames_at c (moments_of s) n
  -- a net's times start at 0 and strictly rise
  pub times_rise : (c : Circuit) (m : Moments) → Ordered m → (n : ℕ) → start_and_rise (frames_at c m n).times ≡ true
  -- no potential time is above the last change plus the greatest transport delay for each gate up to net n: there are
  -- n + 1 - I of them
  pub times_bounded : (c : Circuit) (m : Moments) (last most : ℕ) → ((i t : ℕ) → among t (m i) ≡ true → t ≤ last) → DelaysUpTo most c
      → (n t : ℕ) → potential c m n t ≡ true → t ≤ last + most * (n + 1 - c.inputs)
