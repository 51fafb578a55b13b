-- What an edition's width decides: a delay's bytes, the head of a record, and how a delay is read.
-- Assumes nothing.
use Prim.Native.Nat.{ℕ, ◌-◌, ◌<◌}
use mathlib.Core.Path.{◌≡◌, ◌∙◌}
use mathlib.Core.Bool.{true, false}
use mathlib.Core.List.{List}
use native.Mathlib.Omega.{arith}
use Rattle.numbers.specs.Numbers.{byte_at, number_at}
use Rattle.editions.specs.declared.Edition.{Edition}
use Rattle.editions.specs.Edition.{delay_bytes}
use Rattle.editions.specs.File.{inputs_of, record_head, delay_at}

module _ (ed : Edition) where
  module _ (w : ed.wide ≡ true) where
    pub two_bytes_lem : 2 ≡ delay_bytes ed
    unfolding delay_bytes
    two_bytes_lem = rw w

    pub head_of_five : 5 ≡ record_head ed
    head_of_five = rw (← two_bytes_lem)

    pub wide_delay : (file : List ℕ) (at : ℕ) {r : ℕ} → r ≡ number_at file at → r ≡ delay_at ed file at
    unfolding delay_at
    wide_delay file at e = e ∙ rw w

  module _ (w : ed.wide ≡ false) where
    pub one_byte : 1 ≡ delay_bytes ed
    unfolding delay_bytes
    one_byte = rw w

    pub head_of_three : 3 ≡ record_head ed
    head_of_three = rw (← one_byte)

    pub narrow_delay : (file : List ℕ) (at : ℕ) {r : ℕ} → r ≡ byte_at file at → r ≡ delay_at ed file at
    unfolding delay_at
    narrow_delay file at e = e ∙ rw w

  -- I, by what bytes 0-1 hold
  module _ (file : List ℕ) {held : ℕ} (a : held ≡ number_at file 0) where
    pub too_few : held < ed.added → 0 ≡ inputs_of ed file
    unfolding inputs_of
    too_few l = omega arith

    pub inputs_left : held - ed.added ≡ inputs_of ed file
    unfolding inputs_of
    inputs_left = rw a
