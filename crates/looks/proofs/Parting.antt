-- A net's part of an area, cut off at the area's end, is its part as it is defined: behind the end there is nothing to take.
-- Assumes nothing.
use Prim.Native.Nat.{ℕ, ◌+◌, ◌-◌, ◌≤◌, min}
use mathlib.Core.Path.{◌≡◌, sym, ◌∙◌}
use mathlib.Core.Logic.{inl, inr}
use mathlib.Core.List.{List}
use native.Mathlib.Omega.{arith}
use lib.ListN.{length, take, drop, drop_of_length-le, length-drop}
use lib.Seq.{take_all, take-nil}
use Rattle.lists.proofs.Choices.{order}
use Rattle.method.specs.Layout.{first_frame, frame_count, part_of}

-- a part that reaches beyond the end is all that there is
cut : (from count : ℕ) (area : List ℕ) → from ≤ length area → take (min (from + count) (length area) - from) (drop from area) ≡ take count (drop from area)
cut from count area h =
    elim (order (from + count) (length area)) [
      | inl l ↦ rw (let q : min (from + count) (length area) - from ≡ count = omega arith in q)
      | inr l ↦ take_all (min (from + count) (length area) - from) (drop from area) (omega (arith, length-drop from area))
          ∙ sym (take_all count (drop from area) (omega (arith, length-drop from area)))
    ]

module _ (d area : List ℕ) (n : ℕ) {first end : ℕ} (a : first ≡ min (first_frame d n) (length area)) (b : end ≡ min (first + frame_count d n) (length area)) where
  pub part_cut : take (end - first) (drop first area) ≡ part_of d area n
  unfolding part_of
  part_cut =
      elim (order (first_frame d n) (length area)) [
        | inl h ↦ rw (b, let q : first ≡ first_frame d n = omega (arith, a) in q) (cut (first_frame d n) (frame_count d n) area h)
        | inr h ↦ rw (
          drop_of_length-le area (let q : length area ≤ first = omega (arith, a) in q),
          drop_of_length-le area (let q : length area ≤ first_frame d n = omega arith in q),
          take-nil (frame_count d n),
        ) (take-nil (end - first))
      ]
