-- What the functions of this crate promise. A reader of Mark's promise may skip this file.
use Rattle.std.specs.Prelude.{ℕ, zero, suc, ◌+◌, max, Bool, true, not, cond, ◌&&◌, List, [], ◌∷◌, map, ltb, leb}
use Rattle.std.specs.Bool.{beq}
use Rattle.method.specs.Words.{lanes, lane}
use Rattle.method.specs.Layout.{frame_count, part_of}
use Rattle.looks.specs.Sight.{End, at, never, Sight, sight_at}
use Rattle.expectations.specs.declared.Expectation.{Expectation}
use Rattle.expectations.specs.Verdict.{Verdict, all_met, place, expected}

-- ---- the nets that a list needs

-- more nets than any circuit has
abbrev pub no_circuit : ℕ
no_circuit = 131072

-- how many nets a circuit must have, so that an expectation passes question 12 there; and so that all of a list do
unfoldable pub nets_for : Expectation → ℕ
nets_for e = cond (ltb e.lane lanes && (leb e.from.0 e.to.0 && leb e.level 1)) (e.net.0 + 1) no_circuit

unfoldable pub nets_needed : List Expectation → ℕ
nets_needed [] = 0
nets_needed (e ∷ list) = max (nets_for e) (nets_needed list)

-- ---- the search, in areas with these contents

-- a frame ends after a time, or not at all
abbrev pub ends_after : ℕ → End → Bool
ends_after from (at next) = ltb from next
ends_after from never = true

-- an expectation is broken by a frame of which this is seen
unfoldable pub broken_by : Expectation → Sight → Bool
broken_by e s = not (beq s.level (expected e)) && (leb s.began e.to.0 && ends_after e.from.0 s.end)

module _ (d t v : List ℕ) where
  -- frame k of an expectation's net does, by the net's parts of the areas
  unfoldable pub breaks_at : Expectation → ℕ → Bool
  breaks_at e k = broken_by e (sight_at (part_of d t e.net.0) (map (lane e.lane) (part_of d v e.net.0)) k)

  -- the first of n frames, from frame k on, that does; else what the list behind gives
  unfoldable pub searched_frames : Expectation → ℕ → ℕ → ℕ → Verdict → Verdict
  searched_frames e i zero k behind = behind
  searched_frames e i (suc n) k behind = cond (breaks_at e k) (place i k) (searched_frames e i n (suc k) behind)

  -- the list, from position i on
  unfoldable pub searched_from : ℕ → List Expectation → Verdict
  searched_from i [] = all_met
  searched_from i (e ∷ list) = searched_frames e i (frame_count d e.net.0) 0 (searched_from (suc i) list)

  abbrev pub searched : List Expectation → Verdict
  searched list = searched_from 0 list
