-- The potential times of a net: when its level may change.
use Rattle.std.specs.Prelude.{ℕ, zero, suc, ◌+◌, Bool, true, false, cond, ◌&&◌, ltb, eqb}
use mathlib.Core.List.{List, [], ◌∷◌, map, flat_map}
use Rattle.lists.specs.Tables.{some}

-- an input: 0, and its change times
abbrev pub input_times : List ℕ → List ℕ
input_times changes = 0 ∷ changes

-- x put in its place in a rising list, once
abbrev pub insert_once : ℕ → List ℕ → List ℕ
insert_once x [] = x ∷ []
insert_once x (t ∷ ts) = cond (ltb x t) (x ∷ t ∷ ts) (cond (eqb x t) (t ∷ ts) (t ∷ insert_once x ts))

-- these numbers, each once, rising
abbrev pub rising : List ℕ → List ℕ
rising [] = []
rising (x ∷ xs) = insert_once x (rising xs)

-- s + d for each non-zero time s
abbrev pub shifted : ℕ → List ℕ → List ℕ
shifted d [] = []
shifted d (zero ∷ ss) = shifted d ss
shifted d (suc s ∷ ss) = (suc s + d) ∷ shifted d ss

-- a gate with transport delay d, from the times of its fan-ins: 0, and s + d for each non-zero time s of any of them
unfoldable pub gate_times : ℕ → List (List ℕ) → List ℕ
gate_times d fanin_times = 0 ∷ rising (flat_map (shifted d) fanin_times)

-- is t one of these times?
abbrev pub among : ℕ → List ℕ → Bool
among t ts = some (map (λ (s : ℕ). eqb t s) ts)

-- do they strictly rise, the first above p?
abbrev pub rise_above : ℕ → List ℕ → Bool
rise_above p [] = true
rise_above p (t ∷ ts) = ltb p t && rise_above t ts

-- do they start at 0 and strictly rise?
abbrev pub start_and_rise : List ℕ → Bool
start_and_rise [] = false
start_and_rise (t ∷ ts) = eqb t 0 && rise_above t ts
