-- The example of document 01, byte by byte: what goes in, with the circuit in the present edition, and what is printed.
use Rattle.std.specs.Prelude.{ℕ, ◌≡◌, List, [], ◌∷◌, ◌++◌, replicate}
use Rattle.waveform.specs.Wave.{text_of}

unfoldable pub example_input : List ℕ
example_input =
    28 ∷ 0 ∷ 1 ∷ 1 ∷ 2 ∷ 0 ∷ 12 ∷ 0 ∷ 7 ∷ 0 ∷ 19 ∷ 0 ∷ 9 ∷ 0 ∷ 1 ∷ 2 ∷ 0 ∷ 0 ∷ 0 ∷ 0 ∷ 0 ∷ 2 ∷ 1 ∷ 0 ∷ 1 ∷ 0 ∷ 0 ∷ 0 ∷ 1 ∷ 0 ∷ []
    ++ replicate 8 0 ++ 1 ∷ replicate 7 0

-- 0 0=0 1=1
-- 1 0=1 3=0
-- 2 0=0 2=1 4=0
unfoldable pub example_text : List ℕ
example_text =
    48 ∷ 32 ∷ 48 ∷ 61 ∷ 48 ∷ 32 ∷ 49 ∷ 61 ∷ 49 ∷ 10
    ∷ 49 ∷ 32 ∷ 48 ∷ 61 ∷ 49 ∷ 32 ∷ 51 ∷ 61 ∷ 48 ∷ 10
    ∷ 50 ∷ 32 ∷ 48 ∷ 61 ∷ 48 ∷ 32 ∷ 50 ∷ 61 ∷ 49 ∷ 32 ∷ 52 ∷ 61 ∷ 48 ∷ 10
    ∷ []

abbrev pub Shown : Type 0
Shown = text_of example_input ≡ example_text
