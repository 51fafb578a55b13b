-- The file of a circuit in an edition.
use Rattle.std.specs.Prelude.{ℕ, ◌+◌, ◌/◌, ◌%◌, cond, length}
use mathlib.Core.List.{List, [], ◌∷◌, ◌++◌, flat_map}
use Rattle.method.specs.declared.Kind.{Kind}
use Rattle.method.specs.Kinds.{kind_number}
use Rattle.method.specs.Circuit.{Gate, Circuit}
use Rattle.editions.specs.declared.Edition.{Edition}
use Rattle.editions.specs.File.{head_length, record_length}

-- a two-byte number, little-endian
unfoldable pub two_bytes : ℕ → List ℕ
two_bytes n = n % 256 ∷ n / 256 ∷ []

module _ (e : Edition) where
  -- a delay: two bytes, or one
  unfoldable pub encode_delay : ℕ → List ℕ
  encode_delay d = cond e.wide (two_bytes d) (d ∷ [])

  -- the head of a gate's record: kind, d, di
  unfoldable pub encode_head : Kind → ℕ → ℕ → List ℕ
  encode_head kind d di = kind_number kind ∷ (encode_delay d ++ encode_delay di)

  -- the record of a gate
  unfoldable pub encode_gate : Gate → List ℕ
  encode_gate g = encode_head g.kind g.delay g.inertial ++ flat_map two_bytes g.fanins

  -- the pairs of gates whose records follow one another from byte `at` on
  unfoldable pub encode_pairs : ℕ → List Gate → List ℕ
  encode_pairs at [] = []
  encode_pairs at (g ∷ gs) =
      two_bytes at
      ++ (two_bytes (record_length e (length g.fanins)) ++ encode_pairs (at + record_length e (length g.fanins)) gs)

  unfoldable pub encode : Circuit → List ℕ
  encode c =
      two_bytes (c.inputs + e.added)
      ++ (two_bytes (length c.gates) ++ (encode_pairs (head_length (length c.gates)) c.gates ++ flat_map encode_gate c.gates))
