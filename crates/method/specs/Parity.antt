-- What stays with parity: of two entries XOR is 1 when exactly one is 1, as it was before, and XNOR is the complement.
use Rattle.std.specs.Prelude.{◌≡◌, Bool, not, [], ◌∷◌, eqb}
use Rattle.method.specs.declared.Kind.TheVariants.{Xor, Xnor}
use Rattle.method.specs.Kinds.{ones, gate_fn}

pub record TwoEntries : Type 0 where
  pub xor : (a b : Bool) → gate_fn Xor (a ∷ b ∷ []) ≡ eqb (ones (a ∷ b ∷ [])) 1
  pub xnor : (a b : Bool) → gate_fn Xnor (a ∷ b ∷ []) ≡ not (eqb (ones (a ∷ b ∷ [])) 1)
