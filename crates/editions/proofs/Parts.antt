-- What others cite of a file in an edition: its circuit's inputs and gates, and the numbers of an acceptance.
-- Assumes nothing.
use Prim.Native.Nat.{ℕ}
use mathlib.Core.Path.{◌≡◌, refl, sym, ap}
use mathlib.Core.List.{List}
use lib.ListN.{length}
use Rattle.lists.specs.Ladder.{accepted}
use Rattle.lists.specs.Tables.{tabulate}
use Rattle.lists.proofs.Tabled.{from_length}
use Rattle.editions.specs.declared.Edition.{Edition}
use Rattle.editions.specs.File.{inputs_of, gates_of, gate_of, circuit_of}
use Rattle.editions.specs.declared.InputsAndGates.{InputsAndGates}
use Rattle.editions.specs.Questions.{inputs_and_gates_of, read_of}
use Rattle.editions.proofs.Accepted.{passed}

module _ (ed : Edition) (file : List ℕ) where
  pub circuit_inputs : (circuit_of ed file).inputs ≡ inputs_of ed file
  unfolding circuit_of
  circuit_inputs = refl

  pub gates_listed : (circuit_of ed file).gates ≡ tabulate (gates_of file) (gate_of ed file)
  unfolding circuit_of
  gates_listed = refl

  pub gates_length : length (circuit_of ed file).gates ≡ gates_of file
  unfolding circuit_of
  gates_length = from_length (gates_of file) 0 (gate_of ed file)

  -- the answer's numbers are the file's
  module _ {inputs gates : ℕ} (e : read_of ed file ≡ accepted (record { inputs = inputs; gates = gates })) where
    pub inputs_are : inputs ≡ inputs_of ed file
    unfolding inputs_and_gates_of
    inputs_are = sym (ap (λ (s : InputsAndGates). s.inputs) (passed ed file _ e).answers)

    pub gates_are : gates ≡ gates_of file
    unfolding inputs_and_gates_of
    gates_are = sym (ap (λ (s : InputsAndGates). s.gates) (passed ed file _ e).answers)
