-- A file written in three parts into a cleared area, how long it is, and what a call that writes one answers and leaves.
-- Assumes nothing.
use Prim.Native.Nat.{ℕ, suc, ◌+◌, ◌*◌, ◌≤◌}
use mathlib.Core.Path.{◌≡◌, refl, sym, ap, ◌∙◌}
use mathlib.Core.List.{List, [], ◌∷◌, ◌++◌, flat_map}
use native.Mathlib.Omega.{arith}
use lib.ListN.{length, length-append}
use lib.Seq.{sets}
use borrow.Author.Tests.{ne_eqb}
use Rattle.lists.specs.Ladder.{Question, first_no, accepted, refused}
use Rattle.lists.specs.Areas.{cleared, padded}
use Rattle.lists.specs.Outcome.{outcome, left_unless}
use Rattle.lists.proofs.Ladders.{unless_none, unless_some, accepted_none}
use Rattle.lists.proofs.Storing.{sets_append}
use Rattle.lists.proofs.Padding.{pad_store, pad_none}
use Rattle.method.specs.Circuit.{Gate, Circuit}
use Rattle.method.proofs.Taking.{takes_range}
use Rattle.editions.specs.declared.Edition.{Edition}
use Rattle.editions.specs.File.{head_length}
use Rattle.editions.specs.Limits.{GatesWithin, Within}
use Rattle.editions.specs.Encode.{two_bytes, encode_gate, encode_pairs, encode}
use Rattle.editions.proofs.Bytewise.{two_length}
use Rattle.editions.proofs.Written.{gate_length, pairs_length}
use Rattle.editions.proofs.Encoded.{head_most}
use Rattle.filing.specs.Filed.{area_length, filed_by}

module _ (ed : Edition) where
  -- ---- how long

  -- the longest record has 21 bytes
  pub records_most : (ed' : Edition) (net : ℕ) (gs : List Gate) → GatesWithin ed' net gs → length (flat_map (encode_gate ed) gs) ≤ 21 * length gs
  unfolding flat_map
  records_most ed' net [] w = omega arith
  records_most ed' net (g ∷ gs) w =
      let few = (takes_range g.kind (length g.fanins) w.0.entries).1 in
      omega (arith, length-append (encode_gate ed g) (flat_map (encode_gate ed) gs), gate_length ed g, head_most ed, records_most ed' (suc net) gs w.1)

  pub file_length : (c : Circuit) → length (encode ed c) ≡ head_length (length c.gates) + length (flat_map (encode_gate ed) c.gates)
  unfolding encode
  file_length c =
      let g = length c.gates in
      let pairs = encode_pairs ed (head_length g) c.gates in
      let records = flat_map (encode_gate ed) c.gates in
      omega (
        arith,
        length-append (two_bytes (c.inputs + ed.added)) (two_bytes g ++ (pairs ++ records)),
        length-append (two_bytes g) (pairs ++ records),
        length-append pairs records,
        two_length (c.inputs + ed.added),
        two_length g,
        pairs_length ed (head_length g) c.gates,
      )

  -- whatever the edition that the circuit keeps the limits of
  pub file_most : (ed' : Edition) (c : Circuit) → Within ed' c → length (encode ed c) ≤ area_length
  file_most ed' c w = omega (arith, file_length c, records_most ed' c.inputs c.gates w.gates_within, w.gates_most)

  -- ---- the two counts, then the pairs, then the records

  module _ (c : Circuit) (area : List ℕ) (fits : length (encode ed c) ≤ length area) where
    pub filed : {area₀ area₁ area₂ area₃ : List ℕ} → area₀ ≡ cleared area
        → area₁ ≡ sets area₀ 0 (two_bytes (c.inputs + ed.added) ++ two_bytes (length c.gates))
        → area₂ ≡ sets area₁ 4 (encode_pairs ed (head_length (length c.gates)) c.gates)
        → area₃ ≡ sets area₂ (head_length (length c.gates)) (flat_map (encode_gate ed) c.gates)
        → area₃ ≡ padded (length area) (encode ed c)
    unfolding encode two_bytes
    filed a b d e =
        let g = length c.gates in
        let pairs = encode_pairs ed (head_length g) c.gates in
        let records = flat_map (encode_gate ed) c.gates in
        let counts = two_bytes (c.inputs + ed.added) ++ two_bytes g in
        let place : head_length g ≡ 4 + length pairs = omega (arith, pairs_length ed (head_length g) c.gates) in
        let all = counts ++ (pairs ++ records) in
        e
        ∙ ap (λ (l : List ℕ). sets l (head_length g) records) (d ∙ ap (λ (l : List ℕ). sets l 4 pairs) (b ∙ ap (λ (l : List ℕ). sets l 0 counts) a))
        ∙ ap (λ (n : ℕ). sets (sets (sets (cleared area) 0 counts) 4 pairs) n records) place
        ∙ sym (sets_append (sets (cleared area) 0 counts) 4 pairs records)
        ∙ sym (sets_append (cleared area) 0 counts (pairs ++ records))
        ∙ ap (λ (l : List ℕ). sets l 0 all) (pad_none area)
        ∙ pad_store (length area) [] all 0 refl (omega (arith, fits))

-- ---- the answer by the first "no"

module _ (qs : List Question) (file area : List ℕ) where
  pub filed_no : {n : ℕ} → first_no qs ≡ n → (n ≡ 0 → ⊥) → outcome (refused n) area ≡ filed_by qs file area
  unfolding filed_by left_unless
  filed_no {n} e h = rw (e, unless_some n (length file) h, ne_eqb n 0 h)

  pub filed_yes : first_no qs ≡ 0 → {n : ℕ} → n ≡ length file → {area' : List ℕ} → area' ≡ padded (length area) file → outcome (accepted n) area' ≡ filed_by qs file area
  unfolding filed_by left_unless
  filed_yes e l f = rw (e, unless_none 0 (length file) refl, l, f)

  -- and the other way round
  pub answered_yes : {n : ℕ} → (filed_by qs file area).answer ≡ accepted n → (first_no qs ≡ 0) × (length file ≡ n)
  unfolding filed_by
  answered_yes e = accepted_none (first_no qs) (length file) e

  pub left_yes : first_no qs ≡ 0 → (filed_by qs file area).left ≡ padded (length area) file
  unfolding filed_by left_unless
  left_yes e = rw e
