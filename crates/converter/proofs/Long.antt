-- A file that is longer than any offset and length of two bytes reach is refused by question 5 at the latest, and by its first bytes.
-- Assumes nothing.
use Prim.Native.Nat.{ℕ, zero, suc, ◌+◌, ◌*◌, ◌<◌, ◌≤◌}
use mathlib.Core.Path.{◌≡◌, refl, sym, ap, ◌∙◌}
use mathlib.Core.Bool.{Bool, true, false, cond, ◌&&◌}
use mathlib.Core.List.{List, [], ◌∷◌, ◌++◌, flatten, append_assoc}
use native.Mathlib.Omega.{arith}
use lib.ListN.{length, take}
use lib.Dec.{leb, eqb}
use lib.Seq.{length-take-le, get_or-take}
use borrow.Author.Tests.{ne_eqb, le-leb}
use Rattle.lists.specs.Ladder.{Question, ◌or_else◌, between, first_no, refused}
use Rattle.lists.specs.Tables.{tabulate}
use Rattle.lists.specs.Outcome.{outcome}
use Rattle.lists.proofs.Choices.{between_most_true}
use Rattle.lists.proofs.Ladders.{ask_yes, first_no_append, first_here}
use Rattle.numbers.specs.Numbers.{number_at}
use Rattle.editions.specs.declared.Edition.{Edition}
use Rattle.editions.specs.Edition.{former, present}
use Rattle.editions.specs.File.{gates_of, head_length, offset_of, length_of, record_head}
use Rattle.editions.specs.Limits.{most_inputs, most_gates}
use Rattle.editions.specs.Questions.{fills, head_questions, gate_questions, questions}
use Rattle.editions.specs.Faithful.{Bytes}
use Rattle.editions.proofs.Bytewise.{byte_any}
use Rattle.editions.proofs.Gated.{head_numbered}
use Rattle.filing.proofs.Filed.{filed_no}
use Rattle.converter.specs.Convert.{newer_questions, newer_of, older_questions, older_of, present_from, other_of}
use Rattle.converter.specs.Conversions.{most_reach, Long}

-- ---- question 5

number_most : (file : List ℕ) → Bytes file → (at : ℕ) → number_at file at ≤ 65535
unfolding number_at
number_most file b at = omega (arith, byte_any file b at, byte_any file b (at + 1))

last_no_lem : (a b : Bool) → a && (b && false) ≡ false
last_no_lem true true = refl
last_no_lem true false = refl
last_no_lem false b = refl

fills_no : (least : ℕ) (file : List ℕ) → Bytes file → most_reach < length file → (n j end : ℕ) → end ≤ most_reach → fills least file n j end ≡ false
unfolding fills
fills_no least file b l zero j end h = ne_eqb end (length file) (λ e. omega (arith, e))
fills_no least file b l (suc n) j end h =
    rw (fills_no least file b l n (suc j) (offset_of file j + length_of file j) (omega (arith, number_most file b (4 + 4 * j), number_most file b (6 + 4 * j))))
    (last_no_lem (eqb (offset_of file j) end) (leb least (length_of file j)))

-- ---- questions 1 to 5 of a long file: 4 passes where 3 does, and 5 fails

long_no : Edition → ℕ → ℕ → ℕ
long_no ed i g = first_no ((between (1 + ed.added) (most_inputs + ed.added) i or_else 2) ∷ (between 0 most_gates g or_else 3) ∷ (false or_else 5) ∷ [])

long_some : (ed : Edition) (i g : ℕ) → long_no ed i g ≡ 0 → ⊥
unfolding long_no first_no
long_some ed i g = go (between (1 + ed.added) (most_inputs + ed.added) i) (between 0 most_gates g)
  where
    go : (a b : Bool) → ◌≡◌ {A = ℕ} (cond a (cond b 5 3) 2) 0 → ⊥
    go true true e = omega (arith, e)
    go true false e = omega (arith, e)
    go false b e = omega (arith, e)

four_asked : (a b d e : Bool) → (b ≡ true → d ≡ true) → (b ≡ true → e ≡ false)
    → first_no ((a or_else 2) ∷ (b or_else 3) ∷ (d or_else 4) ∷ (e or_else 5) ∷ []) ≡ first_no ((a or_else 2) ∷ (b or_else 3) ∷ (false or_else 5) ∷ [])
unfolding first_no
four_asked true true d e h n = rw (h refl, n refl)
four_asked true false d e h n = refl
four_asked false b d e h n = refl

module _ (ed : Edition) (file : List ℕ) (b : Bytes file) (l : most_reach < length file) where
  head_no : first_no (head_questions ed file) ≡ long_no ed (number_at file 0) (number_at file 2)
  unfolding head_questions long_no
  head_no =
      ask_yes _ _ _ (le-leb 4 (length file) (omega arith))
      ∙ four_asked _ _ _ _
      (λ y. le-leb (head_length (gates_of file)) (length file) (omega (arith, between_most_true 0 most_gates (gates_of file) y)))
      (λ y. fills_no (record_head ed) file b l (gates_of file) 0 (head_length (gates_of file)) (omega (arith, between_most_true 0 most_gates (gates_of file) y)))

  long : ℕ
  long = long_no ed (number_at file 0) (number_at file 2)

  ladder_no : (qs : List Question) → first_no (questions ed file ++ qs) ≡ long
  unfolding questions long
  ladder_no qs =
      let gates = flatten (tabulate (gates_of file) (gate_questions ed file)) in
      let some = long_some ed (number_at file 0) (number_at file 2) in
      ap first_no (append_assoc (head_questions ed file) gates qs)
      ∙ first_no_append (head_questions ed file) (gates ++ qs) (head_numbered ed file)
      ∙ rw head_no (first_here (long_no ed (number_at file 0) (number_at file 2)) _ some)

-- ---- so both ways it is refused by its first bytes

module _ (file area : List ℕ) (b : Bytes file) (l : most_reach < length file) where
  newer_no : outcome (refused (long_no former (number_at file 0) (number_at file 2))) area ≡ newer_of file area
  unfolding newer_of newer_questions long
  newer_no = filed_no _ _ area (ladder_no former file b l _) (long_some former (number_at file 0) (number_at file 2))

  older_no : outcome (refused (long_no present (number_at file 0) (number_at file 2))) area ≡ older_of file area
  unfolding older_of older_questions long
  older_no = filed_no _ _ area (ladder_no present file b l _) (long_some present (number_at file 0) (number_at file 2))

  other_no : cond (leb present_from (number_at file 0)) (outcome (refused (long_no present (number_at file 0) (number_at file 2))) area) (outcome (refused (long_no former (number_at file 0) (number_at file 2))) area)
      ≡ other_of file area
  unfolding other_of
  other_no = rw (newer_no, older_no)

-- ---- the first bytes of a file

module _ (n : ℕ) (file : List ℕ) where
  number_taken : (at : ℕ) → at + 1 < n → number_at (take n file) at ≡ number_at file at
  unfolding number_at
  number_taken at h = rw (get_or-take n file at 0 (omega arith), get_or-take n file (at + 1) 0 h)

  bytes_taken : n ≤ length file → Bytes file → Bytes (take n file)
  bytes_taken l b i h =
      let k : i < n = omega (arith, length-take-le n file l) in
      rw (get_or-take n file i 0 k) (b i (omega arith))

pub long_file : Long
long_file file area b l =
    let n = suc most_reach in
    let first = take n file in
    let long : most_reach < length first = omega (arith, length-take-le n file l) in
    sym (other_no first area (bytes_taken n file l b) long) ∙ rw (number_taken n file 0 (omega arith), number_taken n file 2 (omega arith)) (other_no file area b l)
