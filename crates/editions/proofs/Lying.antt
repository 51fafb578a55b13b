-- The bytes of an accepted file's gates are all there: the pairs behind the head, and each record, with its fan-in list.
-- Assumes nothing.
use Prim.Native.Nat.{ℕ, zero, suc, ◌+◌, ◌*◌, ◌<◌, ◌≤◌}
use mathlib.Core.Path.{◌≡◌, refl}
use mathlib.Core.List.{List}
use mathlib.Core.Bool.{Bool, true, ◌&&◌}
use native.Mathlib.Omega.{arith}
use lib.ListN.{length}
use lib.Dec.{leb, eqb}
use borrow.Author.Tests.{leb-true, eqb-true}
use Rattle.lists.proofs.Choices.{and_left, and_right, here_or_later}
use Rattle.method.specs.Kinds.{takes}
use Rattle.method.specs.declared.Kind.{Kind}
use Rattle.editions.specs.declared.Edition.{Edition}
use Rattle.editions.specs.Edition.{present}
use Rattle.editions.specs.File.{gates_of, head_length, offset_of, length_of, record_head, record_length, kind_byte, kind_of, entries_of, record_of}
use Rattle.editions.specs.Questions.{fills, length_suits}
use Rattle.editions.specs.Lies.{Lies}
use Rattle.editions.proofs.Widths.{head_of_five}
use Rattle.editions.proofs.Accepted.{Head, GatePassed}

-- what question 5 leaves: the end of the records before is within the file, and so is each record
fills_end : (least : ℕ) (file : List ℕ) (n j end : ℕ) → fills least file n j end ≡ true → end ≤ length file
unfolding fills
fills_end least file zero j end e = omega (arith, eqb-true end (length file) e)
fills_end least file (suc n) j end e =
    let rest : Bool = fills least file n (suc j) (offset_of file j + length_of file j) in
    let more = and_right (eqb (offset_of file j) end) (leb least (length_of file j) && rest) e in
    omega (arith, eqb-true (offset_of file j) end (and_left (eqb (offset_of file j) end) (leb least (length_of file j) && rest) e), fills_end least file n (suc j) (offset_of file j + length_of file j) (and_right (leb least (length_of file j)) rest more))

fills_each : (least : ℕ) (file : List ℕ) (n j end : ℕ) → fills least file n j end ≡ true → (k : ℕ) → j ≤ k → k < j + n → 8 + 4 * k ≤ length file → Lies least file k
unfolding fills
fills_each least file zero j end e k a b p = absurd (omega arith)
fills_each least file (suc n) j end e k a b pair =
    let rest : Bool = fills least file n (suc j) (offset_of file j + length_of file j) in
    let more = and_right (eqb (offset_of file j) end) (leb least (length_of file j) && rest) e in
    let later = and_right (leb least (length_of file j)) rest more in
    here_or_later (λ (k : ℕ). 8 + 4 * k ≤ length file → Lies least file k) j k a
    (λ there. record {
      pair = there;
      long = leb-true least (length_of file j) (and_left (leb least (length_of file j)) rest more);
      inside = fills_end least file n (suc j) (offset_of file j + length_of file j) later;
    })
    (λ h. fills_each least file n (suc j) (offset_of file j + length_of file j) later k h (omega arith)) pair

-- each gate of a file that passes questions 1 to 5
pub gate_lies : (e : Edition) (file : List ℕ) → Head e file → (j : ℕ) → j < gates_of file → Lies (record_head e) file j
gate_lies e file h j l = fills_each (record_head e) file (gates_of file) 0 (head_length (gates_of file)) h.filled j (omega arith) (omega arith) (omega (arith, h.room))

-- and where its length suits, its fan-in list
pub list_lies : (e : Edition) (file : List ℕ) (j : ℕ) → Lies (record_head e) file j → (kind : Kind) → length_suits e (length_of file j) kind (entries_of e file j) ≡ true
    → (record_of e file j).list + 2 * (record_of e file j).entries ≤ length file
unfolding record_of length_suits
list_lies e file j l kind suits =
    let m : ℕ = entries_of e file j in
    omega (arith, eqb-true (length_of file j) (record_length e m) (and_left (eqb (length_of file j) (record_length e m)) (takes kind m) suits), l.inside)

module _ (file : List ℕ) (j : ℕ) (h : Head present file) (l : j < gates_of file) where
  pub present_lies : Lies 5 file j
  present_lies = rw (← head_of_five present refl) at (gate_lies present file h j l)

  pub present_listed : GatePassed present file j → (record_of present file j).list + 2 * (record_of present file j).entries ≤ length file
  present_listed g = list_lies present file j (gate_lies present file h j l) (kind_of (kind_byte file j)) g.suits
