-- A circuit within the limits of one edition whose delays the other can hold is within the limits of the other; so the calls are
-- the two ways of one.
-- Assumes nothing.
use Prim.Native.Nat.{ℕ, zero, suc, ◌≤◌}
use mathlib.Core.Path.{◌≡◌, refl, sym, ◌∙◌}
use mathlib.Core.Bool.{Bool, true, false, ◌&&◌}
use mathlib.Core.List.{List, [], ◌∷◌}
use native.Mathlib.Omega.{arith}
use lib.Dec.{leb}
use borrow.Author.Tests.{leb-true, le-leb}
use Rattle.lists.specs.Ladder.{◌or_else◌, first_no}
use Rattle.lists.specs.Outcome.{Outcome}
use Rattle.lists.proofs.Choices.{and_left, and_right, and_both}
use Rattle.lists.proofs.Ladders.{ask_yes, first_no_append, first_no_behind, first, unless_none, is_number, numbered, each_append}
use Rattle.numbers.specs.Numbers.{number_at}
use Rattle.method.specs.Circuit.{Gate, Circuit}
use Rattle.editions.specs.declared.Edition.{Edition}
use Rattle.editions.specs.Edition.{former, present}
use Rattle.editions.specs.File.{circuit_of}
use Rattle.editions.specs.Limits.{Writable, GatesWithin, Within}
use Rattle.editions.specs.Questions as reader
use Rattle.editions.proofs.Gated.{questions_numbered}
use Rattle.editions.proofs.Faithful.{accepted_within, former_writable, present_writable}
use Rattle.filing.specs.Filed.{area_question, filed_by}
use Rattle.converter.specs.Convert.{delays_up_to, newer_questions, newer_of, older_questions, older_of, present_from, other_of}
use Rattle.converter.specs.Steps.{questions_by, converted_by}
use Rattle.converter.proofs.Asking.{rest, joined}

-- ---- limits

gates_low : (ed : Edition) (most net : ℕ) (gs : List Gate) → ed.most ≤ most → GatesWithin ed net gs → delays_up_to most gs ≡ true
unfolding delays_up_to
gates_low ed most net [] h w = refl
gates_low ed most net (g ∷ gs) h w =
    and_both (leb g.delay most && leb g.inertial most) (delays_up_to most gs)
    (and_both (leb g.delay most) (leb g.inertial most) (le-leb g.delay most (omega (arith, w.0.delay_most))) (le-leb g.inertial most (omega (arith, w.0.inertial_most))))
    (gates_low ed most (suc net) gs h w.1)

pub low_within : (ed : Edition) (most : ℕ) (c : Circuit) → ed.most ≤ most → Within ed c → delays_up_to most c.gates ≡ true
low_within ed most c h w = gates_low ed most c.inputs c.gates h w.gates_within

gates_other : (from to : Edition) (net : ℕ) (gs : List Gate) → GatesWithin from net gs → delays_up_to to.most gs ≡ true → GatesWithin to net gs
unfolding delays_up_to
gates_other from to net [] w e = tt
gates_other from to net (g ∷ gs) w e =
    let here = and_left (leb g.delay to.most && leb g.inertial to.most) (delays_up_to to.most gs) e in (
      record {
        delay_least = w.0.delay_least;
        delay_most = leb-true _ _ (and_left (leb g.delay to.most) (leb g.inertial to.most) here);
        inertial_most = leb-true _ _ (and_right (leb g.delay to.most) (leb g.inertial to.most) here);
        entries = w.0.entries;
        below = w.0.below;
      },
      gates_other from to (suc net) gs w.1 (and_right (leb g.delay to.most && leb g.inertial to.most) (delays_up_to to.most gs) e),
    )

pub within_other : (from to : Edition) (c : Circuit) → Within from c → delays_up_to to.most c.gates ≡ true → Within to c
within_other from to c w e =
    record {
      inputs_least = w.inputs_least;
      inputs_most = w.inputs_most;
      gates_most = w.gates_most;
      gates_within = gates_other from to c.inputs c.gates w.gates_within e;
    }

-- ---- old to new: 23 is never the first "no"

module _ (file area : List ℕ) where
  last_yes : (m : ℕ) → first_no (reader.questions former file) ≡ m → first m (first_no (rest former present file area)) ≡ first m (first_no (area_question area ∷ []))
  unfolding reader.read_of
  last_yes zero e =
      let w = accepted_within former file _ (unless_none (first_no (reader.questions former file)) (reader.inputs_and_gates_of former file) e) in
      first_no_behind (area_question area ∷ []) ((delays_up_to present.most (circuit_of former file).gates or_else 23) ∷ []) []
      (ask_yes _ _ _ (low_within former present.most (circuit_of former file) (omega arith) w))
  last_yes (suc m) e = refl

  same_number : first_no (questions_by former present file area) ≡ first_no (newer_questions file area)
  unfolding newer_questions
  same_number =
      joined former present file area
      ∙ last_yes (first_no (reader.questions former file)) refl
      ∙ sym (first_no_append (reader.questions former file) (area_question area ∷ []) (questions_numbered former file))

  pub newer_is : converted_by former present file area ≡ newer_of file area
  unfolding converted_by newer_of filed_by
  newer_is = rw same_number

  pub older_is : converted_by present former file area ≡ older_of file area
  unfolding converted_by older_of questions_by older_questions
  older_is = refl

  -- as the calls have it
  module _ {from to : Edition} {x : Outcome ℕ (List ℕ)} (e : x ≡ converted_by from to file area) where
    pub newer_answers : from ≡ former → to ≡ present → x ≡ newer_of file area
    newer_answers f t = e ∙ rw (f, t) newer_is

    pub older_answers : from ≡ present → to ≡ former → x ≡ older_of file area
    older_answers f t = e ∙ rw (f, t) older_is

-- whichever way bytes 0-1 say
module _ (file area : List ℕ) {b : Bool} (d : b ≡ leb present_from (number_at file 0)) {x : Outcome ℕ (List ℕ)} where
  pub other_older : b ≡ true → x ≡ older_of file area → x ≡ other_of file area
  unfolding other_of
  other_older y e = e ∙ rw (← d, y)

  pub other_newer : b ≡ false → x ≡ newer_of file area → x ≡ other_of file area
  unfolding other_of
  other_newer y e = e ∙ rw (← d, y)

pub writable_present : {ed : Edition} → ed ≡ present → Writable ed
writable_present e = rw e present_writable

pub writable_former : {ed : Edition} → ed ≡ former → Writable ed
writable_former e = rw e former_writable

-- ---- no question has the number 0

pub newer_numbered : (file area : List ℕ) → numbered (newer_questions file area) ≡ true
unfolding newer_questions
newer_numbered file area = each_append is_number (reader.questions former file) (area_question area ∷ []) (questions_numbered former file) refl

pub older_numbered : (file area : List ℕ) → numbered (older_questions file area) ≡ true
unfolding older_questions
older_numbered file area = each_append is_number (reader.questions present file) _ (questions_numbered present file) refl
