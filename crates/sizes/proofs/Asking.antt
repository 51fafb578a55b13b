-- The fitted Run's questions, as they are asked, and what it says that all of them were answered yes.
-- Assumes nothing.
use Prim.Native.Nat.{ℕ, ◌+◌, ◌*◌}
use mathlib.Core.Path.{◌≡◌, refl, sym, ap₂, ◌∙◌}
use mathlib.Core.Bool.{Bool, true, false, not}
use mathlib.Core.List.{List, [], ◌∷◌, ◌++◌}
use native.Mathlib.Omega.{arith}
use lib.Dec.{eqb}
use lib.ListN.{length}
use borrow.Author.Tests.{eqb-true, eq-eqb, ne_eqb, not-true, not-false}
use Rattle.lists.specs.Ladder.{Question, ◌or_else◌, first_no, accepted, refused, unless}
use Rattle.lists.proofs.Choices.{and_left, and_right}
use Rattle.lists.proofs.Ladders.{is_number, numbered, each_append, first, first_here, first_none, first_no_append, asked, ask_yes, ask_no, all_asked, accepted_none, refused_some}
use Rattle.method.specs.declared.Totals.{Totals}
use Rattle.method.specs.Changes.{changes_suit}
use Rattle.method.specs.Sums.{fits, totals_of}
use Rattle.method.specs.WordLists.{Lengths, words_suit}
use Rattle.circuit.specs.File.{inputs_of, gates_of}
use Rattle.circuit.specs.Questions as reader
use Rattle.circuit.specs.Task.{Task, nets_in, frames_in}
use Rattle.circuit.proofs.Present.{questions_numbered}
use Rattle.circuit.proofs.Parts.{circuit_inputs, gates_length}
use Rattle.circuit.proofs.Ahead as ahead
use Rattle.limiting.specs.Questions.{last_questions}
use Rattle.limiting.proofs.Last.{last_none}
use Rattle.limiting.proofs.Within.{last_no}
use Rattle.engine.specs.Areas.{Areas, areas}
use Rattle.sizes.specs.Fitted.{areas_fit, just_fits, own_questions, fitted_questions}
use Rattle.sizes.specs.Steps.{totals_within, questions_of}
use Rattle.editions.specs.declared.InputsAndGates.{InputsAndGates}

-- ---- question 10

module _ (nets : ℕ) (totals : Totals) (d t i f v : List ℕ) where
  pub directory_no : (length d ≡ 2 * nets → ⊥) → false ≡ areas_fit nets totals (areas d t i f v)
  unfolding areas_fit
  directory_no n = rw (ne_eqb _ _ n)

  module _ (y1 : length d ≡ 2 * nets) where
    pub times_no : (length t ≡ totals.frames → ⊥) → false ≡ areas_fit nets totals (areas d t i f v)
    unfolding areas_fit
    times_no n = simp (eq-eqb _ _ y1, ne_eqb _ _ n)

    module _ (y2 : length t ≡ totals.frames) where
      pub inertial_no : (length i ≡ totals.frames → ⊥) → false ≡ areas_fit nets totals (areas d t i f v)
      unfolding areas_fit
      inertial_no n = simp (eq-eqb _ _ y1, eq-eqb _ _ y2, ne_eqb _ _ n)

      module _ (y3 : length i ≡ totals.frames) where
        pub fanins_no : (length f ≡ totals.fanins → ⊥) → false ≡ areas_fit nets totals (areas d t i f v)
        unfolding areas_fit
        fanins_no n = simp (eq-eqb _ _ y1, eq-eqb _ _ y2, eq-eqb _ _ y3, ne_eqb _ _ n)

        pub values_last : length f ≡ totals.fanins → eqb (length v) totals.frames ≡ areas_fit nets totals (areas d t i f v)
        unfolding areas_fit
        values_last y4 = simp (eq-eqb _ _ y1, eq-eqb _ _ y2, eq-eqb _ _ y3, eq-eqb _ _ y4)

-- what it says that the areas fit
pub record Fits (nets : ℕ) (t : Totals) (a : Areas) : Type 0 where
  pub directory : length a.plan.directory ≡ 2 * nets
  pub times : length a.plan.times ≡ t.frames
  pub inertial : length a.plan.inertial ≡ t.frames
  pub fanins : length a.plan.fanins ≡ t.fanins
  pub values : length a.values ≡ t.frames

pub fits_each : (nets : ℕ) (t : Totals) (a : Areas) → areas_fit nets t a ≡ true → Fits nets t a
unfolding areas_fit
fits_each nets t a e =
    let e2 = and_right (eqb (length a.plan.directory) (2 * nets)) _ e in
    let e3 = and_right (eqb (length a.plan.times) t.frames) _ e2 in
    let e4 = and_right (eqb (length a.plan.inertial) t.frames) _ e3 in
    record {
      directory = eqb-true _ _ (and_left (eqb (length a.plan.directory) (2 * nets)) _ e);
      times = eqb-true _ _ (and_left (eqb (length a.plan.times) t.frames) _ e2);
      inertial = eqb-true _ _ (and_left (eqb (length a.plan.inertial) t.frames) _ e3);
      fanins = eqb-true _ _ (and_left (eqb (length a.plan.fanins) t.fanins) _ e4);
      values = eqb-true _ _ (and_right (eqb (length a.plan.fanins) t.fanins) _ e4);
    }

-- ---- 11, 20, 13, 22 and 10

module _ (task : Task) (limit : ℕ) (l : Lengths) (a : Areas) where
  -- 10 is asked behind 13 and 22
  abbrev last_of : List Question
  last_of = last_questions limit (frames_in task) ++ ((just_fits task a or_else 10) ∷ [])

  last_joined : first_no last_of ≡ first (last_no task limit) (first_no ((just_fits task a or_else 10) ∷ []))
  last_joined = first_no_append (last_questions limit (frames_in task)) ((just_fits task a or_else 10) ∷ []) refl

  module _ {inputs gates : ℕ} (i : inputs ≡ inputs_of task.file) (g : gates ≡ gates_of task.file) {fed : Bool} (each : fed ≡ words_suit inputs (length task.schedule.times) l) where
    worded : fed ≡ words_suit (inputs_of task.file) (length task.schedule.times) l
    worded = each ∙ rw i

    pub words_no : not fed ≡ true → 11 ≡ first_no (own_questions task limit l a)
    words_no n = sym (ask_no (words_suit (inputs_of task.file) (length task.schedule.times) l) 11 _ (sym worded ∙ not-true fed n))

    module _ (y1 : not fed ≡ false) {on : Bool} (at : on ≡ changes_suit inputs task.schedule) where
      past_11 : first_no (own_questions task limit l a) ≡ first_no ((changes_suit (inputs_of task.file) task.schedule or_else 20) ∷ last_of)
      past_11 = ask_yes (words_suit (inputs_of task.file) (length task.schedule.times) l) 11 _ (sym worded ∙ not-false fed y1)

      timed : on ≡ changes_suit (inputs_of task.file) task.schedule
      timed = at ∙ rw i

      pub changes_no : not on ≡ true → 20 ≡ first_no (own_questions task limit l a)
      changes_no n = sym (past_11 ∙ ask_no (changes_suit (inputs_of task.file) task.schedule) 20 _ (sym timed ∙ not-true on n))

      module _ (y2 : not on ≡ false) where
        pub changes_yes : changes_suit (inputs_of task.file) task.schedule ≡ true
        changes_yes = sym timed ∙ not-false on y2

        past_20 : first_no (own_questions task limit l a) ≡ first (last_no task limit) (first_no ((just_fits task a or_else 10) ∷ []))
        past_20 = past_11 ∙ ask_yes (changes_suit (inputs_of task.file) task.schedule) 20 _ changes_yes ∙ last_joined

        pub last_no_lem : {n : ℕ} → refused n ≡ totals_within task limit → n ≡ first_no (own_questions task limit l a)
        unfolding totals_within
        last_no_lem {n} f =
            let q = refused_some (last_no task limit) (totals_of (frames_in task)) (sym f) in
            sym (past_20 ∙ rw q.0 (first_here n _ (λ z. omega (arith, q.1))))

        module _ {t : Totals} (f : accepted t ≡ totals_within task limit) {nets : ℕ} (n : nets ≡ inputs + gates) {ok : Bool} (is : ok ≡ areas_fit nets t a) where
          answered : (last_no task limit ≡ 0) × (totals_of (frames_in task) ≡ t)
          unfolding totals_within
          answered = accepted_none (last_no task limit) (totals_of (frames_in task)) (sym f)

          fitted : ok ≡ just_fits task a
          fitted =
              let m : nets ≡ nets_in task = omega (arith, n, i, g, circuit_inputs task.file, gates_length task.file) in
              is ∙ ap₂ (λ (k : ℕ) (x : Totals). areas_fit k x a) m (sym answered.1)

          past_22 : first_no (own_questions task limit l a) ≡ first_no ((just_fits task a or_else 10) ∷ [])
          past_22 = past_20 ∙ rw answered.0

          pub fit_no : not ok ≡ true → 10 ≡ first_no (own_questions task limit l a)
          fit_no z = sym (past_22 ∙ ask_no (just_fits task a) 10 [] (sym fitted ∙ not-true ok z))

          pub fit_yes : not ok ≡ false → 0 ≡ first_no (own_questions task limit l a)
          fit_yes z = sym (past_22 ∙ ask_yes (just_fits task a) 10 [] (sym fitted ∙ not-false ok z) ∙ all_asked)

-- ---- all questions, as `questions` answers them

module _ (task : Task) (limit : ℕ) (l : Lengths) (a : Areas) where
  abbrev own : List Question
  own = own_questions task limit l a

  pub fitted_numbered : numbered (fitted_questions task limit l a) ≡ true
  unfolding fitted_questions
  fitted_numbered = each_append is_number (reader.questions task.file) own (questions_numbered task.file) refl

  pub reader_no : {n : ℕ} → refused n ≡ reader.read_of task.file → refused n ≡ questions_of task limit l a
  unfolding questions_of fitted_questions
  reader_no e = ahead.reader_no task.file own e

  module _ {s : InputsAndGates} (e : accepted s ≡ reader.read_of task.file) where
    pub reader_yes : (reader.read_of task.file ≡ accepted (record { inputs = inputs_of task.file; gates = gates_of task.file })) × (s.inputs ≡ inputs_of task.file) × (s.gates ≡ gates_of task.file)
    reader_yes = ahead.read_yes task.file own e

    module _ {n : ℕ} (is : n ≡ first_no own) where
      pub own_no : (n ≡ 0 → ⊥) → refused n ≡ questions_of task limit l a
      unfolding questions_of fitted_questions
      own_no some = ahead.own_no task.file own e is some

      pub own_yes : n ≡ 0 → accepted s ≡ questions_of task limit l a
      unfolding questions_of fitted_questions
      own_yes z = ahead.own_yes task.file own e is z

  -- what their answer says
  pub asked_no : {n : ℕ} → refused n ≡ questions_of task limit l a → (n ≡ first_no (fitted_questions task limit l a)) × (n ≡ 0 → ⊥)
  unfolding questions_of fitted_questions
  asked_no e = ahead.asked_no task.file own e

  pub asked_yes : {s : InputsAndGates} → accepted s ≡ questions_of task limit l a → (first_no (fitted_questions task limit l a) ≡ 0) × (s.inputs ≡ inputs_of task.file) × (s.gates ≡ gates_of task.file)
  unfolding questions_of fitted_questions
  asked_yes e = ahead.asked_yes task.file own e

-- ---- all answered yes

pub record Passed (task : Task) (limit : ℕ) (l : Lengths) (a : Areas) : Type 0 where
  pub read : reader.read_of task.file ≡ accepted (record { inputs = inputs_of task.file; gates = gates_of task.file })
  pub worded : words_suit (inputs_of task.file) (length task.schedule.times) l ≡ true
  pub timed : changes_suit (inputs_of task.file) task.schedule ≡ true
  pub last : last_no task limit ≡ 0
  pub fit : fits (frames_in task) ≡ true
  pub just : just_fits task a ≡ true

pub passed : (task : Task) (limit : ℕ) (l : Lengths) (a : Areas) → first_no (fitted_questions task limit l a) ≡ 0 → Passed task limit l a
unfolding fitted_questions
passed task limit l a e =
    let qs = own_questions task limit l a in
    let w = asked (words_suit (inputs_of task.file) (length task.schedule.times) l) 11 _ (λ z. omega arith) (ahead.own_none task.file qs e) in
    let t = asked (changes_suit (inputs_of task.file) task.schedule) 20 (last_of task limit l a) (λ z. omega arith) w.1 in
    let b = first_none (last_no task limit) (first_no ((just_fits task a or_else 10) ∷ [])) (sym (last_joined task limit l a) ∙ t.1) in
    record {
      read = ahead.file_read task.file qs e;
      worded = w.0;
      timed = t.0;
      last = b.0;
      fit = (last_none limit (frames_in task) b.0).0;
      just = (asked (just_fits task a) 10 [] (λ z. omega arith) b.1).0;
    }

-- and the other way round
pub passes : (task : Task) (limit : ℕ) (l : Lengths) (a : Areas) → Passed task limit l a → first_no (fitted_questions task limit l a) ≡ 0
unfolding fitted_questions
passes task limit l a p =
    ahead.own_decide task.file (own_questions task limit l a) p.read
    ∙ ask_yes (words_suit (inputs_of task.file) (length task.schedule.times) l) 11 _ p.worded
    ∙ ask_yes (changes_suit (inputs_of task.file) task.schedule) 20 (last_of task limit l a) p.timed
    ∙ last_joined task limit l a ∙ rw p.last (ask_yes (just_fits task a) 10 [] p.just ∙ all_asked)
