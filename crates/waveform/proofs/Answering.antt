-- What is printed: Run's answer to the lists that were taken from the word part is the wave program's answer to the file and
-- the part; and the text fits.
-- Assumes nothing.
use Prim.Native.Nat.{ℕ, zero, suc, ◌+◌, ◌*◌, ◌≤◌}
use mathlib.Core.Path.{◌≡◌, refl, sym, ap, ap₂, ◌∙◌}
use mathlib.Core.Logic.{inl, inr, ⊎_elim}
use mathlib.Core.Bool.{Bool, true}
use mathlib.Core.List.{List, [], ◌∷◌, flatten, append_assoc}
use native.Mathlib.Omega.{arith}
use lib.ListN.{length, get_or, replicate, length-replicate}
use lib.Dec.{eqb}
use borrow.Author.Tests.{eqb-true, eq-eqb, ne_eqb}
use Rattle.lists.specs.Ladder.{Question, ◌or_else◌, first_no, accepted, refused}
use Rattle.lists.specs.Outcome.{outcome}
use Rattle.lists.specs.Tables.{tabulate}
use Rattle.lists.proofs.Choices.{either, zero_or, bool_ext, and_left, and_both}
use Rattle.lists.proofs.Ladders.{first, first_none, first_no_append, asked, ask_yes, ask_no, unless_none, refused_some}
use Rattle.method.specs.Circuit.{Circuit}
use Rattle.method.specs.Changes.{Schedule, changes_suit}
use Rattle.method.specs.Frames.{Frames, no_frames}
use Rattle.method.specs.Traces.{Trace, no_trace}
use Rattle.method.specs.Values.{net_count}
use Rattle.method.specs.Once.{frames_once, ones, OldRules}
use Rattle.method.specs.WordLists.{WordLists, Lengths, word_lists, lengths_of, words_suit}
use Rattle.circuit.specs.File.{inputs_of, circuit_of}
use Rattle.circuit.specs.Limits.{most_inputs, most_gates}
use Rattle.circuit.specs.Questions as reader
use Rattle.circuit.specs.Task.{Task, moments_in, nets_in, frames_in}
use Rattle.circuit.proofs.Present.{questions_numbered}
use Rattle.editions.specs.Edition.{present}
use Rattle.editions.specs.Questions as editions
use Rattle.editions.proofs.Accepted.{Head, Counted, counted, passed}
use Rattle.circuit.proofs.Parts.{circuit_inputs, gates_length, inputs_are, gates_are, few}
use Rattle.method.specs.declared.Totals.{Totals}
use Rattle.method.specs.Limits.{most_total_frames}
use Rattle.method.specs.Sums.{fits}
use Rattle.limiting.specs.Questions.{last_questions}
use Rattle.limiting.proofs.Last.{full_last}
use Rattle.planner.specs.Questions as planner
use Rattle.method.proofs.Fitting.{fits_total}
use Rattle.engine.specs.Areas.{Areas, areas}
use Rattle.engine.specs.Questions as engine
use Rattle.engine.specs.Run.{run_of}
use Rattle.engine.specs.After.{LeftByRun}
use Rattle.engine.proofs.Accepted.{held, none}
use Rattle.engine.proofs.After.{after_runs}
use Rattle.engine.proofs.Answering.{run_is}
use Rattle.method.proofs.Once.{old_rules, ones_once, ones_suit}
use Rattle.waveform.specs.Input.{words_from, words_of, questions}
use Rattle.text.specs.Text.{refusal}
use Rattle.waveform.specs.Lines.{line, lines}
use Rattle.waveform.specs.Wave.{answer_text, buffer_length}
use Rattle.waveform.specs.Steps.{list_length, area_lines, nets_read, task_lines, run_text}
use Rattle.waveform.proofs.Taking.{words_length, list_exact, list_only}
use Rattle.waveform.proofs.Lining.{lines_are}
use Rattle.waveform.proofs.Lengths.{refusal_length, lines_length}
use Rattle.editions.specs.declared.InputsAndGates.{InputsAndGates}

-- areas of these lengths pass 10
pub areas_pass : (d t i f v : List ℕ) → length d ≡ 320 → length t ≡ 2048 → length i ≡ 2048 → length f ≡ 16384 → length v ≡ 2048 → engine.areas_suit (areas d t i f v) ≡ true
unfolding engine.areas_suit planner.areas_suit
areas_pass d t i f v p q r s u = rw (eq-eqb _ _ p, eq-eqb _ _ q, eq-eqb _ _ r, eq-eqb _ _ s, eq-eqb _ _ u) refl

-- ---- how many nets there are, from the reader's answer

module _ (file : List ℕ) where
  module _ {s : InputsAndGates} (e : accepted s ≡ reader.read_of file) where
    pub nets_read_lem : s.inputs + s.gates ≡ nets_read (reader.read_of file)
    nets_read_lem = ap nets_read e

    pub nets_few : s.inputs + s.gates ≤ most_inputs + most_gates
    nets_few =
        let i = inputs_are file (sym e) in
        let g = gates_are file (sym e) in
        omega (arith, i, g, few file (sym e ∙ rw (i, g)))

  pub nets_none : {n : ℕ} → refused n ≡ reader.read_of file → 0 ≡ nets_read (reader.read_of file)
  nets_none e = ap nets_read e

-- ---- a run

module _ (task : Task) (w : WordLists) (a : Areas) where
  abbrev number : ℕ
  number = first_no (engine.questions task most_total_frames (lengths_of w) a)

  text_yes : number ≡ 0 → run_text task w a ≡ task_lines task w
  unfolding run_text
  text_yes e = rw (eq-eqb number 0 e) refl

  text_no : (number ≡ 0 → ⊥) → run_text task w a ≡ refusal number
  unfolding run_text
  text_no e = rw (ne_eqb number 0 e) refl

  -- a "no"
  pub run_refused : {n : ℕ} {b : Areas} → outcome (refused n) b ≡ run_of task most_total_frames w a → refusal n ≡ run_text task w a
  run_refused {n} e =
      let s = refused_some number _ (sym (run_is task most_total_frames w a e).0) in
      sym (text_no (λ z. omega (arith, s.0, s.1, z)) ∙ ap refusal s.0)

  module _ {totals : Totals} {b : Areas} (e : outcome (accepted totals) b ≡ run_of task most_total_frames w a) where
    ran : LeftByRun task w b
    ran = record { limit = most_total_frames; totals = totals; entry = a; ran = e }

    -- all lines
    pub run_lines : {nets : ℕ} → nets ≡ nets_read (reader.read_of task.file) → area_lines b.plan.directory b.plan.times b.values nets ≡ run_text task w a
    unfolding ran
    run_lines {nets} p =
        let m : nets ≡ nets_in task = p ∙ ap nets_read (held task w ran).read ∙ sym (ap₂ ◌+◌ (circuit_inputs task.file) (gates_length task.file)) in
        ap (area_lines b.plan.directory b.plan.times b.values) m
        ∙ lines_are task w (after_runs.after_run task w b ran)
        ∙ sym (text_yes (none task w ran))

-- ---- the lists and the part

module _ (file part : List ℕ) where
  abbrev c : Circuit
  c = circuit_of file

  abbrev n : ℕ
  n = length part

  abbrev each : ℕ
  each = list_length n

  -- each input changes once, at 1
  abbrev task : Task
  task = record { file = file; schedule = ones each }

  abbrev each_of : Lengths
  each_of = record { before = each; after = each }

  -- where the circuit takes 1 to 32 words each, 11 asks the same of the lists and of the part
  same_words : 1 ≤ inputs_of file → inputs_of file ≤ most_inputs → words_suit (inputs_of file) (length (ones each).times) each_of ≡ eqb n (16 * inputs_of file)
  unfolding words_suit
  same_words h l =
      rw (eq-eqb each (length (replicate {A = ℕ} each 1)) (sym (length-replicate each 1)))
      (bool_ext _ _
      (λ e. eq-eqb n (16 * inputs_of file) (list_only n (inputs_of file) h (eqb-true each (inputs_of file) (and_left (eqb each (inputs_of file)) _ e))))
      (λ e. and_both _ _ (eq-eqb each (inputs_of file) (list_exact n (inputs_of file) l (eqb-true n (16 * inputs_of file) e))) refl))

  module _ (pass : first_no (reader.questions file) ≡ 0) where
    file_head : Head present file
    unfolding editions.read_of
    file_head = (passed present file (reader.inputs_and_gates_of file) (unless_none (first_no (reader.questions file)) (reader.inputs_and_gates_of file) pass)).head

    file_counted : Counted present file
    file_counted = counted present file file_head

    -- where the part has the words, there is a count and a time of 1 for each input, and the old rules hold
    module _ (y : eqb n (16 * inputs_of file) ≡ true) where
      each_input : each ≡ inputs_of file
      each_input = list_exact n (inputs_of file) file_counted.inputs_most (eqb-true n (16 * inputs_of file) y)

      timed : changes_suit (inputs_of file) (ones each) ≡ true
      timed = rw (← each_input) (ones_suit each)

      old : OldRules c (moments_in task)
      old = old_rules c (moments_in task) (rw (circuit_inputs file, ← each_input) (ones_once each))

  -- the ladder behind the reader's
  abbrev last : List Question
  last = (fits (frames_once c) or_else 13) ∷ []

  abbrev rest : List Question
  rest = (eqb n (16 * inputs_of file) or_else 11) ∷ last

  joined : first_no (questions file part) ≡ first (first_no (reader.questions file)) (first_no rest)
  unfolding questions
  joined = first_no_append (reader.questions file) rest (questions_numbered file)

  -- Run's ladder comes to the same
  module _ (a : Areas) (suit : engine.areas_suit a ≡ true) where
    abbrev behind : List Question
    behind = (changes_suit (inputs_of file) (ones each) or_else 20) ∷ last_questions most_total_frames (frames_in task)

    abbrev own : List Question
    own = (engine.areas_suit a or_else 10) ∷ (words_suit (inputs_of file) (length (ones each).times) each_of or_else 11) ∷ behind

    run_joined : first_no (engine.questions task most_total_frames each_of a) ≡ first (first_no (reader.questions file)) (first_no own)
    unfolding engine.questions engine.first_questions
    run_joined =
        ap first_no (append_assoc (reader.questions file) (engine.own_questions (inputs_of file) (ones each) each_of a) (last_questions most_total_frames (frames_in task)))
        ∙ first_no_append (reader.questions file) own (questions_numbered file)

    same_behind : first_no (reader.questions file) ≡ 0 → first_no ((eqb n (16 * inputs_of file) or_else 11) ∷ behind) ≡ first_no rest
    same_behind e =
        elim (either (eqb n (16 * inputs_of file))) [
          | inl y ↦ ask_yes (eqb n (16 * inputs_of file)) 11 _ y ∙ ask_yes (changes_suit (inputs_of file) (ones each)) 20 _ (timed e y)
              ∙ full_last (frames_in task)
              ∙ ap (λ (fs : List Frames). first_no ((fits fs or_else 13) ∷ [])) (old e y).same_frames ∙ sym (ask_yes (eqb n (16 * inputs_of file)) 11 _ y)
          | inr z ↦ ask_no (eqb n (16 * inputs_of file)) 11 _ z ∙ sym (ask_no (eqb n (16 * inputs_of file)) 11 _ z)
        ]

    same_rest : (m : ℕ) → first_no (reader.questions file) ≡ m → first m (first_no own) ≡ first m (first_no rest)
    same_rest zero e =
        let h = file_counted e in
        ask_yes (engine.areas_suit a) 10 _ suit
        ∙ ap (λ (b : Bool). first_no ((b or_else 11) ∷ behind)) (same_words h.inputs_least h.inputs_most)
        ∙ same_behind e
    same_rest (suc m) e = refl

    same_number : first_no (engine.questions task most_total_frames each_of a) ≡ first_no (questions file part)
    same_number = run_joined ∙ same_rest (first_no (reader.questions file)) refl ∙ sym joined

  -- no "no": the parts of that
  module _ (e : first_no (questions file part) ≡ 0) where
    both : (first_no (reader.questions file) ≡ 0) × (first_no rest ≡ 0)
    both = first_none (first_no (reader.questions file)) (first_no rest) (sym joined ∙ e)

    words_asked : (eqb n (16 * inputs_of file) ≡ true) × (first_no last ≡ 0)
    words_asked = asked (eqb n (16 * inputs_of file)) 11 last (λ z. omega arith) both.1

    each_is : each ≡ inputs_of file
    each_is = each_input both.0 words_asked.0

    fit : fits (frames_once c) ≡ true
    fit = (asked (fits (frames_once c)) 13 [] (λ z. omega arith) words_asked.1).0

    lines_fit : (w : WordLists) → length (lines c w) ≤ buffer_length
    lines_fit w =
        let h = file_head both.0 in
        let i = file_counted both.0 in
        omega (
          arith,
          lines_length c w,
          fits_total (frames_once c) fit,
          i.inputs_most,
          h.gates_most,
          circuit_inputs file,
          gates_length file,
        )

    -- the lines are those of the old rules
    same_lines : (w : WordLists) → task_lines task w ≡ lines c w
    unfolding task_lines lines
    same_lines w =
        let o = old both.0 words_asked.0 in
        ap₂ (λ (fs : List Frames) (ns : List Trace). flatten (tabulate (net_count c) (λ (k : ℕ). line k (get_or fs k no_frames).times (get_or ns k no_trace).values))) o.same_frames (o.same_traces w 0)

  answer_yes : first_no (questions file part) ≡ 0 → answer_text file part ≡ lines c (words_of file part)
  unfolding answer_text
  answer_yes e = rw (eq-eqb (first_no (questions file part)) 0 e) refl

  answer_no : (first_no (questions file part) ≡ 0 → ⊥) → answer_text file part ≡ refusal (first_no (questions file part))
  unfolding answer_text
  answer_no e = rw (ne_eqb (first_no (questions file part)) 0 e) refl

  -- Run's answer to the lists is the answer
  module _ (a : Areas) (suit : engine.areas_suit a ≡ true) {w : WordLists} (b : w.before ≡ words_from part 0 each) (f : w.after ≡ words_from part each each) where
    number_is : first_no (engine.questions task most_total_frames (lengths_of w) a) ≡ first_no (questions file part)
    number_is =
        ap₂ (λ (k l : ℕ). first_no (engine.questions task most_total_frames (record { before = k; after = l }) a)) (ap length b ∙ words_length part 0 each) (ap length f ∙ words_length part each each)
        ∙ same_number a suit

    yes : first_no (questions file part) ≡ 0 → run_text task w a ≡ answer_text file part
    yes e =
        text_yes task w a (number_is ∙ e)
        ∙ same_lines e w
        ∙ ap₂ (λ (x y : List ℕ). lines c (word_lists x y)) (b ∙ ap (words_from part 0) (each_is e)) (f ∙ ap (λ (k : ℕ). words_from part k k) (each_is e))
        ∙ sym (answer_yes e)

    no : (first_no (questions file part) ≡ 0 → ⊥) → run_text task w a ≡ answer_text file part
    no e = text_no task w a (λ z. e (sym number_is ∙ z)) ∙ ap refusal number_is ∙ sym (answer_no e)

    pub answer_is : {h : Schedule} → h ≡ ones each → run_text (record { file = file; schedule = h }) w a ≡ answer_text file part
    answer_is q = rw q (⊎_elim yes no (zero_or (first_no (questions file part))))

  pub answer_fits : length (answer_text file part) ≤ buffer_length
  answer_fits =
      ⊎_elim (λ e. rw (answer_yes e) (lines_fit e (words_of file part)))
      (λ e. rw (answer_no e) (omega (arith, refusal_length (first_no (questions file part))))) (zero_or (first_no (questions file part)))
