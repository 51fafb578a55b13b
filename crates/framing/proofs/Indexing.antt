-- The indices of a gate's frames, as its functions find them: each search goes on where the one before ended, and a fan-in
-- comes at most one frame on from one of the gate's frames to the next.
-- Assumes nothing.
use Prim.Native.Nat.{ℕ, zero, suc, ◌+◌, ◌-◌, ◌<◌, ◌≤◌}
use mathlib.Core.Path.{◌≡◌, refl, sym, ap, ◌∙◌}
use mathlib.Core.Logic.{inl, inr}
use mathlib.Core.Bool.{true, false≢true, or-true}
use mathlib.Core.List.{List, [], ◌∷◌, flat_map}
use native.Mathlib.Omega.{arith}
use native.Mathlib.Numerals.{add-one}
use lib.ListN.{length, get_or, drop, length-drop}
use lib.Seq.{drop-cons, drop-drop}
use lib.Dec.{eqb}
use borrow.Author.Tests.{le-leb, lt-leb, eq-eqb, ne_eqb}
use Rattle.lists.specs.Front.{leading}
use Rattle.lists.proofs.Choices.{order}
use Rattle.lists.proofs.Leading.{leading_most, leading_skip, leading_mono}
use Rattle.method.specs.Times.{shifted, gate_times, among, start_and_rise}
use Rattle.method.specs.Indices.{last_frame, fanin_index, up_to, inertial_indices}
use Rattle.method.proofs.Rising.{Rise, Starts, among_low, rise_lower, rising_among, all_shifted_among, among_some, test_starts, starts_drop, time_later}
use Rattle.method.proofs.Lasting.{leading_all, up_to_low, last_count, last_mono, last_within, last_reached, last_next, index_last}
use Rattle.circuit.specs.File.{fanin_at}
use Rattle.method.specs.Layout.{part_of}
use Rattle.gathering.specs.Steps.{spans}
use Rattle.framing.specs.Steps.{Shown}
use Rattle.gathering.proofs.Spans.{own_next, spans_length, spans_at}

-- ---- inertial indices: that of frame k is how many frames behind it the search for its end passes

inertial_entry : (di : ℕ) (ts : List ℕ) (k : ℕ) → k < length ts → get_or (inertial_indices di ts) k 0 ≡ up_to (get_or ts k 0 + di) (drop (suc k) ts)
inertial_entry di [] k h = absurd (omega arith)
inertial_entry di (t ∷ ts) zero h = refl
inertial_entry di (t ∷ ts) (suc k) h = inertial_entry di ts k (omega arith)

-- the end for frame k, r, is sought from a place that is not before k nor behind the end
module _ (di : ℕ) (ts : List ℕ) (st : start_and_rise ts ≡ true) (k from : ℕ) (l : k < length ts) (low : k ≤ from) (high : from ≤ k + leading (get_or ts k 0 + di) (drop k ts))
    {r : ℕ} (q : r ≡ from + leading (get_or ts k 0 + di) (drop from ts)) where
  end_is : r ≡ suc k + leading (get_or ts k 0 + di) (drop (suc k) ts)
  unfolding leading
  end_is =
      let skip : leading (get_or ts k 0 + di) (drop k ts) ≡ (from - k) + leading (get_or ts k 0 + di) (drop (from - k) (drop k ts)) = leading_skip (get_or ts k 0 + di) (from - k) (drop k ts) (omega arith) in
      let part : drop (from - k) (drop k ts) ≡ drop from ts = drop-drop (from - k) k ts ∙ ap (λ (n : ℕ). drop n ts) (let p : k + (from - k) ≡ from = omega arith in p) in
      let skip' : leading (get_or ts k 0 + di) (drop k ts) ≡ (from - k) + leading (get_or ts k 0 + di) (drop from ts) = rw (← part) skip in
      let own : leading (get_or ts k 0 + di) (drop k ts) ≡ suc (leading (get_or ts k 0 + di) (drop (suc k) ts)) = rw (drop-cons ts k 0 l, le-leb (get_or ts k 0) (get_or ts k 0 + di) (omega arith)) in
      omega arith

  pub end_behind : k + 1 ≤ r
  end_behind = omega (arith, end_is)

  pub end_within : r ≤ length ts
  end_within = omega (arith, end_is, leading_most (get_or ts k 0 + di) (drop (suc k) ts), length-drop (suc k) ts)

  pub end_index : r - (k + 1) ≡ get_or (inertial_indices di ts) k 0
  end_index =
      let all : leading (get_or ts k 0 + di) (drop (suc k) ts) ≡ up_to (get_or ts k 0 + di) (drop (suc k) ts) =
      leading_all (get_or ts k 0) (get_or ts k 0 + di) (drop (suc k) ts) (starts_drop ts (test_starts ts st) k l) in
      omega (arith, end_is, inertial_entry di ts k l)

  -- and it is not behind the end for frame k + 1
  pub end_next : k + 1 < length ts → r ≤ (k + 1) + leading (get_or ts (k + 1) 0 + di) (drop (k + 1) ts)
  end_next h =
      let later : get_or ts k 0 ≤ get_or ts (suc k) 0 = rw (add-one k) at (own_next ts st k h) in
      let more : leading (get_or ts k 0 + di) (drop (suc k) ts) ≤ leading (get_or ts (suc k) 0 + di) (drop (suc k) ts) = leading_mono (get_or ts k 0 + di) (get_or ts (suc k) 0 + di) (omega arith) (drop (suc k) ts) in
      rw (add-one k) (omega (arith, end_is))

-- ---- the frame of a fan-in at one of the gate's times: the frame before, or the next

module _ (ss : List ℕ) (s : Starts ss) (from d time : ℕ) (low : from ≤ last_frame ss (time - d)) (high : last_frame ss (time - d) ≤ from + 1) where
  stays_last : length ss ≤ from + 1 → from ≡ last_frame ss (time - d)
  stays_last h = omega (arith, last_within ss (time - d) s)

  stays : from + 1 < length ss → time < get_or ss (from + 1) 0 + d → from ≡ last_frame ss (time - d)
  stays h b =
      elim (order (last_frame ss (time - d)) from) [
        | inl m ↦ omega arith
        | inr m ↦ absurd (
            let f : last_frame ss (time - d) ≡ from + 1 = omega arith in
            let g : get_or ss (from + 1) 0 ≤ time - d = rw f at (last_reached ss (time - d) s) in
            let p : 1 ≤ get_or ss (from + 1) 0 = omega (arith, time_later ss s from (from + 1) (omega arith) h) in
            omega arith)
      ]

  goes_on : from + 1 < length ss → get_or ss (from + 1) 0 + d ≤ time → from + 1 ≡ last_frame ss (time - d)
  goes_on h b =
      elim (order (last_frame ss (time - d)) from) [
        | inl m ↦ absurd (
            let f : last_frame ss (time - d) ≡ from = omega arith in
            let g : time - d < get_or ss (suc from) 0 = rw f at (last_next ss (time - d) s (omega arith)) in
            let g' : time - d < get_or ss (from + 1) 0 = rw (add-one from) g in
            omega arith)
        | inr m ↦ omega arith
      ]

  -- `next` is the frame behind `from`, or `from` where that is the last
  module _ {next : ℕ} (more : from + 1 < length ss → next ≡ from + 1) (last : length ss ≤ from + 1 → next ≡ from) where
    pub next_begun : get_or ss next 0 + d ≤ time → next ≡ last_frame ss (time - d)
    next_begun b =
        elim (order (length ss) (from + 1)) [
          | inl h ↦ last h ∙ stays_last h
          | inr h ↦ more h ∙ goes_on h (rw (more h) at b)
        ]

    pub next_later : time < get_or ss next 0 + d → from ≡ last_frame ss (time - d)
    next_later b =
        elim (order (length ss) (from + 1)) [
          | inl h ↦ stays_last h
          | inr h ↦ stays h (rw (more h) at b)
        ]

-- ---- from one of the gate's times to the next

-- where no time is between a and b, at most one more is at most b
up_to_one : (p a b : ℕ) (ss : List ℕ) → Rise p ss → ((x : ℕ) → among x ss ≡ true → a < x → b ≤ x) → up_to b ss ≤ suc (up_to a ss)
up_to_one p a b [] r none = omega arith
up_to_one p a b (s ∷ ss) r none =
    elim (order s a) [
      | inl h ↦ elim (order s b) [
        | inl k ↦ rw (le-leb s a h, le-leb s b k) (omega (arith, up_to_one s a b ss r.1 (λ x e. none x (rw e (or-true (eqb x s))))))
        | inr k ↦ rw (up_to_low b (s ∷ ss) (k, r.1)) (omega arith)
      ]
      | inr h ↦ let k : b ≤ s = none s (rw (eq-eqb s s refl)) h in
          let z : up_to b ss ≡ 0 = up_to_low b ss (rise_lower ss k r.1) in
          elim (order s b) [ inl m ↦ rw (le-leb s b m, lt-leb s a h) (omega arith) | inr m ↦ rw (lt-leb s b m) (omega arith) ]
    ]

rise_least : (p : ℕ) (ts : List ℕ) → Rise p ts → (k : ℕ) → k ≤ length ts → p ≤ get_or (p ∷ ts) k 0
rise_least p ts r zero h = omega arith
rise_least p [] r (suc k) h = absurd (omega arith)
rise_least p (t ∷ ts) r (suc k) h = omega (arith, rise_least t ts r.1 k (omega arith), r.0)

-- a member above one is not below the next
gap : (p : ℕ) (ts : List ℕ) → Rise p ts → (k : ℕ) → k < length ts → (y : ℕ) → among y (p ∷ ts) ≡ true → get_or (p ∷ ts) k 0 < y → get_or ts k 0 ≤ y
gap p [] r k h y e l = absurd (omega arith)
gap p (t ∷ ts) r zero h y e l =
    elim (order t y) [ inl m ↦ m | inr m ↦ absurd (false≢true (rw (ne_eqb y p (λ q. omega arith), among_low y (t ∷ ts) (m, r.1)) at e)) ]
gap p (t ∷ ts) r (suc k) h y e l =
    gap t ts r.1 k (omega arith) y (rw (ne_eqb y p (λ q. omega (arith, rise_least t ts r.1 k (omega arith), r.0))) at e) l

starts_gap : (ts : List ℕ) → Starts ts → (k : ℕ) → suc k < length ts → (y : ℕ) → among y ts ≡ true → get_or ts k 0 < y → get_or ts (suc k) 0 ≤ y
starts_gap [] s k h y e l = absurd s
starts_gap (t ∷ ts) s k h y e l = gap t ts s.1 k (omega arith) y e l

-- the times from frame 1 on
starts_later : (ss : List ℕ) → Starts ss → Rise 0 (drop 1 ss)
starts_later [] s = absurd s
starts_later (t ∷ ss) s = rw s.0 at s.1

later_member : (x : ℕ) (ss : List ℕ) → among x (drop 1 ss) ≡ true → among x ss ≡ true
later_member x [] e = e
later_member x (s ∷ ss) e = rw e (or-true (eqb x s))

-- a fan-in of a gate with the times ts
module _ (d : ℕ) (ss ts : List ℕ) (s : Starts ss) (t : start_and_rise ts ≡ true) where
  pub index_at : (time : ℕ) {v : ℕ} → v ≡ last_frame ss (time - d) → v ≡ fanin_index d ss time
  index_at time q = q ∙ sym (index_last d ss time s)

  -- at frame 0 it is at its own
  pub walk_start : last_frame ss (get_or ts 0 0 - d) ≡ 0
  walk_start = first ts (test_starts ts t)
    where
      first : (ts : List ℕ) → Starts ts → last_frame ss (get_or ts 0 0 - d) ≡ 0
      first [] r = absurd r
      first (t ∷ ts) r = rw r.0 (sym (index_last d ss 0 s))

  module _ (k : ℕ) (h : k + 1 < length ts) where
    pub walk_low : last_frame ss (get_or ts k 0 - d) ≤ last_frame ss (get_or ts (k + 1) 0 - d)
    walk_low = last_mono ss (get_or ts k 0 - d) (get_or ts (k + 1) 0 - d) s (omega (arith, own_next ts t k h))

    -- no time of the fan-in is between the two, less d: that time plus d is one of the gate's
    none_between : Shown d ss ts → (x : ℕ) → among x (drop 1 ss) ≡ true → get_or ts k 0 - d < x → get_or ts (suc k) 0 - d ≤ x
    none_between c zero e l = absurd (omega arith)
    none_between c (suc x) e l = omega (arith, starts_gap ts (test_starts ts t) k (omega arith) (suc x + d) (c.shows x (later_member (suc x) ss e)) (omega arith))

    pub walk_high : Shown d ss ts → last_frame ss (get_or ts (k + 1) 0 - d) ≤ last_frame ss (get_or ts k 0 - d) + 1
    walk_high c =
        rw (add-one k, last_count ss (get_or ts k 0 - d) s, last_count ss (get_or ts (suc k) 0 - d) s)
        (omega (arith, up_to_one 0 (get_or ts k 0 - d) (get_or ts (suc k) 0 - d) (drop 1 ss) (starts_later ss s) (none_between c)))

-- each fan-in of a gate is shown by the gate's times
shown_some : (x : ℕ) (rows : List (List ℕ)) (e : ℕ) → e < length rows → among x (get_or rows e []) ≡ true → among_some x rows ≡ true
shown_some x [] e h q = absurd (omega arith)
shown_some x (ss ∷ rows) zero h q = rw q
shown_some x (ss ∷ rows) (suc e) h q = rw (shown_some x rows e (omega arith) q) (or-true (among x ss))

pub shown : (d : ℕ) (rows : List (List ℕ)) (ts : List ℕ) → ts ≡ gate_times d rows → (e : ℕ) → e < length rows → Shown d (get_or rows e []) ts
unfolding gate_times
shown d rows ts g e h =
    record {
      shows = λ s q.
          rw (g, rising_among (suc s + d) (flat_map (shifted d) rows), all_shifted_among d s rows, shown_some (suc s) rows e h q) (or-true (eqb (suc s + d) 0));
    }

-- fan-in e of the list is net n, and these are its times
module _ (file : List ℕ) (list entries : ℕ) (d t : List ℕ) (e : ℕ) (h : e < entries) {n : ℕ} (q : n ≡ fanin_at file list e) {s : List ℕ} (p : s ≡ part_of d t n) where
  pub shown_at : {delay : ℕ} {ts : List ℕ} → ts ≡ gate_times delay (spans file list entries d t) → Shown delay s ts
  shown_at {delay} {ts} g =
      let there : e < length (spans file list entries d t) = rw (spans_length file list entries d t) h in
      rw (p, q, ← spans_at file list entries d t e h) (shown delay (spans file list entries d t) ts g e there)
