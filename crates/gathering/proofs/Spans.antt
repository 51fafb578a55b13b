-- The times of nets that are planned already, read from the areas.
-- Assumes nothing.
use Prim.Native.Nat.{ℕ, zero, suc, ◌+◌, ◌*◌, ◌<◌, ◌≤◌}
use mathlib.Core.Path.{◌≡◌, ap, ◌∙◌}
use mathlib.Core.Bool.{true, false≢true}
use mathlib.Core.List.{List, [], ◌∷◌}
use native.Mathlib.Omega.{arith}
use native.Mathlib.Nat.{add_assoc}
use native.Mathlib.Numerals.{add-one}
use lib.ListN.{length, get_or, take, drop, length-map, length-drop, drop_of_length-le, get_or-map}
use lib.Seq.{length-take-le, drop-cons, get_or-drop}
use Rattle.lists.specs.Tables.{tabulate}
use Rattle.lists.proofs.Tabled.{from_length, tabulate_at}
use Rattle.lists.proofs.ByNumber.{get_d_any}
use Rattle.method.specs.Times.{start_and_rise}
use Rattle.method.proofs.Rising.{Rise, Starts, test_starts, starts_drop}
use Rattle.editions.specs.declared.GateRecord.{GateRecord}
use Rattle.circuit.specs.File.{fanin_at}
use Rattle.circuit.specs.Limits.{most_time}
use Rattle.method.specs.Limits.{most_net_frames}
use Rattle.method.specs.Layout.{part_of}
use Rattle.gathering.specs.Steps.{Fed, Span, spans}

-- ---- one net

-- it has a time
pub own_some : (ts : List ℕ) → start_and_rise ts ≡ true → 1 ≤ length ts
own_some [] e = absurd (false≢true e)
own_some (t ∷ ts) e = omega arith

-- the next of them is no earlier
pub own_next : (ts : List ℕ) → start_and_rise ts ≡ true → (k : ℕ) → k + 1 < length ts → get_or ts k 0 ≤ get_or ts (k + 1) 0
own_next ts e k h =
    let r : Rise (get_or ts k 0) (get_or ts (suc k) 0 ∷ drop (suc (suc k)) ts) = rw (drop-cons ts (suc k) 0 (omega arith)) at (starts_drop ts (test_starts ts e) k (omega arith)) in
    rw (add-one k) (omega (arith, r.0))

-- and so from frame 1 on
pub later_next : (ts : List ℕ) → start_and_rise ts ≡ true → {part : List ℕ} → part ≡ drop 1 ts → (k : ℕ) → k + 1 < length part → get_or part k 0 ≤ get_or part (k + 1) 0
later_next ts e {part} p k h =
    let long : 1 + k + 1 < length ts = omega (arith, rw (p, length-drop) at h) in
    rw (p, get_or-drop 1 ts k 0, get_or-drop 1 ts (k + 1) 0, ← add_assoc) (own_next ts e (1 + k) long)

take_early : (b m : ℕ) (l : List ℕ) → ((k : ℕ) → get_or l k 0 ≤ b) → (k : ℕ) → get_or (take m l) k 0 ≤ b
take_early b zero l e k = omega arith
take_early b (suc m) [] e k = omega arith
take_early b (suc m) (x ∷ xs) e zero = e 0
take_early b (suc m) (x ∷ xs) e (suc k) = take_early b m xs (λ i. e (suc i)) k

-- ---- the fan-ins of a gate

module _ (file : List ℕ) (list entries : ℕ) (d t : List ℕ) where
  pub spans_length : length (spans file list entries d t) ≡ entries
  spans_length = length-map (tabulate entries (fanin_at file list)) (part_of d t) ∙ from_length entries 0 (fanin_at file list)

  -- none is left
  pub spans_end : (e : ℕ) → entries ≤ e → length (spans file list entries d t) ≤ e
  spans_end e h = rw spans_length h

  pub spans_at : (e : ℕ) → e < entries → get_or (spans file list entries d t) e [] ≡ part_of d t (fanin_at file list e)
  spans_at e h =
      get_d_any (spans file list entries d t) e [] (part_of d t 0) (rw spans_length h)
      ∙ get_or-map (part_of d t) (tabulate entries (fanin_at file list)) e 0
      ∙ rw (tabulate_at entries (fanin_at file list) 0 e h)

-- fan-in e of the list is net n, and these are its times
module _ (file : List ℕ) (list entries : ℕ) (d t : List ℕ) (e : ℕ) (h : e < entries) {n : ℕ} (q : n ≡ fanin_at file list e) {s : List ℕ} (p : s ≡ part_of d t n) where
  -- it is the next, where e are done
  pub next_at : drop e (spans file list entries d t) ≡ s ∷ drop (e + 1) (spans file list entries d t)
  next_at =
      drop-cons (spans file list entries d t) e [] (rw (spans_length file list entries d t) h)
      ∙ rw (spans_at file list entries d t e h, p, q, add-one e)

-- a list of two entries
pub two_spans : (file : List ℕ) (list entries : ℕ) (d t : List ℕ) → entries ≡ 2 → {m n : ℕ} → m ≡ fanin_at file list 0 → n ≡ fanin_at file list 1 → {xs ys : List ℕ} → xs ≡ part_of d t m → ys ≡ part_of d t n → spans file list entries d t ≡ xs ∷ ys ∷ []
two_spans file list entries d t e p q {xs} {ys} x y =
    let none : drop 2 (spans file list entries d t) ≡ [] = drop_of_length-le (spans file list entries d t) {i = 2} (omega (arith, spans_length file list entries d t)) in
    next_at file list entries d t 0 (omega arith) p x
    ∙ ap (λ (l : List (List ℕ)). xs ∷ l) (next_at file list entries d t 1 (omega arith) q y ∙ ap (λ (l : List (List ℕ)). ys ∷ l) none)

pub spans_start : {file : List ℕ} {g : GateRecord} {d t : List ℕ} → Fed file g d t → (e : ℕ) → e < length (spans file g.list g.entries d t) → Starts (get_or (spans file g.list g.entries d t) e [])
spans_start {file} {g} {d} {t} f e l =
    let h : e < g.entries = rw (spans_length file g.list g.entries d t) at l in
    rw (spans_at file g.list g.entries d t e h) (test_starts (part_of d t (fanin_at file g.list e)) (f.starts e h))

-- fan-in e is net n
module _ {file : List ℕ} {g : GateRecord} {d t : List ℕ} (f : Fed file g d t) (e : ℕ) (h : e < g.entries) {n : ℕ} (q : n ≡ fanin_at file g.list e) where
  pub fanin_few : length (part_of d t n) ≤ most_net_frames
  unfolding part_of
  fanin_few =
      rw (q, length-take-le (get_or d (2 * fanin_at file g.list e + 1) 0) (drop (get_or d (2 * fanin_at file g.list e) 0) t) (rw length-drop (omega (arith, f.inside e h)))) (f.few e h)

  pub fanin_early : (i : ℕ) → get_or (part_of d t n) i 0 ≤ most_time
  unfolding part_of
  fanin_early i =
      take_early most_time (get_or d (2 * n + 1) 0) (drop (get_or d (2 * n) 0) t) (λ k. rw (get_or-drop (get_or d (2 * n) 0) t k 0) (f.early (get_or d (2 * n) 0 + k))) i

  pub fanin_span : Span (part_of d t n)
  fanin_span = record { starts = rw q (f.starts e h); few = fanin_few; early = fanin_early }
