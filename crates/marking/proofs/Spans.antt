-- The verdict in terms of the level at each time. Mark searches frame by frame (specs/Verdict). Here: an expectation is met
-- where the level at every time of its span is the expected one; else the verdict's frame is the frame at the least time of
-- the span where it is not. The frame at a time is the last one not later than it.
-- Why: a frame that breaks an expectation is the frame at some time of the span, and its level differs there; and the frame
-- at a time of the span where the level differs breaks it.
-- Assumes nothing.
use Prim.Native.Nat.{ℕ, zero, suc, ◌+◌, ◌-◌, ◌≤◌, ◌<◌, max}
use mathlib.Core.Path.{◌≡◌, refl, sym, ap, subst, ◌∙◌}
use mathlib.Core.Logic.{◌⊎◌, inl, inr, ◌≢◌}
use mathlib.Core.Bool.{Bool, true, false, not, beq, true≢false}
use mathlib.Core.List.{List, [], ◌∷◌}
use native.Mathlib.Omega.{arith}
use lib.ListN.{length, get_or, drop}
use lib.Dec.{ltb, leb}
use borrow.Author.Tests.{le-leb, leb-true, lt-ltb, ltb-true, not-true}
use Rattle.lists.specs.Every.{Every, none, one}
use Rattle.lists.proofs.Each.{every_first, every_rest}
use Rattle.lists.proofs.Choices.{either, order, and_left, and_right, and_both, beq_true, beq_refl}
use Rattle.method.specs.Indices.{last_frame}
use Rattle.method.specs.Look.{level}
use Rattle.method.specs.Times.{start_and_rise}
use Rattle.method.proofs.Rising.{Rise, Starts, test_starts, starts_drop}
use Rattle.method.proofs.Lasting.{last_mono, last_within, last_is, last_reached, last_next}
use Rattle.expectations.specs.declared.Expectation.{Expectation}
use Rattle.marking.specs.Met.{MetBy, UnmetBy, PlaceBy}
use Rattle.expectations.specs.Verdict.{Verdict, all_met, place, lasts_over, expected, breaks, first_break, verdict_from}

-- ---- what is said of an expectation, where a net has these times, and these levels in a lane

module _ (times : ℕ → List ℕ) (levels : ℕ → ℕ → List Bool) where
  -- at time t the level is the expected one
  abbrev pub LevelAt : Expectation → ℕ → Type 0
  LevelAt e t = level (times e.net.0) (levels e.lane e.net.0) t ≡ expected e

  -- its net's times start at 0 and rise, each has a level, and its span is not empty
  abbrev pub Sound : Expectation → Type 0
  Sound e =
      (start_and_rise (times e.net.0) ≡ true)
      × (length (levels e.lane e.net.0) ≡ length (times e.net.0))
      × (e.from.0 ≤ e.to.0)

-- the times and the levels that two sources have for it are the same
abbrev pub Agreeing : (ℕ → List ℕ) → (ℕ → ℕ → List Bool) → (ℕ → List ℕ) → (ℕ → ℕ → List Bool) → Expectation → Type 0
Agreeing times levels times' levels' e =
    (times e.net.0 ≡ times' e.net.0) × (levels e.lane e.net.0 ≡ levels' e.lane e.net.0)

-- ---- the search, by the frames' numbers

-- frame j breaks the expectation
abbrev breaks_by : Expectation → List ℕ → List Bool → ℕ → Bool
breaks_by e times levels j = breaks e (get_or times j 0) (drop (suc j) times) (get_or levels j false)

-- where no frame does, the list behind decides
breaks_none : (e : Expectation) (i k : ℕ) (times : List ℕ) (levels : List Bool) (behind : Verdict) → ((j : ℕ) → j < length times → breaks_by e times levels j ≡ false) → first_break e i k times levels behind ≡ behind
unfolding first_break
breaks_none e i k [] levels behind f = refl
breaks_none e i k (t ∷ times) [] behind f = refl
breaks_none e i k (t ∷ times) (v ∷ levels) behind f =
    rw (f 0 (omega arith)) (breaks_none e i (suc k) times levels behind (λ j h. f (suc j) (omega arith)))

-- the first that does is the place
breaks_first : (e : Expectation) (i k : ℕ) (times : List ℕ) (levels : List Bool) (behind : Verdict) → length levels ≡ length times → (m : ℕ) → m < length times → breaks_by e times levels m ≡ true → ((j : ℕ) → j < m → breaks_by e times levels j ≡ false) → first_break e i k times levels behind ≡ place i (k + m)
unfolding first_break
breaks_first e i k [] levels behind same m h b f = absurd (omega arith)
breaks_first e i k (t ∷ times) [] behind same m h b f = absurd (omega arith)
breaks_first e i k (t ∷ times) (v ∷ levels) behind same zero h b f = rw b (ap (place i) (omega arith))
breaks_first e i k (t ∷ times) (v ∷ levels) behind same (suc m) h b f =
    rw (f 0 (omega arith)) (breaks_first e i (suc k) times levels behind (omega arith) m (omega arith) b (λ j l. f (suc j) (omega arith)) ∙ ap (place i) (omega arith))

-- ---- a frame breaks where the level at some time of its own differs

lasts_to : (from to t : ℕ) (later : List ℕ) → lasts_over from to t later ≡ true → t ≤ to
lasts_to from to t [] e = leb-true t to e
lasts_to from to t (next ∷ later) e = leb-true t to (and_left (leb t to) (ltb from next) e)

lasts_from : (from to t : ℕ) (later : List ℕ) → lasts_over from to t later ≡ true → 0 < length later → from < get_or later 0 0
lasts_from from to t [] e h = absurd (omega arith)
lasts_from from to t (next ∷ later) e h = ltb-true from next (and_right (leb t to) (ltb from next) e)

lasts_yes : (from to t : ℕ) (later : List ℕ) → t ≤ to → (0 < length later → from < get_or later 0 0) → lasts_over from to t later ≡ true
lasts_yes from to t [] h g = le-leb t to h
lasts_yes from to t (next ∷ later) h g = and_both (leb t to) (ltb from next) (le-leb t to h) (lt-ltb from next (g (omega arith)))

-- the times behind frame j begin with that of frame j + 1
later_first : (times : List ℕ) (j : ℕ) → get_or (drop (suc j) times) 0 0 ≡ get_or times (suc j) 0
later_first [] j = refl
later_first (t ∷ times) zero = refl
later_first (t ∷ times) (suc j) = later_first times j

later_some : (times : List ℕ) (j : ℕ) → suc j < length times → 0 < length (drop (suc j) times)
later_some [] j h = absurd (omega arith)
later_some (t ∷ times) zero h = omega arith
later_some (t ∷ times) (suc j) h = later_some times j (omega arith)

some_later : (times : List ℕ) (j : ℕ) → 0 < length (drop (suc j) times) → suc j < length times
some_later [] j h = absurd (omega arith)
some_later (t ∷ times) zero h = omega arith
some_later (t ∷ times) (suc j) h = omega (arith, some_later times j h)

-- the test for another level
other_true : (a b : Bool) → not (beq a b) ≡ true → a ≢ b
other_true a b e q = true≢false (sym (rw q (beq_refl b)) ∙ not-true (beq a b) e)

true_other : (a b : Bool) → a ≢ b → not (beq a b) ≡ true
true_other true true h = absurd (h refl)
true_other true false h = refl
true_other false true h = refl
true_other false false h = absurd (h refl)

rise_first : (p : ℕ) (ts : List ℕ) → Rise p ts → 0 < length ts → p < get_or ts 0 0
rise_first p [] r h = absurd (omega arith)
rise_first p (t ∷ ts) r h = r.0

-- a frame that lasts over some time of the span is the frame at the later of `from` and its own time
start_frame : (times : List ℕ) → Starts times → (from to j : ℕ) → j < length times → lasts_over from to (get_or times j 0) (drop (suc j) times) ≡ true → last_frame times (max from (get_or times j 0)) ≡ j
start_frame times r from to j h lasts = last_is times (max from own) r j h (omega arith) (λ l. before (later_some times j l))
  where
    own : ℕ
    own = get_or times j 0

    before : 0 < length (drop (suc j) times) → max from own < get_or times (suc j) 0
    before some =
        omega (arith, later_first times j, lasts_from from to own (drop (suc j) times) lasts some, rise_first own (drop (suc j) times) (starts_drop times r j h) some)

module _ (times : List ℕ) (levels : List Bool) (e : Expectation) where
  -- j is the frame at some time of the span where the level differs
  record Differing (j : ℕ) : Type 0 where
    time : ℕ
    since : e.from.0 ≤ time
    until : time ≤ e.to.0
    differs : level times levels time ≢ expected e
    frame : last_frame times time ≡ j

  -- so is every frame that breaks
  breaking_differs : Starts times → e.from.0 ≤ e.to.0 → (j : ℕ) → j < length times → breaks_by e times levels j ≡ true → Differing j
  unfolding breaks
  breaking_differs r span j h b =
      record {
        time = max e.from.0 (get_or times j 0);
        since = omega arith;
        until = omega (arith, lasts_to e.from.0 e.to.0 (get_or times j 0) (drop (suc j) times) lasts);
        differs = rw is (other_true (get_or levels j false) (expected e) (and_left other over b));
        frame = is;
      }
    where
      other : Bool
      other = not (beq (get_or levels j false) (expected e))

      over : Bool
      over = lasts_over e.from.0 e.to.0 (get_or times j 0) (drop (suc j) times)

      lasts : over ≡ true
      lasts = and_right other over b

      is : last_frame times (max e.from.0 (get_or times j 0)) ≡ j
      is = start_frame times r e.from.0 e.to.0 j h lasts

  -- and the frame at such a time breaks
  differing_breaks : Starts times → (t : ℕ) → e.from.0 ≤ t → t ≤ e.to.0 → level times levels t ≢ expected e → breaks_by e times levels (last_frame times t) ≡ true
  unfolding breaks
  differing_breaks r t since until d = and_both (not (beq (get_or levels k false) (expected e))) (lasts_over e.from.0 e.to.0 own later) other lasts
    where
      k : ℕ
      k = last_frame times t

      own : ℕ
      own = get_or times k 0

      later : List ℕ
      later = drop (suc k) times

      other : not (beq (get_or levels k false) (expected e)) ≡ true
      other = true_other (get_or levels k false) (expected e) d

      before : 0 < length later → e.from.0 < get_or later 0 0
      before some = omega (arith, last_next times t r (some_later times k some), later_first times k)

      lasts : lasts_over e.from.0 e.to.0 own later ≡ true
      lasts = lasts_yes e.from.0 e.to.0 own later (omega (arith, last_reached times t r)) before

-- ---- the least time that differs

-- the first of n numbers, from `from` on, that fails the test
record First (test : ℕ → Bool) (from n : ℕ) : Type 0 where
  number : ℕ
  since : from ≤ number
  within : number < from + n
  fails : test number ≡ false
  least : (t : ℕ) → from ≤ t → t < number → test t ≡ true

all_or_first : (test : ℕ → Bool) (from n : ℕ) → ((t : ℕ) → from ≤ t → t < from + n → test t ≡ true) ⊎ First test from n
all_or_first test from zero = inl (λ t h l. absurd (omega arith))
all_or_first test from (suc n) = elim (all_or_first test from n) [ inl all ↦ at_end all (either (test (from + n))) | inr f ↦ inr (wider f) ]
  where
    at_end : ((t : ℕ) → from ≤ t → t < from + n → test t ≡ true) → (test (from + n) ≡ true) ⊎ (test (from + n) ≡ false) → ((t : ℕ) → from ≤ t → t < from + suc n → test t ≡ true) ⊎ First test from (suc n)
    at_end all (inl e) =
        inl (λ t h l. elim (order (from + n) t) [ inl k ↦ rw (let q : t ≡ from + n = omega arith in q) e | inr k ↦ all t h k ])
    at_end all (inr e) = inr (record { number = from + n; since = omega arith; within = omega arith; fails = e; least = all })

    wider : First test from n → First test from (suc n)
    wider f = record { number = f.number; since = f.since; within = omega (arith, f.within); fails = f.fails; least = f.least }

module _ (times : ℕ → List ℕ) (levels : ℕ → ℕ → List Bool) (e : Expectation) where
  -- the times of its net, and the levels there in its lane
  abbrev ts : List ℕ
  ts = times e.net.0

  abbrev vs : List Bool
  vs = levels e.lane e.net.0

  -- met at each time, or broken by some frame
  met_or_not : MetBy (LevelAt times levels) e ⊎ ((k : ℕ) × UnmetBy (LevelAt times levels) times e k)
  met_or_not =
      elim (all_or_first test e.from.0 n) [
        | inl all ↦ inl (λ t since until. same t (all t since (omega arith)))
        | inr f ↦ inr (
          last_frame ts f.number,
          record {
            time = f.number;
            since = f.since;
            until = omega (arith, f.within, f.since);
            differs = λ q. true≢false (sym (rw q (beq_refl (expected e))) ∙ f.fails);
            least = λ t since before. same t (f.least t since before);
            frame = refl;
          },
        )
      ]
    where
      test : ℕ → Bool
      test t = beq (level ts vs t) (expected e)

      n : ℕ
      n = suc e.to.0 - e.from.0

      same : (t : ℕ) → test t ≡ true → level ts vs t ≡ expected e
      same t q = beq_true (level ts vs t) (expected e) q

  -- ---- the search against the levels

  module _ (s : Sound times levels e) where
    starts : Starts ts
    starts = test_starts ts s.0

    -- an expectation that is met leaves the verdict to the list behind it. Of an empty span this is not so: the search asks
    -- only whether a frame begins by `to` and ends behind `from`
    met_behind : MetBy (LevelAt times levels) e → (i : ℕ) (behind : Verdict) → first_break e i 0 ts vs behind ≡ behind
    met_behind met i behind = breaks_none e i 0 ts vs behind (λ j h. unbroken j h (either (breaks_by e ts vs j)))
      where
        unbroken : (j : ℕ) → j < length ts → (breaks_by e ts vs j ≡ true) ⊎ (breaks_by e ts vs j ≡ false) → breaks_by e ts vs j ≡ false
        unbroken j h (inl b) =
            let d : Differing ts vs e j = breaking_differs ts vs e starts s.2 j h b in
            absurd (d.differs (met d.time d.since d.until))
        unbroken j h (inr b) = b

    -- one that is not has its place here: a frame before the one at the least differing time is the frame at earlier times
    -- alone, where no level differs, so it does not break
    unmet_place : (k : ℕ) → UnmetBy (LevelAt times levels) times e k → (i : ℕ) (behind : Verdict) → first_break e i 0 ts vs behind ≡ place i k
    unmet_place k b i behind =
        breaks_first e i 0 ts vs behind s.1 m (last_within ts b.time starts) (differing_breaks ts vs e starts b.time b.since b.until b.differs) (λ j l. earlier j l (either (breaks_by e ts vs j)))
        ∙ ap (place i) (omega (arith, b.frame))
      where
        m : ℕ
        m = last_frame ts b.time

        earlier : (j : ℕ) → j < m → (breaks_by e ts vs j ≡ true) ⊎ (breaks_by e ts vs j ≡ false) → breaks_by e ts vs j ≡ false
        earlier j l (inl q) =
            let d : Differing ts vs e j = breaking_differs ts vs e starts s.2 j (omega (arith, last_within ts b.time starts)) q in
            elim (order b.time d.time) [
              | inl h ↦ absurd (omega (arith, last_mono ts b.time d.time starts h, d.frame))
              | inr h ↦ absurd (d.differs (b.least d.time d.since h))
            ]
        earlier j l (inr q) = q

-- ---- the verdict on a list

-- a verdict's parts, 0 where all is met
abbrev position_in : Verdict → ℕ
position_in all_met = 0
position_in (place p k) = p

abbrev frame_in : Verdict → ℕ
frame_in all_met = 0
frame_in (place p k) = k

abbrev IsMet : Verdict → Type 0
IsMet all_met = Unit {0}
IsMet (place p k) = ⊥

-- all met is no place
met_no_place : {p k : ℕ} → all_met ≡ place p k → ⊥
met_no_place q = subst IsMet q tt

place_position : {p k p' k' : ℕ} → place p k ≡ place p' k' → p ≡ p'
place_position q = ap position_in q

place_frame : {p k p' k' : ℕ} → place p k ≡ place p' k' → k ≡ k'
place_frame q = ap frame_in q

module _ (times : ℕ → List ℕ) (levels : ℕ → ℕ → List Bool) where
  -- the first is met: the rest decides
  verdict_met : (i : ℕ) (e : Expectation) (list : List Expectation) → Sound times levels e → MetBy (LevelAt times levels) e → verdict_from times levels i (e ∷ list) ≡ verdict_from times levels (suc i) list
  unfolding verdict_from
  verdict_met i e list s m = met_behind times levels e s m i (verdict_from times levels (suc i) list)

  -- it is not: the verdict is its place
  verdict_place : (i : ℕ) (e : Expectation) (list : List Expectation) → Sound times levels e → (k : ℕ) → UnmetBy (LevelAt times levels) times e k → verdict_from times levels i (e ∷ list) ≡ place i k
  unfolding verdict_from
  verdict_place i e list s k b = unmet_place times levels e s k b i (verdict_from times levels (suc i) list)

  -- where each is met, the verdict says so
  pub every_met : (i : ℕ) (list : List Expectation) → Every (Sound times levels) list → Every (MetBy (LevelAt times levels)) list → verdict_from times levels i list ≡ all_met
  unfolding verdict_from
  every_met i [] s k = refl
  every_met i (e ∷ list) s k = verdict_met i e list (every_first s) (every_first k) ∙ every_met (suc i) list (every_rest s) (every_rest k)

  -- and where the verdict says so, each is met
  pub met_every : (i : ℕ) (list : List Expectation) → Every (Sound times levels) list → verdict_from times levels i list ≡ all_met → Every (MetBy (LevelAt times levels)) list
  met_every i [] s q = none
  met_every i (e ∷ list) s q =
      elim (met_or_not times levels e) [
        | inl m ↦ one m (met_every (suc i) list (every_rest s) (sym (verdict_met i e list (every_first s) m) ∙ q))
        | inr b ↦ absurd (met_no_place (sym q ∙ verdict_place i e list (every_first s) b.0 b.1))
      ]

  -- a place is that of the first expectation that is not met, and of the frame that breaks it; the list begins at position i
  pub place_found : (i : ℕ) (list : List Expectation) {p k : ℕ} → Every (Sound times levels) list → verdict_from times levels i list ≡ place p k
      → (q : ℕ) × (p ≡ i + q) × PlaceBy (LevelAt times levels) times list q k
  unfolding verdict_from
  place_found i [] s v = absurd (met_no_place v)
  place_found i (e ∷ list) {p} {k} s v =
      elim (met_or_not times levels e) [
        | inl m ↦ later m (place_found (suc i) list (every_rest s) (sym (verdict_met i e list (every_first s) m) ∙ v))
        | inr b ↦ here b.0 b.1 (sym (verdict_place i e list (every_first s) b.0 b.1) ∙ v)
      ]
    where
      later : MetBy (LevelAt times levels) e → (q : ℕ) × (p ≡ suc i + q) × PlaceBy (LevelAt times levels) times list q k
          → (q : ℕ) × (p ≡ i + q) × PlaceBy (LevelAt times levels) times (e ∷ list) q k
      later m r =
          let f = r.2 in (
            suc r.0,
            omega (arith, r.1),
            record {
              before = e ∷ f.before;
              expectation = f.expectation;
              behind = f.behind;
              splits = ap (λ (es : List Expectation). e ∷ es) f.splits;
              position = omega (arith, f.position);
              met = one m f.met;
              unmet = f.unmet;
            },
          )

      here : (n : ℕ) → UnmetBy (LevelAt times levels) times e n → place i n ≡ place p k → (q : ℕ) × (p ≡ i + q) × PlaceBy (LevelAt times levels) times (e ∷ list) q k
      here n b w = (
        0,
        omega (arith, place_position w),
        record {
          before = [];
          expectation = e;
          behind = list;
          splits = refl;
          position = refl;
          met = none;
          unmet = subst (UnmetBy (LevelAt times levels) times e) (place_frame w) b;
        },
      )

-- the verdict asks of a source no more than the times and the levels of the expectations' nets
pub verdict_ext : (times : ℕ → List ℕ) (levels : ℕ → ℕ → List Bool) (times' : ℕ → List ℕ) (levels' : ℕ → ℕ → List Bool) (i : ℕ) (list : List Expectation) → Every (Agreeing times levels times' levels') list → verdict_from times levels i list ≡ verdict_from times' levels' i list
unfolding verdict_from
verdict_ext times levels times' levels' i [] a = refl
verdict_ext times levels times' levels' i (e ∷ list) a =
    rw ((every_first a).0, (every_first a).1, verdict_ext times levels times' levels' (suc i) list (every_rest a))
