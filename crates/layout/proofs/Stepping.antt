-- One gate more: what its functions ask, and that what they leave is the plan with that gate.
-- Assumes nothing.
use Prim.Native.Nat.{ℕ, zero, suc, ◌+◌, ◌-◌, ◌*◌, ◌≤◌, ◌<◌, max}
use mathlib.Core.Path.{◌≡◌, refl, sym, ap, ap₂, ◌∙◌}
use mathlib.Core.Bool.{true, false}
use mathlib.Core.List.{List, [], ◌∷◌, ◌++◌, map, flat_map}
use native.Mathlib.Omega.{arith}
use lib.ListN.{length, get_or, take, drop, length-append}
use lib.Seq.{sets, get_or-append_seam}
use Rattle.lists.specs.Tables.{tabulate_from}
use Rattle.method.specs.Kinds.{most_fanins}
use Rattle.method.specs.Circuit.{Gate, gate_at}
use Rattle.method.specs.Times.{gate_times}
use Rattle.method.specs.Indices.{inertial_indices}
use Rattle.method.specs.Frames.{Frames, fanin_row, no_frames}
use Rattle.method.proofs.Rising.{Starts, starts_test, gate_times_start}
use Rattle.method.proofs.Planned.{times_start}
use Rattle.method.proofs.Changes.{Suited, suited}
use Rattle.editions.specs.declared.GateRecord.{GateRecord}
use Rattle.circuit.specs.File.{inputs_of, gates_of, fanin_at, record_of}
use Rattle.circuit.specs.Limits.{most_time}
use Rattle.circuit.specs.Task.{Task, circuit_in, moments_in}
use Rattle.circuit.proofs.Parts.{gates_length, gate_from, circuit_inputs, circuit_within, few, within, gate_read, gate_entries}
use Rattle.method.specs.declared.Totals.{Totals}
use Rattle.method.specs.Limits.{most_net_frames, most_total_frames}
use Rattle.method.specs.Areas.{Areas}
use Rattle.method.specs.Layout.{all_times, all_fanins, part_of}
use Rattle.method.specs.Sums.{fits, latest, totals_of}
use Rattle.method.specs.First.{first_gates, Room}
use Rattle.framing.specs.Steps.{Place, Stored}
use Rattle.gathering.specs.Steps.{Put, spans, Fed, Span}
use Rattle.layout.specs.Steps.{frames_of, Given, Going, Counted, Reached}
use Rattle.gathering.proofs.Inserting.{front}
use Rattle.gathering.proofs.Spans.{own_some}
use Rattle.method.proofs.Laying.{Spot, spot_at, low_area, times_snoc, total_more, fanins_more, Behind, laid_snoc}
use Rattle.method.proofs.Prefix.{fanin_times, next_frames, next_times, next_inertial, next_rows, next_even, next_count}
use Rattle.method.proofs.Fitting.{fits_total, fits_net, fits_more, fits_over}
use Rattle.layout.proofs.Accepted.{nets_sized, nets_count, nets_next, frames_early}
use Rattle.method.proofs.Latest.{latest_append, latest_is}
use Rattle.std.specs.Prelude.{Option, Some, None}

-- ---- the times of a gate, counted

module _ {row : List ℕ} (d : ℕ) (ss : List (List ℕ)) {n : ℕ} (p : Put row (gate_times d ss) (1 + most_fanins * most_net_frames) n) (first : ℕ) where
  pub counted_over : (n ≤ most_net_frames → n ≤ most_total_frames - first → ⊥) → Counted row (gate_times d ss) first None
  counted_over h = record { front = λ m e. absurd cc; few = λ m e. absurd cc; left = λ m e. absurd cc; over = λ e a b. h (omega (arith, p.size)) (omega (arith, p.size)) }

  pub counted_kept : n ≤ most_net_frames → n ≤ most_total_frames - first → Counted row (gate_times d ss) first (Some n)
  counted_kept few left =
      let same : (m : ℕ) → ◌≡◌ {A = Option ℕ} (Some n) (Some m) → n ≡ m = λ m e. cc in
      record { front = λ m e. rw (← same m e) p; few = λ m e. rw (← same m e) few; left = λ m e. rw (← same m e) left; over = λ e a b. cc }

-- ---- what is known of gate j and its net, in two stages

-- own are the gate's times, not too many: there is room for them, and the areas in which they are stored hold the plan with
-- this gate
pub record Stays (task : Task) (net j : ℕ) (a : Areas) (t : Totals) (g : GateRecord) (own : List ℕ) : Type 0 where
  pub times : Span own
  pub gathered : own ≡ gate_times g.delay (spans task.file g.list g.entries a.directory a.times)
  pub place : Place a net t (length own) g.entries
  pub stepped : {a' : Areas} {t' : Totals} → Stored a a' net t t' g.entries own (inertial_indices g.inertial own) (flat_map (fanin_row g.delay (spans task.file g.list g.entries a.directory a.times)) own)
      → Going task (j + 1) a' t'

-- g is the gate's record
pub record Step (task : Task) (net j : ℕ) (a : Areas) (t : Totals) (g : GateRecord) : Type 0 where
  pub fed : Fed task.file g a.directory a.times
  pub frames_low : t.frames ≤ most_total_frames
  -- its times, as they were counted
  pub over : {row : List ℕ} → Counted row (gate_times g.delay (spans task.file g.list g.entries a.directory a.times)) t.frames None → fits (frames_of task (j + 1)) ≡ false
  -- as the code lends them: the first n gathered
  pub stays : {row : List ℕ} {n : ℕ} → Counted row (gate_times g.delay (spans task.file g.list g.entries a.directory a.times)) t.frames (Some n) → Stays task net j a t g (take (n - 0) (drop 0 row))

-- ---- and why it holds

module _ (task : Task) {a : Areas} (given : Given task a) (j : ℕ) (l : j < gates_of task.file) {net : ℕ} (own-net : net ≡ inputs_of task.file + j)
    {t : Totals} (go : Going task j a t) {g : GateRecord} (ge : g ≡ record_of task.file j) where
  change_times_lem : Suited (inputs_of task.file) task.schedule
  change_times_lem = suited (inputs_of task.file) task.schedule given.suits

  frames_sum : t.frames ≡ length (all_times (frames_of task j))
  unfolding totals_of
  frames_sum = ap (λ (x : Totals). x.frames) go.totals

  fanins_sum : t.fanins ≡ length (all_fanins (frames_of task j))
  unfolding totals_of
  fanins_sum = ap (λ (x : Totals). x.fanins) go.totals

  last_is : t.last.0 ≡ latest (all_times (frames_of task j))
  unfolding totals_of
  last_is = ap (λ (x : Totals). x.last.0) go.totals

  frames_low : t.frames ≤ most_total_frames
  frames_low = omega (arith, frames_sum, fits_total (frames_of task j) go.fit)

  -- the nets so far

  count : length (frames_of task j) ≡ inputs_of task.file + j
  count = nets_count task given.read j (omega arith)

  room : Room (frames_of task j) a
  room = given.room j (omega arith) go.fit

  at : (n : ℕ) → n < inputs_of task.file + j → Spot a.directory a.times n (length (all_times (frames_of task j))) (get_or (frames_of task j) n no_frames).times
  at n h = spot_at (frames_of task j) go.is n (omega (arith, count))

  early : (n : ℕ) → n < inputs_of task.file + j → (k : ℕ) → get_or (get_or (frames_of task j) n no_frames).times k 0 ≤ most_time
  early n h = frames_early (circuit_in task) (circuit_within task.file given.read) (moments_in task) change_times_lem.early j (omega (arith, gates_length task.file)) n (omega (arith, circuit_inputs task.file))

  -- the gate's fan-ins

  below : (e : ℕ) → e < g.entries → fanin_at task.file g.list e < inputs_of task.file + j
  below = rw ge (within task.file given.read j l).below

  fed : Fed task.file g a.directory a.times
  fed =
      let w = within task.file given.read j l in
      record {
        delay_least = rw ge w.delay_least;
        delay_most = rw ge w.delay_most;
        inertial_most = rw ge w.inertial_most;
        entries_most = rw ge w.entries_most;
        listed = rw ge w.listed;
        pair = λ e h. omega (arith, below e h, count, room.directory);
        inside = λ e h. omega (arith, (at (fanin_at task.file g.list e) (below e h)).ends, room.times);
        few = λ e h. omega (arith, (at (fanin_at task.file g.list e) (below e h)).size, fits_net (frames_of task j) go.fit (fanin_at task.file g.list e));
        starts = λ e h.
            rw (at (fanin_at task.file g.list e) (below e h)).times
            (starts_test (get_or (frames_of task j) (fanin_at task.file g.list e) no_frames).times (times_start (first_gates j (circuit_in task)) (moments_in task) change_times_lem.ordered (fanin_at task.file g.list e)));
        early = low_area most_time (frames_of task j) go.is (λ n h. early n (omega (arith, count)));
      }

  -- their spans are the times of their frames
  spans_from : (list n m : ℕ) → ((k : ℕ) → m ≤ k → k < m + n → fanin_at task.file list k < inputs_of task.file + j)
      → map (part_of a.directory a.times) (tabulate_from n m (fanin_at task.file list))
      ≡ map (λ (f : Frames). f.times) (map (λ (k : ℕ). get_or (frames_of task j) k no_frames) (tabulate_from n m (fanin_at task.file list)))
  unfolding tabulate_from
  spans_from list zero m h = refl
  spans_from list (suc n) m h = ap₂ ◌∷◌ (at (fanin_at task.file list m) (h m (omega arith) (omega arith))).times (spans_from list n (suc m) (λ k x y. h k (omega arith) (omega arith)))

  read : gate_at (circuit_in task) j ≡ gate_from task.file g
  read = rw ge (gate_read task.file given.read j l)

  spans_are : spans task.file g.list g.entries a.directory a.times ≡ fanin_times (circuit_in task) (moments_in task) j
  spans_are = rw read (spans_from g.list g.entries 0 (λ k x y. below k (omega arith)))

  -- the gate's own times

  own_times : gate_times g.delay (spans task.file g.list g.entries a.directory a.times) ≡ (next_frames (circuit_in task) (moments_in task) j).times
  own_times = ap₂ gate_times (ap (λ (x : Gate). x.delay) (sym read)) spans_are ∙ sym (next_times (circuit_in task) (moments_in task) j)

  own_starts : Starts (next_frames (circuit_in task) (moments_in task) j).times
  own_starts = rw (next_times (circuit_in task) (moments_in task) j) (gate_times_start (gate_at (circuit_in task) j).delay (fanin_times (circuit_in task) (moments_in task) j))

  own_early : (k : ℕ) → get_or (next_frames (circuit_in task) (moments_in task) j).times k 0 ≤ most_time
  own_early k =
      let e = frames_early (circuit_in task) (circuit_within task.file given.read) (moments_in task) change_times_lem.early (j + 1) (omega (arith, gates_length task.file)) (inputs_of task.file + j) (omega (arith, circuit_inputs task.file)) k in
      rw (nets_next task given.read j l, ← count, get_or-append_seam (frames_of task j) (next_frames (circuit_in task) (moments_in task) j) [] no_frames) at e

  -- as gate_times left them
  module _ {row : List ℕ} {most n : ℕ} (p : Put row (gate_times g.delay (spans task.file g.list g.entries a.directory a.times)) most n) where
    own_is : take (n - 0) (drop 0 row) ≡ (next_frames (circuit_in task) (moments_in task) j).times
    own_is = front row n ∙ p.is ∙ own_times

    n_is : length (next_frames (circuit_in task) (moments_in task) j).times ≡ n
    n_is = rw (← own_times) p.size

    module _ (small : n ≤ most_net_frames) (left : n ≤ most_total_frames - t.frames) where
      fit_next : fits (frames_of task j ++ (next_frames (circuit_in task) (moments_in task) j ∷ [])) ≡ true
      fit_next = fits_more (frames_of task j) (next_frames (circuit_in task) (moments_in task) j) go.fit (omega (arith, n_is)) (omega (arith, n_is, frames_low, frames_sum))

      room_next : Room (frames_of task j ++ (next_frames (circuit_in task) (moments_in task) j ∷ [])) a
      room_next = rw (nets_next task given.read j l) at (given.room (j + 1) (omega arith) (rw (nets_next task given.read j l) fit_next))

      total_next : length (all_times (frames_of task j ++ (next_frames (circuit_in task) (moments_in task) j ∷ []))) ≡ t.frames + n
      total_next = omega (arith, total_more (frames_of task j) (next_frames (circuit_in task) (moments_in task) j), n_is, frames_sum)

      fanins_next : length (all_fanins (frames_of task j ++ (next_frames (circuit_in task) (moments_in task) j ∷ []))) ≡ t.fanins + n * g.entries
      fanins_next =
          fanins_more (frames_of task j) (next_frames (circuit_in task) (moments_in task) j)
          ∙ ap₂ ◌+◌ (sym fanins_sum) (next_count (circuit_in task) (moments_in task) j ∙ ap₂ ◌*◌ n_is (gate_entries task.file given.read j l ∙ ap (λ (x : GateRecord). x.entries) (sym ge)))

      place : Place a net t n g.entries
      place =
          let w : length (all_fanins (frames_of task j ++ (next_frames (circuit_in task) (moments_in task) j ∷ []))) ≤ most_fanins * length (all_times (frames_of task j ++ (next_frames (circuit_in task) (moments_in task) j ∷ []))) =
          rw (nets_next task given.read j l) at (nets_sized task given.read (j + 1) (omega arith)).wide in
          record {
            slot =
                record {
                  directory = omega (arith, own-net, room_next.directory, length-append (frames_of task j) (next_frames (circuit_in task) (moments_in task) j ∷ []), count);
                  times = omega (arith, room_next.times, total_next);
                  few_frames = omega (arith, frames_low);
                  few_fanins = omega (arith, fanins_next, total_next, frames_low);
                };
            inertial = omega (arith, room_next.inertial, total_next);
            fanins = omega (arith, room_next.fanins, fanins_next);
          }

      own_length : length (take (n - 0) (drop 0 row)) ≡ n
      own_length = ap length own_is ∙ n_is

      times : Span (take (n - 0) (drop 0 row))
      times =
          record {
            starts = rw own_is (starts_test (next_frames (circuit_in task) (moments_in task) j).times own_starts);
            few = omega (arith, own_length);
            early = λ k. rw own_is (own_early k);
          }

      -- what stands there after the gate is stored
      module _ {a' : Areas} {t' : Totals} (st : Stored a a' net t t' g.entries (take (n - 0) (drop 0 row)) (inertial_indices g.inertial (take (n - 0) (drop 0 row))) (flat_map (fanin_row g.delay (spans task.file g.list g.entries a.directory a.times)) (take (n - 0) (drop 0 row)))) where
        behind : Behind (frames_of task j) (next_frames (circuit_in task) (moments_in task) j) a a'
        behind =
            let even = (nets_sized task given.read j (omega arith)).even in
            let d : a'.directory ≡ sets a.directory (2 * net) (t.frames ∷ length (next_frames (circuit_in task) (moments_in task) j).times ∷ []) = rw (← own_is) st.timed.directory_is in
            record {
              directory = rw (count, ← own-net, ← frames_sum) d;
              times = rw (← frames_sum, ← own_is) st.timed.times_are;
              inertial =
                  st.inertial_is
                  ∙ ap₂ (sets a.inertial) (frames_sum ∙ sym even) (ap₂ inertial_indices (ap (λ (x : Gate). x.inertial) (sym read)) own_is ∙ sym (next_inertial (circuit_in task) (moments_in task) j));
              fanins =
                  st.fanins_are
                  ∙ ap₂ (sets a.fanins) fanins_sum
                  (ap₂ (λ (d : ℕ) (ss : List (List ℕ)). flat_map (fanin_row d ss) (take (n - 0) (drop 0 row))) (ap (λ (x : Gate). x.delay) (sym read)) spans_are
                  ∙ ap (flat_map (fanin_row (gate_at (circuit_in task) j).delay (fanin_times (circuit_in task) (moments_in task) j))) own_is ∙ sym (next_rows (circuit_in task) (moments_in task) j));
            }

        last_next : t'.last.0 ≡ latest (all_times (frames_of task j) ++ (next_frames (circuit_in task) (moments_in task) j).times)
        last_next =
            st.timed.last_is ∙ ap₂ max last_is (rw own_is (sym (latest_is (next_frames (circuit_in task) (moments_in task) j).times own_starts)))
            ∙ sym (latest_append (all_times (frames_of task j)) (next_frames (circuit_in task) (moments_in task) j).times)

        totals_next : t' ≡ totals_of (frames_of task j ++ (next_frames (circuit_in task) (moments_in task) j ∷ []))
        unfolding totals_of
        totals_next =
            let f : length (all_times (frames_of task j ++ (next_frames (circuit_in task) (moments_in task) j ∷ []))) ≡ t'.frames = omega (arith, total_next, st.timed.frames_sum, own_length) in
            let w : length (all_fanins (frames_of task j ++ (next_frames (circuit_in task) (moments_in task) j ∷ []))) ≡ t'.fanins = fanins_next ∙ sym (st.timed.fanins_sum ∙ rw own_length) in
            rw (f, w, times_snoc (frames_of task j) (next_frames (circuit_in task) (moments_in task) j), ← last_next)

        stepped : Going task (j + 1) a' t'
        stepped =
            let next = nets_next task given.read j l in
            record {
              is = rw next (laid_snoc (frames_of task j) (next_frames (circuit_in task) (moments_in task) j) go.is behind room_next (nets_sized task given.read j (omega arith)).even (next_even (circuit_in task) (moments_in task) j));
              totals = rw next totals_next;
              fit = rw next fit_next;
            }

      stays : Stays task net j a t g (take (n - 0) (drop 0 row))
      stays = record { times = times; gathered = front row n ∙ p.is; place = rw own_length place; stepped = stepped }

  -- too many times
  next_length : length (gate_times g.delay (spans task.file g.list g.entries a.directory a.times)) ≡ length (next_frames (circuit_in task) (moments_in task) j).times
  next_length = ap length own_times

  over : {row : List ℕ} → Counted row (gate_times g.delay (spans task.file g.list g.entries a.directory a.times)) t.frames None → fits (frames_of task (j + 1)) ≡ false
  over k =
      rw (nets_next task given.read j l)
      (fits_over (frames_of task j) (next_frames (circuit_in task) (moments_in task) j) (λ few total. k.over refl (omega (arith, next_length)) (omega (arith, next_length, frames_sum))))

  pub step : Step task net j a t g
  step = record { fed = fed; frames_low = frames_low; over = over; stays = λ k. stays (k.front _ refl) (k.few _ refl) (k.left _ refl) }

-- ---- what is reached

pub reached_now : (task : Task) (n : ℕ) (a : Areas) (t : Totals) → Going task n a t → Reached task n a (Some t)
reached_now task n a t h = record { planned = λ u e. (let q : t ≡ u = cc in rw q at h); stopped = λ e. cc }

pub reached_many : (task : Task) (n : ℕ) (a : Areas) → fits (frames_of task n) ≡ false → Reached task n a None
reached_many task n a h = record { planned = λ u e. cc; stopped = λ e. h }

-- ---- the areas are as long as before

pub record Alike (a a' : Areas) : Type 0 where
  pub directory : length a'.directory ≡ length a.directory
  pub times : length a'.times ≡ length a.times
  pub inertial : length a'.inertial ≡ length a.inertial
  pub fanins : length a'.fanins ≡ length a.fanins

room_alike : {fs : List Frames} {a a' : Areas} → Room fs a → Alike a a' → Room fs a'
room_alike r l = record { directory = rw l.directory r.directory; times = rw l.times r.times; inertial = rw l.inertial r.inertial; fanins = rw l.fanins r.fanins }

pub given_alike : {task : Task} {a a' : Areas} → Given task a → Alike a a' → Given task a'
given_alike g l = record { read = g.read; suits = g.suits; room = λ j h e. room_alike (g.room j h e) l }
