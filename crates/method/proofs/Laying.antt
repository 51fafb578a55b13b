-- Frames laid out in areas: what is read of a net, a net more stored behind them, and the inputs.
-- Assumes nothing.
use Prim.Native.Nat.{ℕ, zero, suc, ◌+◌, ◌-◌, ◌*◌, ◌≤◌, ◌<◌}
use mathlib.Core.Path.{◌≡◌, refl, sym, ap, ap₂, ◌∙◌}
use mathlib.Core.List.{List, [], ◌∷◌, ◌++◌, flat_map, flatten, append_assoc}
use native.Mathlib.Omega.{arith}
use native.Mathlib.Nat.{add-zero, zero-add}
use native.Mathlib.Numerals.{add-one}
use lib.ListN.{length, get_or, take, drop, set, replicate, length-append, length-drop}
use lib.Seq.{sets, take-suc, take-take, get_or-take, length-take-le}
use Rattle.lists.specs.Tables.{tabulate_from}
use Rattle.lists.specs.Areas.{padded}
use Rattle.lists.proofs.Tabled.{from_length, tabulate_snoc}
use Rattle.lists.proofs.Zeros.{zeros_at}
use Rattle.lists.proofs.Flat.{flat_snoc, flat_split, flat_even, seam_part, seam_at, seam_room}
use Rattle.lists.proofs.Padding.{pad_length, pad_more}
use Rattle.method.specs.Frames.{Frames, input_frames, no_frames}
use Rattle.method.specs.Areas.{Areas, areas}
use Rattle.method.specs.Layout.{all_times, all_inertial, all_fanins, pairs, laid, part_of, first_frame, frame_count}
use Rattle.method.specs.Stimulus.{Moments}
use Rattle.method.specs.First.{inputs_only, Room, Inputs}
use Rattle.method.specs.Packed.{changes_before}

pub pair_stored : (d : List ℕ) (net first count : ℕ) → set (set d (2 * net) first) (2 * net + 1) count ≡ sets d (2 * net) (first ∷ count ∷ [])
pair_stored d net first count = rw (add-one (2 * net))

-- ---- each area of a plan

laid_is : (fs : List Frames) {d t n f : List ℕ} → d ≡ padded (length d) (pairs 0 fs) → t ≡ padded (length t) (all_times fs) → n ≡ padded (length n) (all_inertial fs)
    → f ≡ padded (length f) (all_fanins fs) → areas d t n f ≡ laid fs (areas d t n f)
unfolding laid
laid_is fs {d} {t} {n} {f} a b c e =
    ap₂ (λ (x y : List ℕ). areas x y n f) a b ∙ ap₂ (λ (x y : List ℕ). areas (padded (length d) (pairs 0 fs)) (padded (length t) (all_times fs)) x y) c e

module _ (fs : List Frames) {a : Areas} (is : a ≡ laid fs a) where
  directory_is : a.directory ≡ padded (length a.directory) (pairs 0 fs)
  unfolding laid
  directory_is = ap (λ (x : Areas). x.directory) is

  times_are : a.times ≡ padded (length a.times) (all_times fs)
  unfolding laid
  times_are = ap (λ (x : Areas). x.times) is

  inertial_is : a.inertial ≡ padded (length a.inertial) (all_inertial fs)
  unfolding laid
  inertial_is = ap (λ (x : Areas). x.inertial) is

  fanins_are : a.fanins ≡ padded (length a.fanins) (all_fanins fs)
  unfolding laid
  fanins_are = ap (λ (x : Areas). x.fanins) is

-- ---- net n, read by its pair

-- the numbers from first up to end
pub part_read : (d t : List ℕ) (n : ℕ) {first end : ℕ} → first ≡ get_or d (2 * n) 0 → end ≡ first + get_or d (2 * n + 1) 0 → take (end - first) (drop first t) ≡ part_of d t n
unfolding part_of
part_read d t n {first} {end} p q =
    let m : end - first ≡ get_or d (2 * n + 1) 0 = omega arith in
    rw (m, p)

pairs_first : (at : ℕ) (fs : List Frames) (z : List ℕ) (n : ℕ) → n < length fs → get_or (pairs at fs ++ z) (2 * n) 0 ≡ at + length (all_times (take n fs))
unfolding pairs flat_map
pairs_first at [] z n h = absurd (omega arith)
pairs_first at (f ∷ fs) z zero h = sym (add-zero at)
pairs_first at (f ∷ fs) z (suc n) h =
    rw (let q : 2 * suc n ≡ suc (suc (2 * n)) = omega arith in q)
    (omega (arith, pairs_first (at + length f.times) fs z n (omega arith), length-append f.times (all_times (take n fs))))

pairs_count : (at : ℕ) (fs : List Frames) (z : List ℕ) (n : ℕ) → n < length fs → get_or (pairs at fs ++ z) (2 * n + 1) 0 ≡ length (get_or fs n no_frames).times
unfolding pairs
pairs_count at [] z n h = absurd (omega arith)
pairs_count at (f ∷ fs) z zero h = refl
pairs_count at (f ∷ fs) z (suc n) h = rw (let q : 2 * suc n + 1 ≡ suc (suc (2 * n + 1)) = omega arith in q) (pairs_count (at + length f.times) fs z n (omega arith))

module _ (fs : List Frames) {a : Areas} (is : a ≡ laid fs a) (n : ℕ) (h : n < length fs) where
  pub pair_first : get_or a.directory (2 * n) 0 ≡ length (all_times (take n fs))
  unfolding padded
  pair_first = rw (directory_is fs is) (pairs_first 0 fs (replicate (length a.directory - length (pairs 0 fs)) 0) n h ∙ zero-add (length (all_times (take n fs))))

  pub pair_count : get_or a.directory (2 * n + 1) 0 ≡ length (get_or fs n no_frames).times
  unfolding padded
  pair_count = rw (directory_is fs is) (pairs_count 0 fs (replicate (length a.directory - length (pairs 0 fs)) 0) n h)

  -- its part of an area with an entry a frame
  pub part_at : (pre x rest : List ℕ) {area : List ℕ} → area ≡ pre ++ (x ++ rest) → length pre ≡ length (all_times (take n fs)) → length x ≡ length (get_or fs n no_frames).times → part_of a.directory area n ≡ x
  unfolding part_of
  part_at pre x rest {area} e p q = rw (pair_first, pair_count, ← p, ← q) (seam_part pre x rest e)

  -- it lies behind what the nets before it give
  behind : (f : Frames → List ℕ) (size : ℕ) {area : List ℕ} → area ≡ padded size (flat_map f fs)
      → area ≡ flat_map f (take n fs) ++ (f (get_or fs n no_frames) ++ (flat_map f (drop (suc n) fs) ++ replicate (size - length (flat_map f fs)) 0))
  unfolding padded
  behind f size {area} e =
      let z : List ℕ = replicate (size - length (flat_map f fs)) 0 in
      e ∙ ap (λ (l : List ℕ). l ++ z) (flat_split f fs n no_frames h)
      ∙ append_assoc (flat_map f (take n fs)) (f (get_or fs n no_frames) ++ flat_map f (drop (suc n) fs)) z
      ∙ ap (λ (l : List ℕ). flat_map f (take n fs) ++ l) (append_assoc (f (get_or fs n no_frames)) (flat_map f (drop (suc n) fs)) z)

  pub times_part : part_of a.directory a.times n ≡ (get_or fs n no_frames).times
  times_part = part_at (all_times (take n fs)) (get_or fs n no_frames).times _ (behind (λ (f : Frames). f.times) (length a.times) (times_are fs is)) refl refl

  pub inertial_part : ((m : ℕ) → m < length fs → length (get_or fs m no_frames).inertial ≡ length (get_or fs m no_frames).times) → part_of a.directory a.inertial n ≡ (get_or fs n no_frames).inertial
  inertial_part even =
      part_at (all_inertial (take n fs)) (get_or fs n no_frames).inertial _ (behind (λ (f : Frames). f.inertial) (length a.inertial) (inertial_is fs is)) (flat_even (λ (f : Frames). f.inertial) (λ (f : Frames). f.times) no_frames fs even n) (even n h)

  pub fanin_at_lem : (i : ℕ) → i < length (flatten (get_or fs n no_frames).rows) → get_or a.fanins (length (all_fanins (take n fs)) + i) 0 ≡ get_or (flatten (get_or fs n no_frames).rows) i 0
  fanin_at_lem i l = seam_at (all_fanins (take n fs)) (flatten (get_or fs n no_frames).rows) _ (behind (λ (f : Frames). flatten f.rows) (length a.fanins) (fanins_are fs is)) i 0 l

-- what net n has lies within what all nets have
pub frames_end : (fs : List Frames) (n : ℕ) → n < length fs → length (all_times (take n fs)) + length (get_or fs n no_frames).times ≤ length (all_times fs)
frames_end fs n h = seam_room (all_times (take n fs)) (get_or fs n no_frames).times (all_times (drop (suc n) fs)) (flat_split (λ (f : Frames). f.times) fs n no_frames h)

pub fanins_end : (fs : List Frames) (n : ℕ) → n < length fs → length (all_fanins (take n fs)) + length (flatten (get_or fs n no_frames).rows) ≤ length (all_fanins fs)
fanins_end fs n h = seam_room (all_fanins (take n fs)) (flatten (get_or fs n no_frames).rows) (all_fanins (drop (suc n) fs)) (flat_split (λ (f : Frames). flatten f.rows) fs n no_frames h)

-- the times of net n, as the areas have them
pub record Spot (d t : List ℕ) (n end : ℕ) (x : List ℕ) : Type 0 where
  pub size : get_or d (2 * n + 1) 0 ≡ length x
  pub ends : get_or d (2 * n) 0 + get_or d (2 * n + 1) 0 ≤ end
  pub times : part_of d t n ≡ x

pub spot_at : (fs : List Frames) {a : Areas} → a ≡ laid fs a → (n : ℕ) → n < length fs → Spot a.directory a.times n (length (all_times fs)) (get_or fs n no_frames).times
spot_at fs is n h =
    record {
      size = pair_count fs is n h;
      ends = omega (arith, pair_first fs is n h, pair_count fs is n h, frames_end fs n h);
      times = times_part fs is n h;
    }

-- no time in the area is later than those of the nets
low_append : (b : ℕ) (xs ys : List ℕ) → ((k : ℕ) → get_or xs k 0 ≤ b) → ((k : ℕ) → get_or ys k 0 ≤ b) → (k : ℕ) → get_or (xs ++ ys) k 0 ≤ b
low_append b [] ys h g k = g k
low_append b (x ∷ xs) ys h g zero = h 0
low_append b (x ∷ xs) ys h g (suc k) = low_append b xs ys (λ i. h (suc i)) g k

low_times : (b : ℕ) (fs : List Frames) → ((n : ℕ) → n < length fs → (k : ℕ) → get_or (get_or fs n no_frames).times k 0 ≤ b) → (k : ℕ) → get_or (all_times fs) k 0 ≤ b
unfolding flat_map
low_times b [] h k = omega arith
low_times b (f ∷ fs) h k = low_append b f.times (all_times fs) (h 0 (omega arith)) (low_times b fs (λ n l. h (suc n) (omega arith))) k

pub low_area : (b : ℕ) (fs : List Frames) {a : Areas} → a ≡ laid fs a → ((n : ℕ) → n < length fs → (k : ℕ) → get_or (get_or fs n no_frames).times k 0 ≤ b) → (k : ℕ) → get_or a.times k 0 ≤ b
unfolding padded
low_area b fs {a} is h k =
    rw (times_are fs is)
    (low_append b (all_times fs) (replicate (length a.times - length (all_times fs)) 0) (low_times b fs h) (λ i. omega (arith, zeros_at (length a.times - length (all_times fs)) i)) k)

-- ---- a net more

pub times_snoc : (fs : List Frames) (x : Frames) → all_times (fs ++ (x ∷ [])) ≡ all_times fs ++ x.times
times_snoc fs x = flat_snoc (λ (f : Frames). f.times) fs x

pub inertial_snoc : (fs : List Frames) (x : Frames) → all_inertial (fs ++ (x ∷ [])) ≡ all_inertial fs ++ x.inertial
inertial_snoc fs x = flat_snoc (λ (f : Frames). f.inertial) fs x

fanins_snoc : (fs : List Frames) (x : Frames) → all_fanins (fs ++ (x ∷ [])) ≡ all_fanins fs ++ flatten x.rows
fanins_snoc fs x = flat_snoc (λ (f : Frames). flatten f.rows) fs x

pub total_more : (fs : List Frames) (x : Frames) → length (all_times (fs ++ (x ∷ []))) ≡ length (all_times fs) + length x.times
total_more fs x = rw (times_snoc fs x) (length-append (all_times fs) x.times)

pub fanins_more : (fs : List Frames) (x : Frames) → length (all_fanins (fs ++ (x ∷ []))) ≡ length (all_fanins fs) + length (flatten x.rows)
fanins_more fs x = rw (fanins_snoc fs x) (length-append (all_fanins fs) (flatten x.rows))

pairs_snoc : (at : ℕ) (fs : List Frames) (x : Frames) → pairs at (fs ++ (x ∷ [])) ≡ pairs at fs ++ ((at + length (all_times fs)) ∷ length x.times ∷ [])
unfolding pairs flat_map
pairs_snoc at [] x = rw add-zero
pairs_snoc at (f ∷ fs) x =
    ap (λ (l : List ℕ). at ∷ length f.times ∷ l)
    (pairs_snoc (at + length f.times) fs x ∙ rw (length-append f.times (all_times fs), let q : (at + length f.times) + length (all_times fs) ≡ at + (length f.times + length (all_times fs)) = omega arith in q))

pub pairs_length : (at : ℕ) (fs : List Frames) → length (pairs at fs) ≡ 2 * length fs
unfolding pairs
pairs_length at [] = refl
pairs_length at (f ∷ fs) = omega (arith, pairs_length (at + length f.times) fs)

-- areas with room for the frames keep their lengths when they are laid out
pub laid_lengths : (fs : List Frames) (a : Areas) → Room fs a → length (all_inertial fs) ≡ length (all_times fs)
    → (length (laid fs a).directory ≡ length a.directory) × (length (laid fs a).times ≡ length a.times) × (length (laid fs a).inertial ≡ length a.inertial) × (length (laid fs a).fanins ≡ length a.fanins)
unfolding laid
laid_lengths fs a r even = (
  pad_length (length a.directory) (pairs 0 fs) (omega (arith, r.directory, pairs_length 0 fs)),
  pad_length (length a.times) (all_times fs) r.times,
  pad_length (length a.inertial) (all_inertial fs) (omega (arith, r.inertial)),
  pad_length (length a.fanins) (all_fanins fs) r.fanins,
)

-- so they are laid out at their own lengths
pub laid_kept : (fs : List Frames) {a a' : Areas} → a' ≡ laid fs a → Room fs a → length (all_inertial fs) ≡ length (all_times fs) → a' ≡ laid fs a'
unfolding laid
laid_kept fs {a} {a'} e r even =
    let l = laid_lengths fs a r even in
    let again : laid fs a ≡ laid fs (laid fs a) = rw (l.0, l.1, l.2, l.3) in
    e ∙ again ∙ ap (laid fs) (sym e)

-- the frames of net x are stored behind those of fs
pub record Behind (fs : List Frames) (x : Frames) (a a' : Areas) : Type 0 where
  pub directory : a'.directory ≡ sets a.directory (2 * length fs) (length (all_times fs) ∷ length x.times ∷ [])
  pub times : a'.times ≡ sets a.times (length (all_times fs)) x.times
  pub inertial : a'.inertial ≡ sets a.inertial (length (all_inertial fs)) x.inertial
  pub fanins : a'.fanins ≡ sets a.fanins (length (all_fanins fs)) (flatten x.rows)

-- so the areas hold the plan with that net
pub laid_snoc : (fs : List Frames) (x : Frames) {a a' : Areas} → a ≡ laid fs a → Behind fs x a a' → Room (fs ++ (x ∷ [])) a
    → length (all_inertial fs) ≡ length (all_times fs) → length x.inertial ≡ length x.times → a' ≡ laid (fs ++ (x ∷ [])) a'
laid_snoc fs x {a} {a'} is b r even even' =
    let n : length (fs ++ (x ∷ [])) ≡ length fs + 1 = length-append fs (x ∷ []) in
    let total = total_more fs x in
    let q : 0 + length (all_times fs) ≡ length (all_times fs) = omega arith in
    laid_is (fs ++ (x ∷ []))
    (rw (pairs_snoc 0 fs x, q) (pad_more (pairs 0 fs) (length (all_times fs) ∷ length x.times ∷ []) (2 * length fs) (directory_is fs is) b.directory (pairs_length 0 fs) (omega (arith, r.directory))))
    (rw (times_snoc fs x) (pad_more (all_times fs) x.times (length (all_times fs)) (times_are fs is) b.times refl (omega (arith, r.times))))
    (rw (inertial_snoc fs x) (pad_more (all_inertial fs) x.inertial (length (all_inertial fs)) (inertial_is fs is) b.inertial refl (omega (arith, r.inertial))))
    (rw (fanins_snoc fs x) (pad_more (all_fanins fs) (flatten x.rows) (length (all_fanins fs)) (fanins_are fs is) b.fanins refl (omega (arith, r.fanins, fanins_more fs x))))

-- ---- the inputs

module _ (m : Moments) where
  one_more : (n : ℕ) → inputs_only m (suc n) ≡ inputs_only m n ++ (input_frames (m n) ∷ [])
  one_more n = tabulate_snoc n (λ (i : ℕ). input_frames (m i))

  pub inputs_count : (n : ℕ) → length (inputs_only m n) ≡ n
  inputs_count n = from_length n 0 (λ (i : ℕ). input_frames (m i))

  inputs_pairs : (n : ℕ) → length (pairs 0 (inputs_only m n)) ≡ 2 * n
  inputs_pairs n = pairs_length 0 (inputs_only m n) ∙ rw (inputs_count n)

  -- of no input there is nothing
  pub no_pairs : pairs 0 (inputs_only m 0) ≡ []
  unfolding pairs tabulate_from
  no_pairs = refl

  pub no_times : all_times (inputs_only m 0) ≡ []
  unfolding flat_map tabulate_from
  no_times = refl

  pub times_one_more : (n : ℕ) → all_times (inputs_only m (suc n)) ≡ all_times (inputs_only m n) ++ (0 ∷ m n)
  times_one_more n = ap (λ (fs : List Frames). all_times fs) (one_more n) ∙ times_snoc (inputs_only m n) (input_frames (m n))

  -- a frame an input, and one a change
  pub inputs_frames : (n : ℕ) → length (all_times (inputs_only m n)) ≡ n + changes_before m n
  inputs_frames zero = ap length no_times
  inputs_frames (suc n) = omega (arith, ap length (times_one_more n), length-append (all_times (inputs_only m n)) (0 ∷ m n), inputs_frames n)

  -- one input more is written
  pub inputs_on : {d t : List ℕ} {n : ℕ} → Inputs m d t n → 2 * n + 2 ≤ length d → n + changes_before m n + (1 + length (m n)) ≤ length t
      → Inputs m (sets d (2 * n) ((n + changes_before m n) ∷ (1 + length (m n)) ∷ [])) (sets t (n + changes_before m n) (0 ∷ m n)) (n + 1)
  inputs_on {d} {t} {n} i hd ht =
      let at : ℕ = n + changes_before m n in
      let p : pairs 0 (inputs_only m n ++ (input_frames (m n) ∷ [])) ≡ pairs 0 (inputs_only m n) ++ (at ∷ (1 + length (m n)) ∷ []) =
      pairs_snoc 0 (inputs_only m n) (input_frames (m n)) ∙ rw (let q : 0 + length (all_times (inputs_only m n)) ≡ at = omega (arith, inputs_frames n) in q, let q : suc (length (m n)) ≡ 1 + length (m n) = omega arith in q) in
      record {
        pairs_are = rw (add-one n, one_more n, p) (pad_more (pairs 0 (inputs_only m n)) (at ∷ (1 + length (m n)) ∷ []) (2 * n) i.pairs_are refl (inputs_pairs n) hd);
        times_are = rw (add-one n, times_one_more n) (pad_more (all_times (inputs_only m n)) (0 ∷ m n) at i.times_are refl (inputs_frames n) (omega arith));
      }

  -- the inputs' areas, whole
  pub inputs_laid : (n : ℕ) {d t i f : List ℕ} → Inputs m d t n → i ≡ padded (length i) (all_inertial (inputs_only m n)) → f ≡ padded (length f) (all_fanins (inputs_only m n))
      → areas d t i f ≡ laid (inputs_only m n) (areas d t i f)
  inputs_laid n p a b = laid_is (inputs_only m n) p.pairs_are p.times_are a b

pub part_length : (d i : List ℕ) (net : ℕ) → first_frame d net + frame_count d net ≤ length i → length (part_of d i net) ≡ frame_count d net
unfolding part_of
part_length d i net h = length-take-le (frame_count d net) (drop (first_frame d net) i) (rw (length-drop (first_frame d net) i) (omega arith))

pub times_next : (fs : List Frames) (n : ℕ) → n < length fs → all_times (take (suc n) fs) ≡ all_times (take n fs) ++ (get_or fs n no_frames).times
times_next fs n h = ap (λ (l : List Frames). all_times l) (take-suc fs n no_frames h) ∙ times_snoc (take n fs) (get_or fs n no_frames)

-- the frames of net m lie before those of a later net
pub frames_below : (fs : List Frames) (m n : ℕ) → m < n → n ≤ length fs → length (all_times (take m fs)) + length (get_or fs m no_frames).times ≤ length (all_times (take n fs))
frames_below fs m n h l =
    let e = frames_end (take n fs) m (rw (length-take-le n fs l) h) in
    rw (take-take m n fs (omega arith), get_or-take n fs m no_frames h) at e
