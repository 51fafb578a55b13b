-- What the functions of this crate ask for and promise: the indices of one fan-in at all of a gate's times, and the whole gate.
use Rattle.std.specs.Prelude.{ℕ, suc, ◌+◌, ◌-◌, ◌*◌, ◌<◌, ◌≤◌, max, ◌≡◌, true, List, [], ◌∷◌, length, get_or, set}
use Rattle.std.proofs.lemmas.List.Edits.{sets}
use Rattle.method.specs.Kinds.{most_fanins}
use Rattle.method.specs.Times.{among}
use Rattle.method.specs.Limits.{most_total_frames}
use Rattle.method.specs.Areas.{Areas}
use Rattle.method.specs.declared.Totals.{Totals}

-- ---- one fan-in

-- each later time of a fan-in, plus d, is one of the gate's own times ts
pub record Shown (d : ℕ) (ss ts : List ℕ) : Type 0 where
  pub shows : (s : ℕ) → among (suc s) ss ≡ true → among (suc s + d) ts ≡ true

-- numbers stored one every `width` places, from `at` on
unfoldable pub column : List ℕ → ℕ → ℕ → List ℕ → List ℕ
column area at width [] = area
column area at width (v ∷ vs) = column (set area at v) (at + width) width vs

-- ---- the pair and the times of a gate

-- there is room for those of a gate on this net with this many frames and entries, behind the frames that are there; and the
-- totals stay small
pub record Slot (d ts : List ℕ) (net : ℕ) (t : Totals) (count entries : ℕ) : Type 0 where
  pub directory : 2 * net + 1 < length d
  pub times : t.frames + count ≤ length ts
  pub few_frames : t.frames + count ≤ most_total_frames
  pub few_fanins : t.fanins + count * entries ≤ most_fanins * most_total_frames

-- those of a gate with the times ts are stored, and the totals go from t to t'
pub record Timed (d d' area area' : List ℕ) (net : ℕ) (t t' : Totals) (entries : ℕ) (ts : List ℕ) : Type 0 where
  pub directory_is : d' ≡ sets d (2 * net) (t.frames ∷ length ts ∷ [])
  pub times_are : area' ≡ sets area t.frames ts
  pub frames_sum : t'.frames ≡ t.frames + length ts
  pub fanins_sum : t'.fanins ≡ t.fanins + length ts * entries
  pub last_is : t'.last.0 ≡ max t.last.0 (get_or ts (length ts - 1) 0)

-- ---- the whole gate

-- there is room for its inertial indices and its fan-in rows too
pub record Place (a : Areas) (net : ℕ) (t : Totals) (count entries : ℕ) : Type 0 where
  pub slot : Slot a.directory a.times net t count entries
  pub inertial : t.frames + count ≤ length a.inertial
  pub fanins : t.fanins + count * entries ≤ length a.fanins

-- its inertial indices and its fan-in rows are stored too
pub record Stored (a a' : Areas) (net : ℕ) (t t' : Totals) (entries : ℕ) (ts is fs : List ℕ) : Type 0 where
  pub timed : Timed a.directory a'.directory a.times a'.times net t t' entries ts
  pub inertial_is : a'.inertial ≡ sets a.inertial t.frames is
  pub fanins_are : a'.fanins ≡ sets a.fanins t.fanins fs
