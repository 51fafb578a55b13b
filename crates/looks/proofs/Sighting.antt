-- What is seen at a frame is its lane's bit, its time, and the next frame's time or no end.
-- Assumes nothing.
use Prim.Native.Nat.{ℕ, suc, ◌+◌, ◌≤◌, ◌<◌}
use mathlib.Core.Path.{◌≡◌}
use mathlib.Core.Bool.{Bool}
use mathlib.Core.List.{List, map}
use native.Mathlib.Omega.{arith}
use lib.ListN.{length, get_or, drop, drop_of_length-le}
use lib.Seq.{drop-cons}
use Rattle.method.specs.Words.{lane}
use Rattle.method.proofs.Bits.{get_d_lane}
use Rattle.method.specs.declared.Time.{Time}
use Rattle.std.specs.Prelude.{Option, Some, None}
use Rattle.looks.specs.Sight.{end_by, sight_at, end_on_paper, sight_on_paper}

module _ (times : List ℕ) (k : ℕ) where
  pub ends_never : length times ≤ k + 1 → end_on_paper None ≡ end_by (drop (suc k) times)
  unfolding end_on_paper end_by
  ends_never h = rw (drop_of_length-le times (let q : length times ≤ suc k = omega arith in q))

  pub ends_next : k + 1 < length times → {t : ℕ} → t ≡ get_or times (k + 1) 0 → end_on_paper (Some (record { 0 = t })) ≡ end_by (drop (suc k) times)
  unfolding end_on_paper end_by
  ends_next h e = rw (e, drop-cons times (suc k) 0 (omega arith), let q : k + 1 ≡ suc k = omega arith in q)

  pub sight_is : (values : List ℕ) (L : ℕ) {word time : ℕ} {level : Bool} (until : Option Time) → word ≡ get_or values k 0 → level ≡ lane L word → time ≡ get_or times k 0
      → end_on_paper until ≡ end_by (drop (suc k) times)
      → sight_on_paper (record { level = level; began = record { 0 = time }; until = until }) ≡ sight_at times (map (lane L) values) k
  unfolding sight_on_paper sight_at
  sight_is values L until w l t u = rw (l, w, get_d_lane L values k, t, u)
