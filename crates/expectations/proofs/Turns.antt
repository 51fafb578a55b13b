-- What a turn of each loop over the list of expectations knows: where it stands at the end, where it goes on, where it stops.
use Prim.Native.Nat.{ℕ, suc, ◌+◌, ◌-◌, ◌≤◌, ◌<◌, max}
use mathlib.Core.Path.{◌≡◌, refl, sym, ap, ◌∙◌}
use mathlib.Core.Bool.{Bool, true, false, cond}
use mathlib.Core.List.{List, [], ◌∷◌}
use Rattle.std.specs.List.{fold}
use native.Mathlib.Nat.{max-zero}
use native.Mathlib.Numerals.{add-one}
use native.Mathlib.Omega.{arith}
use lib.ListN.{length, get_or, drop}
use lib.Seq.{drop-cons, drop-length}
use Rattle.lists.specs.Ladder.{accepted}
use Rattle.method.specs.Layout.{frame_count}
use Rattle.method.specs.declared.Frame.{Frame}
use Rattle.expectations.specs.declared.Expectation.{Expectation}
use Rattle.expectations.specs.Verdict.{Verdict, all_met, place, verdict_on_paper}
use Rattle.expectations.specs.Steps.{nets_for, nets_needed, breaks_at, searched_frames, searched_from}
use Rattle.std.specs.Prelude.{Some, None}

-- what a read past the end of a list of expectations gives. No read goes there
abbrev pub nought : Expectation
nought = record { net = record { 0 = 0 }; lane = 0; from = record { 0 = 0 }; to = record { 0 = 0 }; level = 0 }

-- ---- the nets that the list needs

pub needed_by_fold : (nets : ℕ) (list : List Expectation) → fold (λ (n : ℕ) (e : Expectation). max n (nets_for e)) nets list ≡ max nets (nets_needed list)
unfolding nets_needed
needed_by_fold nets [] = sym (max-zero nets)
needed_by_fold nets (e ∷ list) = needed_by_fold (max nets (nets_for e)) list ∙ (let q : max (max nets (nets_for e)) (nets_needed list) ≡ max nets (max (nets_for e) (nets_needed list)) = omega arith in q)

-- ---- the search, from position i on

module _ (d t v : List ℕ) (list : List Expectation) where
  -- the search of the list from position i on, and of the expectation there from frame k on, where its net has m
  abbrev pub from_place : ℕ → Verdict
  from_place i = searched_from d t v i (drop i list)

  abbrev pub from_frame : ℕ → ℕ → ℕ → Verdict
  from_frame i m k = searched_frames d t v (get_or list i nought) i (m - k) k (from_place (i + 1))

  pub search_end : (i : ℕ) → i ≡ length list → from_place i ≡ all_met
  unfolding searched_from
  search_end i e = ap (λ (j : ℕ). searched_from d t v i (drop j list)) e ∙ ap (searched_from d t v i) (drop-length list)

  pub search_one : (i : ℕ) → i < length list → from_frame i (frame_count d (get_or list i nought).net.0) 0 ≡ from_place i
  unfolding searched_from
  search_one i l =
      ap (λ (n : ℕ). searched_frames d t v (get_or list i nought) i n 0 (from_place (i + 1))) (omega arith)
      ∙ ap (λ (j : ℕ). searched_frames d t v (get_or list i nought) i (frame_count d (get_or list i nought).net.0) 0 (from_place j)) (add-one i)
      ∙ sym (ap (searched_from d t v i) (drop-cons list i nought l))

  -- behind the last frame the list goes on
  pub frames_end : (i m k : ℕ) → m ≤ k → from_frame i m k ≡ from_place (i + 1)
  unfolding searched_frames
  frames_end i m k h = ap (λ (n : ℕ). searched_frames d t v (get_or list i nought) i n k (from_place (i + 1))) (let q : m - k ≡ 0 = omega (arith, h) in q)

  frames_one : (i m k : ℕ) → k < m → from_frame i m k ≡ cond (breaks_at d t v (get_or list i nought) k) (place i k) (from_frame i m (k + 1))
  unfolding searched_frames
  frames_one i m k h =
      ap (λ (n : ℕ). searched_frames d t v (get_or list i nought) i n k (from_place (i + 1))) (let q : m - k ≡ suc (m - (k + 1)) = omega (arith, h) in q)
      ∙ ap (λ (j : ℕ). cond (breaks_at d t v (get_or list i nought) k) (place i k) (searched_frames d t v (get_or list i nought) i (m - (k + 1)) j (from_place (i + 1)))) (sym (add-one k))

  -- where r says whether frame k breaks it: the place is here, or further on
  module _ (i m k : ℕ) (h : k < m) (r : Bool) (e : r ≡ breaks_at d t v (get_or list i nought) k) where
    by_frame : from_frame i m k ≡ cond r (place i k) (from_frame i m (k + 1))
    by_frame = frames_one i m k h ∙ ap (λ (s : Bool). cond s (place i k) (from_frame i m (k + 1))) (sym e)

    pub frame_breaks : r ≡ true → from_frame i m k ≡ place i k
    frame_breaks y = by_frame ∙ ap (λ (s : Bool). cond s (place i k) (from_frame i m (k + 1))) y

    pub frame_holds : r ≡ false → from_frame i m (k + 1) ≡ from_frame i m k
    frame_holds n = sym (by_frame ∙ ap (λ (s : Bool). cond s (place i k) (from_frame i m (k + 1))) n)

pub all_met_lem : verdict_on_paper None ≡ all_met
unfolding verdict_on_paper
all_met_lem = refl

pub unmet : (i : ℕ) (frame : Frame) → verdict_on_paper (Some (record { position = i; frame = frame })) ≡ place i frame.0
unfolding verdict_on_paper
unmet i frame = refl
