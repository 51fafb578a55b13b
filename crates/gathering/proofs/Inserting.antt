-- A time put in its place in a row: the place, the numbers from there on moved by one, and the row that comes of it.
-- Assumes nothing.
use Prim.Native.Nat.{ℕ, suc, ◌+◌, ◌-◌, ◌<◌, ◌≤◌}
use mathlib.Core.Path.{◌≡◌, refl, sym, ◌∙◌, ap}
use mathlib.Core.Logic.{inl, inr}
use mathlib.Core.List.{List, [], ◌∷◌, ◌++◌, append_assoc}
use lib.ListN.{length, length-take, get_or, take, drop, set, length-append, length-drop, take-append-drop}
use lib.Seq.{take-suc, get_or-take, length-take-le, set_at, take-take, take_at}
use native.Mathlib.Omega.{arith}
use native.Mathlib.Nat.{sub-zero}
use native.Mathlib.Numerals.{add-one}
use borrow.Author.Tests.{lt-ltb, le-ltb, le-leb, lt-leb, eq-eqb, ne_eqb}
use Rattle.lists.specs.Front.{leading}
use Rattle.lists.proofs.Choices.{order, less, same, more, tri}
use Rattle.lists.proofs.Leading.{leading_most, leading_skip}
use Rattle.method.specs.Times.{insert_once}
use Rattle.gathering.specs.Steps.{Inserted}

-- ---- the numbers from place i up to count stand one place on

abbrev pub moved : List ℕ → ℕ → ℕ → List ℕ
moved row count i = take (i + 1) row ++ (drop i (take count row) ++ drop (count + 1) row)

-- ---- a list with suc e put in: its place is behind the numbers at the front that are at most e

put_in : (e : ℕ) (l : List ℕ) → (get_or l (leading e l) 0 ≡ suc e → leading e l < length l → ⊥) → insert_once (suc e) l ≡ take (leading e l) l ++ (suc e ∷ drop (leading e l) l)
unfolding leading
put_in e [] n = refl
put_in e (x ∷ xs) n =
    elim (tri (suc e) x) [
      | less k ↦ rw (lt-ltb (suc e) x k, lt-leb x e (omega arith))
      | same k ↦ absurd (n (rw (lt-leb x e (omega arith)) (sym k)) (rw (lt-leb x e (omega arith)) (omega arith)))
      | more k ↦ rw (le-ltb (suc e) x (omega arith), ne_eqb (suc e) x (omega arith), le-leb x e (omega arith))
          (ap (λ (l : List ℕ). x ∷ l) (put_in e xs (λ q l. n (rw (le-leb x e (omega arith)) q) (rw (le-leb x e (omega arith)) (omega arith)))))
    ]

-- it is there already
there : (e : ℕ) (l : List ℕ) → get_or l (leading e l) 0 ≡ suc e → leading e l < length l → insert_once (suc e) l ≡ l
unfolding leading
there e [] h l = absurd (omega arith)
there e (x ∷ xs) h l =
    elim (tri (suc e) x) [
      | less k ↦ absurd (let q : x ≡ suc e = rw (lt-leb x e (omega arith)) at h in omega arith)
      | same k ↦ rw (le-ltb (suc e) x (omega arith), eq-eqb (suc e) x k)
      | more k ↦
          let h' : get_or xs (leading e xs) 0 ≡ suc e = rw (le-leb x e (omega arith)) at h in
          let l' : suc (leading e xs) < suc (length xs) = rw (le-leb x e (omega arith)) at l in
          rw (le-ltb (suc e) x (omega arith), ne_eqb (suc e) x (omega arith)) (ap (λ (m : List ℕ). x ∷ m) (there e xs h' (omega arith)))
    ]

-- what is inserted leaves those before its place at the front
place_later : (f e : ℕ) → f ≤ e → (l : List ℕ) → leading f l ≤ leading e (insert_once (suc f) l)
unfolding leading
place_later f e h [] = omega arith
place_later f e h (x ∷ xs) =
    elim (order x f) [
      | inl k ↦ rw (le-leb x f k, le-ltb (suc f) x (omega arith), ne_eqb (suc f) x (omega arith), le-leb x e (omega arith)) (omega (arith, place_later f e h xs))
      | inr k ↦ rw (lt-leb x f k) (omega arith)
    ]

-- a part of a row from 0 on, where code lends it as `&row[0..count]`
pub front : (row : List ℕ) (count : ℕ) → take (count - 0) (drop 0 row) ≡ take count row
front row count = rw (sub-zero count)

-- what the search from `from` on answers, of the first `count` of the row, where the place is not before
pub place_found : (row : List ℕ) (count from e : ℕ) → from ≤ leading e (take count row) → {p : ℕ} → p ≡ from + leading e (drop from (take count row)) → p ≡ leading e (take count row)
place_found row count from e h q = q ∙ sym (leading_skip e from (take count row) h)

-- a place among the first `count` of a row is not behind them
pub place_most : (row : List ℕ) (count e : ℕ) → leading e (take count row) ≤ count
place_most row count e = omega (arith, leading_most e (take count row), length-take count row)

-- a time that is not 0
not_zero : (t : ℕ) → 1 ≤ t → t ≡ suc (t - 1)
not_zero t h = (let q : t ≡ (t - 1) + 1 = omega arith in q) ∙ add-one (t - 1)

-- ---- the cases of `put_time`: p is the place of t among the first `count` of the row

module _ (row : List ℕ) (count t : ℕ) (fits : count < length row) (pos : 1 ≤ t) {p : ℕ} (h : p ≡ leading (t - 1) (take count row)) where
  n : length (take count row) ≡ count
  n = length-take-le count row (omega arith)

  t_is : t ≡ suc (t - 1)
  t_is = not_zero t pos

  pub insert_kept : p < count → get_or row p 0 ≡ t → Inserted row row count t count
  insert_kept l e =
      let same : insert_once t (take count row) ≡ take count row =
      ap (λ (x : ℕ). insert_once x (take count row)) t_is ∙ there (t - 1) (take count row) (rw (← h, get_or-take count row p 0 l) (e ∙ t_is)) (rw (← h, n) l) in
      record { count_is = rw same (sym n); row_is = rw same (sym (take-append-drop count row)); most = omega arith }

  pub insert_put : (p < count → get_or row p 0 ≡ t → ⊥) → {a : List ℕ} → a ≡ moved row count p → Inserted row (set a p t) count t (count + 1)
  insert_put other {a} m =
      let l : p ≤ count = rw h (place_most row count (t - 1)) in
      let rest = drop p (take count row) ++ drop (count + 1) row in
      let front : take p (take count row) ≡ take p row = take-take p count row l in
      let size : length (take p row) ≡ p = length-take-le p row (omega arith) in
      let new : insert_once t (take count row) ≡ take p (take count row) ++ (t ∷ drop p (take count row)) =
      ap (λ (x : ℕ). insert_once x (take count row)) t_is
      ∙ rw (h)
      (put_in (t - 1) (take count row) (λ q r.
      let r' : p < count = rw (← h, n) at r in
      let q' : get_or row p 0 ≡ suc (t - 1) = rw (← h, get_or-take count row p 0 r') at q in
      other r' (q' ∙ sym t_is))
      ∙ ap (λ (x : ℕ). take (leading (t - 1) (take count row)) (take count row) ++ (x ∷ drop (leading (t - 1) (take count row)) (take count row))) (sym t_is)) in
      let one : take (p + 1) row ≡ take p row ++ (get_or row p 0 ∷ []) = rw add-one (take-suc row p 0 (omega arith)) in
      let whole : a ≡ take p row ++ (get_or row p 0 ∷ rest) = m ∙ rw (one, append_assoc) in
      record {
        count_is = rw new (simp (length-append, length-drop, front, n, size) (omega arith));
        row_is = rw (new, front, append_assoc, whole) (set_at (take p row) _ rest t p size);
        most = omega arith;
      }

-- ---- after a time was put in

pub inserted : {row row' : List ℕ} {count t r : ℕ} → Inserted row row' count t r → insert_once t (take count row) ≡ take r row'
inserted {row} {row'} {count} {t} {r} i = sym (rw i.row_is (take_at (insert_once t (take count row)) _ r (sym i.count_is)))

-- the place of a later time is not before
pub place_next : {row row' : List ℕ} {count t r : ℕ} → Inserted row row' count t r → 1 ≤ t → {p : ℕ} → p ≡ leading (t - 1) (take count row) → (t' : ℕ) → t ≤ t' → p ≤ leading (t' - 1) (take r row')
place_next {row} {row'} {count} {t} {r} i pos {p} q t' h =
    let l : leading (t - 1) (take count row) ≤ leading (t' - 1) (insert_once (suc (t - 1)) (take count row)) = place_later (t - 1) (t' - 1) (omega arith) (take count row) in
    let same : insert_once (suc (t - 1)) (take count row) ≡ take r row' = ap (λ (x : ℕ). insert_once x (take count row)) (sym (not_zero t pos)) ∙ inserted i in
    rw (← same) (omega arith)
