-- The raw words of a gate, written one after the other: the rows point below the gate's own frames, so what is written
-- does not alter what is read.
-- Assumes nothing.
use Prim.Native.Nat.{ℕ, ◌+◌, ◌*◌, ◌≤◌, ◌<◌}
use mathlib.Core.Path.{◌≡◌, refl, sym, ap, ◌∙◌}
use mathlib.Core.List.{List, [], ◌∷◌}
use native.Mathlib.Omega.{arith}
use native.Mathlib.Nat.{add-zero, mul-le-mul_right}
use lib.ListN.{length, get_or, take, set}
use lib.Seq.{sets, get_or-take, take-set-le}
use Rattle.lists.specs.Tables.{tabulate_from}
use Rattle.lists.proofs.Tabled.{from_length, tabulate_at, from_ext}
use Rattle.lists.proofs.Storing.{Left, none, more, all}
use Rattle.method.specs.declared.Kind.{Kind}
use Rattle.evaluation.specs.Steps.{gate_word, source_at, sources, Points, Row, raw_words, Raw}

agree : (first : ℕ) (v w : List ℕ) → take first v ≡ take first w → (i : ℕ) → i < first → get_or v i 0 ≡ get_or w i 0
agree first v w e i h = sym (get_or-take first v i 0 h) ∙ ap (λ (l : List ℕ). get_or l i 0) e ∙ get_or-take first w i 0 h

row_fits : (i n m : ℕ) → i < n → i * m + m ≤ n * m
row_fits i n m h = let l : (i + 1) * m ≤ n * m = mul-le-mul_right m (omega arith) in let q : (i + 1) * m ≡ i * m + m = omega arith in omega arith

-- the words of a row from words that are the same wherever it points
sources_same : (v w bases fan : List ℕ) (at entries : ℕ) → ((e : ℕ) → e < entries → source_at v bases fan at e ≡ source_at w bases fan at e)
    → sources v bases fan at entries ≡ sources w bases fan at entries
sources_same v w bases fan at entries h = from_ext entries 0 _ _ (λ e a b. h e (omega arith))

pub raw_length : (v bases fan : List ℕ) (k : Kind) (entries at n : ℕ) → length (raw_words v bases fan k entries at n) ≡ n
unfolding raw_words
raw_length v bases fan k entries at n = from_length n 0 _

pub raw_at_lem : (v bases fan : List ℕ) (k : Kind) (entries at n i : ℕ) → i < n → get_or (raw_words v bases fan k entries at n) i 0 ≡ gate_word k (sources v bases fan (at + i * entries) entries)
unfolding raw_words
raw_at_lem v bases fan k entries at n i h = tabulate_at n _ 0 i h

module _ (v₀ bases fan : List ℕ) (k : Kind) (at entries first n : ℕ) where
  -- i frames are written into v, and the next row is at `row`
  pub record Written (v : List ℕ) (row i : ℕ) : Type 0 where
    pub most : i ≤ n
    pub left : Left v₀ first (raw_words v₀ bases fan k entries at n) v i
    pub next : row ≡ at + i * entries
    pub low : take first v ≡ take first v₀

  pub written_none : Written v₀ at 0
  written_none = record { most = omega arith; left = none v₀ first (raw_words v₀ bases fan k entries at n); next = omega arith; low = refl }

  module _ (g : Raw (length v₀) bases fan k at entries first n) {v : List ℕ} {row i : ℕ} (w : Written v row i) where
    -- the next row can be read
    pub written_row : i < n → Row (length v) bases fan row entries
    written_row h =
        record {
          few = g.few;
          within = omega (arith, row_fits i n entries h, g.within, w.next);
          points = λ e l. rw (w.next, w.left.same) (omega (arith, g.points i e h l, g.room));
        }

    pub written_more : i < n → (x : ℕ) → x ≡ gate_word k (sources v bases fan row entries) → Written (set v (first + i) x) (row + entries) (i + 1)
    written_more h x e =
        record {
          most = omega arith;
          left = more w.left (rw (raw_length v₀ bases fan k entries at n) h) (e ∙ rw w.next (ap (gate_word k) (sources_same v v₀ bases fan (at + i * entries) entries (λ e l. agree first v v₀ w.low _ (g.points i e h l)))) ∙ sym (raw_at_lem v₀ bases fan k entries at n i h));
          next = let q : (i + 1) * entries ≡ i * entries + entries = omega arith in omega (arith, w.next);
          low = take-set-le first v (first + i) x (omega arith) ∙ w.low;
        }

    pub written_all : n ≤ i → v ≡ sets v₀ first (raw_words v₀ bases fan k entries at n)
    written_all h = all w.left (rw (raw_length v₀ bases fan k entries at n) h)

-- a row of two
pub pair_sources : (v fan : List ℕ) (x y row : ℕ) {a b : ℕ} → a ≡ get_or v (x + get_or fan row 0) 0 → b ≡ get_or v (y + get_or fan (row + 1) 0) 0
    → ◌≡◌ {A = List ℕ} (a ∷ b ∷ []) (sources v (x ∷ y ∷ []) fan row 2)
unfolding tabulate_from
pair_sources v fan x y row a b = rw (a, b, add-zero row)

-- an entry of a row that can be read
pub row_points : {limit : ℕ} {bases fan : List ℕ} {at entries : ℕ} → Row limit bases fan at entries → (e : ℕ) → e < entries → Points limit (get_or bases e 0) fan (at + e)
row_points r e h = record { within = omega (arith, r.within); below = r.points e h }
