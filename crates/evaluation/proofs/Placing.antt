-- The words of one gate put into the values area: the raw words first, then the filtered ones in their place.
-- Assumes nothing.
use Prim.Native.Nat.{ℕ, zero, suc, ◌+◌, ◌-◌, ◌*◌, ◌<◌}
use mathlib.Core.Path.{◌≡◌, refl, sym, ap, ◌∙◌}
use mathlib.Core.List.{List, [], ◌∷◌}
use native.Mathlib.Omega.{arith}
use lib.ListN.{length, get_or, take, drop}
use lib.Seq.{sets}
use borrow.Rule.Slice.PartMut.{put_mid}
use Rattle.lists.proofs.Tabled.{from_ext, tabulate_at}
use Rattle.method.specs.Words.{lanes, lane, pack}
use Rattle.method.proofs.Bits.{pack_lt, pack_is}
use Rattle.editions.specs.declared.GateRecord.{GateRecord}
use Rattle.circuit.specs.File.{fanin_at}
use Rattle.evaluation.specs.declared.rows.Rule.{Rule}
use Rattle.method.specs.Layout.{first_frame, frame_count, part_of}
use Rattle.words.specs.Filtered.{filtered_words}
use Rattle.evaluation.specs.Steps.{gate_word, target, raw_words, Raw, bases_of, Bases, gate_words, Ready, rule_of}
use Rattle.evaluation.proofs.Writing.{raw_length, raw_at_lem}
use Rattle.lists.proofs.Storing.{stored_part, put_part}
use Rattle.words.proofs.Filtering.{filtered_length, still_words}
use Rattle.method.proofs.Laying.{part_length}

-- ---- an array that holds the bases

module _ {file d : List ℕ} (g : GateRecord) {bases : List ℕ} (b : Bases file d g.list g.entries bases) (f : List ℕ) where
  base_same : (e : ℕ) → e < g.entries → get_or bases e 0 ≡ get_or (bases_of file d g) e 0
  base_same e h = b.base e h ∙ sym (tabulate_at g.entries _ 0 e h)

  target_same : (at e : ℕ) → e < g.entries → target bases f at e ≡ target (bases_of file d g) f at e
  target_same at e h = ap (λ (n : ℕ). n + get_or f (at + e) 0) (base_same e h)

  raw_with : {size at first n : ℕ} → Raw size (bases_of file d g) f g.kind at g.entries first n → Raw size bases f g.kind at g.entries first n
  raw_with {size} {at} {first} {n} r =
      record {
        taken = r.taken;
        few = r.few;
        room = r.room;
        within = r.within;
        points = λ i e h l. rw (target_same (at + i * g.entries) e l) (r.points i e h l);
      }

  raws_with : (v : List ℕ) (at n : ℕ) → raw_words v bases f g.kind g.entries at n ≡ raw_words v (bases_of file d g) f g.kind g.entries at n
  unfolding raw_words
  raws_with v at n =
      from_ext n 0 _ _ (λ i a z. ap (gate_word g.kind) (from_ext g.entries 0 _ _ (λ e p q. ap (λ (m : ℕ). get_or v m 0) (target_same (at + i * g.entries) e (omega arith)))))

  -- with the gate's rule: the rows can be read, and what is stored then are the gate's raw words
  module _ {m : ℕ} (e : m ≡ g.entries) {r : Rule} (is : r ≡ rule_of g.kind) where
    pub readable : {size at first n : ℕ} → Raw size (bases_of file d g) f g.kind at g.entries first n → Raw size bases f r.kind at m first n × (r ≡ rule_of r.kind)
    readable w = rw (is, e) (raw_with w, refl)

    pub raw_kept : (v : List ℕ) (at first n : ℕ) {v₁ : List ℕ} → v₁ ≡ sets v first (raw_words v bases f r.kind m at n) → v₁ ≡ sets v first (raw_words v (bases_of file d g) f g.kind g.entries at n)
    raw_kept v at first n w = (rw (is, e) at w) ∙ ap (sets v first) (raws_with v at n)

-- two bases by themselves
pub pair_bases : (file d : List ℕ) (list : ℕ) {x y entries : ℕ} → entries ≡ 2 → x ≡ first_frame d (fanin_at file list 0) → y ≡ first_frame d (fanin_at file list 1) → Bases file d list entries (x ∷ y ∷ [])
pair_bases file d list {x} {y} {entries} q a b = record { base = λ e h. go e (rw q at h) }
  where
    go : (e : ℕ) → e < 2 → get_or (x ∷ y ∷ []) e 0 ≡ first_frame d (fanin_at file list e)
    go zero h = a
    go (suc zero) h = b
    go (suc (suc e)) h = absurd (omega arith)

-- ---- one gate

module _ {file d i f : List ℕ} {net : ℕ} {g : GateRecord} {at : ℕ} (v : List ℕ) (r : Ready file d i f (length v) net g at) where
  raws : List ℕ
  raws = raw_words v (bases_of file d g) f g.kind g.entries at (frame_count d net)

  raws_length : length raws ≡ frame_count d net
  unfolding raws
  raws_length = raw_length v (bases_of file d g) f g.kind g.entries at (frame_count d net)

  even : length (part_of d i net) ≡ length raws
  even = part_length d i net r.indices ∙ sym raws_length

  -- each raw word is packed from its lanes
  raws_packed : (k : ℕ) → k < length raws → get_or raws k 0 ≡ pack lanes (λ (L : ℕ). lane L (get_or raws k 0))
  unfolding raws gate_word
  raws_packed k h =
      let e = raw_at_lem v (bases_of file d g) f g.kind g.entries at (frame_count d net) k (rw raws_length at h) in
      pack_is lanes (get_or raws k 0) _ (rw e (pack_lt lanes _)) (λ L l. refl)

  words_length : length (gate_words file d i f net g at v) ≡ frame_count d net
  unfolding gate_words raws
  words_length = filtered_length (part_of d i net) raws even ∙ raws_length

  module _ {v₁ : List ℕ} (w : v₁ ≡ sets v (first_frame d net) (raw_words v (bases_of file d g) f g.kind g.entries at (frame_count d net))) where
    raw_stored : v₁ ≡ sets v (first_frame d net) raws
    unfolding raws
    raw_stored = w

    pub gate_still : g.inertial ≡ 0 → v₁ ≡ sets v (first_frame d net) (gate_words file d i f net g at v)
    unfolding gate_words raws
    gate_still z = raw_stored ∙ ap (sets v (first_frame d net)) (sym (still_words (part_of d i net) raws even (r.still z) raws_packed))

    pub gate_stored : {end : ℕ} → end ≡ first_frame d net + frame_count d net → {part v₂ : List ℕ}
        → part ≡ filtered_words (take (end - first_frame d net) (drop (first_frame d net) i)) (take (end - first_frame d net) (drop (first_frame d net) v₁))
        → v₂ ≡ put_mid (first_frame d net) (end - first_frame d net) v₁ part → v₂ ≡ sets v (first_frame d net) (gate_words file d i f net g at v)
    unfolding gate_words part_of raws
    gate_stored {end} q {part} {v₂} e p =
        let n : end - first_frame d net ≡ frame_count d net = omega arith in
        let s : take (frame_count d net) (drop (first_frame d net) v₁) ≡ raws = rw raw_stored (stored_part v raws (first_frame d net) (frame_count d net) r.raw.room raws_length) in
        let e' : part ≡ gate_words file d i f net g at v = e ∙ rw (n, s) in
        p ∙ rw (n, raw_stored, e') (put_part v raws (gate_words file d i f net g at v) (first_frame d net) (frame_count d net) r.raw.room raws_length words_length)
