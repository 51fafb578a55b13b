-- The raw word of one frame, from its fan-ins' words, 64 lanes at once: the lanes in which some entry is 1, each turned, or
-- those in which an odd number are; flipped or not, that is the gate's function in every lane.
-- Assumes nothing.
use Prim.Native.Nat.{ℕ, ◌^◌, ◌<◌}
use mathlib.Core.Path.{◌≡◌, refl, sym, ap, ◌∙◌}
use mathlib.Core.Bool.{Bool, true, false, not, ◌&&◌, beq, or-false, true≢false, false≢true}
use mathlib.Core.List.{List, [], ◌∷◌, ◌++◌, map, map-map}
use native.Mathlib.Omega.{arith}
use lib.Dec.{lit<}
use lib.ListN.{length, get_or, length-map}
use Rattle.std.specs.Prelude.{if◌then◌else◌}
use lib.Bits.{bit_and, bit_or, bit_xor, and_lt, or_lt, xor_lt, xor_zero_r}
use borrow.Author.Tests.{eqb-true}
use Rattle.lists.specs.Tables.{every, some}
use Rattle.method.specs.declared.Kind.{Kind}
use Rattle.method.specs.declared.Kind.TheVariants.{Buf, Not, And, Nand, Or, Nor, Xor, Xnor}
use Rattle.method.specs.Kinds.{ones, odd, gate_fn, takes}
use Rattle.method.specs.Words.{lanes, lane}
use Rattle.method.proofs.Parity.{odd_one, odd_snoc}
use Rattle.method.proofs.Bits.{and_lane, or_lane, xor_lane, not_lane, zero_lane, pack_is}
use Rattle.evaluation.specs.declared.rows.Rule.{Rule}
use Rattle.evaluation.specs.Steps.{SomeOf, OddOf, gate_word, joined, mask, turned, parity, flipped, rule_of}
use Rattle.lists.proofs.Tabled.{map_snoc, some_snoc}

abbrev xor : Bool → Bool → Bool
xor a b = not (beq a b)

-- ---- some entry, turned

pub some_none : (turn : ℕ) → SomeOf turn [] 0
some_none turn = record { is = zero_lane }

-- a word more
pub some_more : {turn word : ℕ} {ws : List ℕ} → SomeOf turn ws word → (w : ℕ) → SomeOf turn (ws ++ (w ∷ [])) (bit_or word (bit_xor w turn))
some_more {turn} {word} {ws} t w =
    record {
      is = λ L.
          or_lane L word (bit_xor w turn)
          ∙ rw (t.is L, xor_lane L w turn, map_snoc (λ (w : ℕ). xor (lane L w) (lane L turn)) ws w) (sym (some_snoc (map (λ (w : ℕ). xor (lane L w) (lane L turn)) ws) (xor (lane L w) (lane L turn))));
    }

pub some_pair : (turn x y : ℕ) → SomeOf turn (x ∷ y ∷ []) (bit_or (bit_xor x turn) (bit_xor y turn))
some_pair turn x y =
    record { is = λ L. or_lane L (bit_xor x turn) (bit_xor y turn) ∙ rw (xor_lane L x turn, xor_lane L y turn, or-false (xor (lane L y) (lane L turn))) }

-- ---- an odd number of entries

pub odd_none : OddOf [] 0
odd_none = record { is = zero_lane }

-- a word more
pub odd_more : {word : ℕ} {ws : List ℕ} → OddOf ws word → (w : ℕ) → OddOf (ws ++ (w ∷ [])) (bit_xor word w)
odd_more {word} {ws} t w =
    record { is = λ L. xor_lane L word w ∙ rw (t.is L, map_snoc (lane L) ws w) (sym (odd_snoc (map (lane L) ws) (lane L w))) }

pub odd_pair : (x y : ℕ) → OddOf (x ∷ y ∷ []) (bit_xor x y)
odd_pair x y = odd_more {word = x} {ws = x ∷ []} (record { is = λ L. sym (odd_one (lane L x)) }) y

-- ---- either, as a rule asks

abbrev pub Asked : Bool → ℕ → List ℕ → ℕ → Type 0
Asked true turn ws word = OddOf ws word
Asked false turn ws word = SomeOf turn ws word

pub asked_none : (parity : Bool) (turn : ℕ) → Asked parity turn [] 0
asked_none true turn = odd_none
asked_none false turn = some_none turn

-- an entry more
pub asked_more : (r : Rule) (ws : List ℕ) (word w : ℕ) {next : ℕ} → Asked r.parity r.turn ws word → next ≡ joined r word w → Asked r.parity r.turn (ws ++ (w ∷ [])) next
asked_more r ws word w t e = rw e (go r.parity t)
  where
    go : (p : Bool) → Asked p r.turn ws word → Asked p r.turn (ws ++ (w ∷ [])) (if p then bit_xor word w else bit_or word (bit_xor w r.turn))
    go true t = odd_more t w
    go false t = some_more t w

-- ---- what a kind makes of them, on bits

xor_false : (a : Bool) → xor a false ≡ a
xor_false true = refl
xor_false false = refl

xor_true : (a : Bool) → xor a true ≡ not a
xor_true true = refl
xor_true false = refl

abbrev turned_bits : Bool → List Bool → List Bool
turned_bits b bs = map (λ (x : Bool). xor x b) bs

same_bits : (bs : List Bool) → turned_bits false bs ≡ bs
same_bits [] = refl
same_bits (b ∷ bs) = rw (xor_false b, same_bits bs)

every_some : (bs : List Bool) → not (some (turned_bits true bs)) ≡ every bs
every_some [] = refl
every_some (true ∷ bs) = every_some bs
every_some (false ∷ bs) = refl

not_not : (a : Bool) → not (not a) ≡ a
not_not true = refl
not_not false = refl

first_only : (bs : List Bool) → length bs ≡ 1 → some bs ≡ get_or bs 0 false
first_only [] e = absurd (omega arith)
first_only (b ∷ []) e = or-false b
first_only (b ∷ c ∷ bs) e = absurd (omega arith)

by_some : (k : Kind) (bs : List Bool) → takes k (length bs) ≡ true → parity k ≡ false → xor (some (turned_bits (turned k) bs)) (flipped k) ≡ gate_fn k bs
unfolding gate_fn takes
by_some Buf bs e x = rw (xor_false, same_bits bs) (first_only bs (eqb-true (length bs) 1 e))
by_some Not bs e x = rw (xor_true, same_bits bs) (ap not (first_only bs (eqb-true (length bs) 1 e)))
by_some And bs e x = rw xor_true (every_some bs)
by_some Nand bs e x = rw xor_false (sym (ap not (sym (every_some bs)) ∙ not_not (some (turned_bits true bs))))
by_some Or bs e x = rw (xor_false, same_bits bs)
by_some Nor bs e x = rw (xor_true, same_bits bs)
by_some Xor bs e x = absurd (true≢false x)
by_some Xnor bs e x = absurd (true≢false x)

by_odd : (k : Kind) (bs : List Bool) → parity k ≡ true → xor (odd (ones bs)) (flipped k) ≡ gate_fn k bs
unfolding gate_fn
by_odd Xor bs x = xor_false (odd (ones bs))
by_odd Xnor bs x = xor_true (odd (ones bs))
by_odd Buf bs x = absurd (false≢true x)
by_odd Not bs x = absurd (false≢true x)
by_odd And bs x = absurd (false≢true x)
by_odd Nand bs x = absurd (false≢true x)
by_odd Or bs x = absurd (false≢true x)
by_odd Nor bs x = absurd (false≢true x)

all_two : (a b : Bool) → a && b ≡ every (a ∷ b ∷ [])
all_two true true = refl
all_two true false = refl
all_two false b = refl

by_both : (k : Kind) (a b : Bool) → turned k ≡ true → xor (a && b) (xor true (flipped k)) ≡ gate_fn k (a ∷ b ∷ [])
unfolding gate_fn
by_both And a b x = xor_false (a && b) ∙ all_two a b
by_both Nand a b x = xor_true (a && b) ∙ ap not (all_two a b)
by_both Buf a b x = absurd (false≢true x)
by_both Not a b x = absurd (false≢true x)
by_both Or a b x = absurd (false≢true x)
by_both Nor a b x = absurd (false≢true x)
by_both Xor a b x = absurd (false≢true x)
by_both Xnor a b x = absurd (false≢true x)

-- ---- and on words

mask_lane : (b : Bool) (L : ℕ) → L < lanes → lane L (mask b) ≡ b
mask_lane true L h = not_lane lanes L 0 h (lit< tt) ∙ ap not (zero_lane L)
mask_lane false L h = zero_lane L

mask_word : (b : Bool) → mask b < 2 ^ lanes
mask_word true = lit< tt
mask_word false = lit< tt

turned_bits_lem : (b : Bool) (L : ℕ) → L < lanes → (ws : List ℕ) → map (λ (w : ℕ). xor (lane L w) (lane L (mask b))) ws ≡ turned_bits b (map (lane L) ws)
turned_bits_lem b L h ws = rw (mask_lane b L h) (sym (map-map (λ (x : Bool). xor x b) (lane L) ws))

module _ (r : Rule) (is : r ≡ rule_of r.kind) where
  flip_is : r.flip ≡ mask (flipped r.kind)
  flip_is = ap (λ (x : Rule). x.flip) is

  parity_is : r.parity ≡ parity r.kind
  parity_is = ap (λ (x : Rule). x.parity) is

  turn_is : r.turn ≡ mask (turned r.kind)
  turn_is = ap (λ (x : Rule). x.turn) is

  -- a word with the right lanes, flipped, is the gate's word
  made : (ws : List ℕ) (word : ℕ) → word < 2 ^ lanes → ((L : ℕ) → L < lanes → xor (lane L word) (flipped r.kind) ≡ gate_fn r.kind (map (lane L) ws)) → bit_xor word r.flip ≡ gate_word r.kind ws
  unfolding gate_word
  made ws word h e =
      pack_is lanes (bit_xor word r.flip) (λ (L : ℕ). gate_fn r.kind (map (lane L) ws)) (rw flip_is (xor_lt lanes word (mask (flipped r.kind)) h (mask_word (flipped r.kind))))
      (λ L l. xor_lane L word r.flip ∙ rw (flip_is, mask_lane (flipped r.kind) L l) (e L l))

  pub made_some : r.parity ≡ false → {ws : List ℕ} {word : ℕ} → SomeOf r.turn ws word → takes r.kind (length ws) ≡ true → word < 2 ^ lanes → bit_xor word r.flip ≡ gate_word r.kind ws
  made_some x {ws} {word} t e h =
      made ws word h (λ L l. rw (t.is L, turn_is, turned_bits_lem (turned r.kind) L l ws) (by_some r.kind (map (lane L) ws) (rw (length-map ws (lane L)) e) (sym parity_is ∙ x)))

  pub made_odd : r.parity ≡ true → {ws : List ℕ} {word : ℕ} → OddOf ws word → word < 2 ^ lanes → bit_xor word r.flip ≡ gate_word r.kind ws
  made_odd x {ws} {word} t h = made ws word h (λ L l. rw (t.is L) (by_odd r.kind (map (lane L) ws) (sym parity_is ∙ x)))

  pub made_asked : (ws : List ℕ) (word : ℕ) → Asked r.parity r.turn ws word → takes r.kind (length ws) ≡ true → word < 2 ^ lanes → bit_xor word r.flip ≡ gate_word r.kind ws
  made_asked ws word t e h = go r.parity refl t
    where
      go : (p : Bool) → r.parity ≡ p → Asked p r.turn ws word → bit_xor word r.flip ≡ gate_word r.kind ws
      go true x t = made_odd x t h
      go false x t = made_some x t e h

  -- two entries, none turned
  pub made_either : r.parity ≡ false → r.turn ≡ 0 → (x y : ℕ) → x < 2 ^ lanes → y < 2 ^ lanes → takes r.kind 2 ≡ true → bit_xor (bit_or x y) r.flip ≡ gate_word r.kind (x ∷ y ∷ [])
  made_either p none x y a b e =
      let same : bit_or (bit_xor x r.turn) (bit_xor y r.turn) ≡ bit_or x y = rw (none, xor_zero_r x, xor_zero_r y) in
      made_some p (rw (← same) (some_pair r.turn x y)) e (or_lt lanes x y a b)

  -- two entries, both turned
  turned_not_0 : (r.turn ≡ 0 → ⊥) → turned r.kind ≡ true
  turned_not_0 some = go (turned r.kind) refl
    where
      go : (b : Bool) → turned r.kind ≡ b → b ≡ true
      go true e = refl
      go false e = absurd (some (turn_is ∙ ap mask e))

  pub made_both : (r.turn ≡ 0 → ⊥) → (x y : ℕ) → x < 2 ^ lanes → y < 2 ^ lanes → bit_xor (bit_and x y) (bit_xor r.turn r.flip) ≡ gate_word r.kind (x ∷ y ∷ [])
  unfolding gate_word
  made_both some x y a b =
      let t : r.turn ≡ mask true = turn_is ∙ ap mask (turned_not_0 some) in
      let k : Kind = r.kind in
      pack_is lanes (bit_xor (bit_and x y) (bit_xor r.turn r.flip)) (λ (L : ℕ). gate_fn k (lane L x ∷ lane L y ∷ []))
      (xor_lt lanes (bit_and x y) (bit_xor r.turn r.flip) (and_lt lanes x y a b) (rw (t, flip_is) (xor_lt lanes (mask true) (mask (flipped k)) (mask_word true) (mask_word (flipped k)))))
      (λ L l.
      xor_lane L (bit_and x y) (bit_xor r.turn r.flip)
      ∙ rw (and_lane L x y, xor_lane L r.turn r.flip, t, flip_is, mask_lane true L l, mask_lane (flipped k) L l) (by_both k (lane L x) (lane L y) (turned_not_0 some)))
