-- The file of a circuit within the limits: it is a file of bytes, its parts stand where the reader looks for them, and every
-- question is answered yes.
-- Assumes nothing.
use Prim.Native.Nat.{ℕ, suc, ◌+◌, ◌-◌, ◌*◌, ◌/◌, ◌<◌, ◌≤◌}
use mathlib.Core.Path.{◌≡◌, refl}
use mathlib.Core.List.{List, [], ◌∷◌, ◌++◌, flat_map}
use mathlib.Core.Bool.{Bool, true, false, cond}
use native.Mathlib.Omega.{arith}
use native.Mathlib.Nat.{add-suc, add-zero}
use lib.ListN.{length, length-append}
use borrow.Author.Tests.{eq-eqb, le-leb}
use Rattle.lists.specs.Ladder.{between}
use Rattle.lists.proofs.Choices.{here_or_later, and_both, between_yes}
use Rattle.lists.proofs.Standing.{Stands, stands_left, stands_right, stands_itself}
use Rattle.method.specs.Kinds.{most_fanins}
use Rattle.method.specs.Circuit.{Gate, Circuit}
use Rattle.method.proofs.Taking.{takes_range}
use Rattle.editions.specs.File.{inputs_of, gates_of, head_length, length_of, record_head, record_length}
use Rattle.editions.specs.Limits.{delays_suit, GateWithin, GatesWithin, Within, delay_range, Writable}
use Rattle.editions.specs.Questions.{fills, length_suits}
use Rattle.editions.specs.Encode.{two_bytes, encode_delay, encode_head, encode_gate, encode_pairs, encode}
use Rattle.editions.specs.Faithful.{Bytes}
use Rattle.numbers.specs.Numbers.{number_at}
use Rattle.editions.proofs.Bytewise.{number_stands, kind_number_lem, kind_most, AllBytes, bytes_append, bytes_at, bytes_two, bytes_fanins}
use Rattle.editions.proofs.Accepted.{Head, GatePassed}
use Rattle.editions.proofs.Written.{gate_length, pairs_length, Written, WrittenFrom, stands→written}
use Rattle.editions.specs.declared.Edition.{Edition}
use Rattle.editions.specs.Edition.{delay_bytes}

module _ (ed : Edition) where
  -- ---- where the parts stand

  pub record Encoded (c : Circuit) (s : List ℕ) : Type 0 where
    pub held : number_at s 0 ≡ c.inputs + ed.added
    pub inputs : inputs_of ed s ≡ c.inputs
    pub gates : gates_of s ≡ length c.gates
    pub written : WrittenFrom ed s 0 (head_length (length c.gates)) c.gates
    pub long : head_length (length c.gates) + length (flat_map (encode_gate ed) c.gates) ≡ length s

  inputs_held : (s : List ℕ) (i : ℕ) → number_at s 0 ≡ i + ed.added → inputs_of ed s ≡ i
  unfolding inputs_of
  inputs_held s i e = omega arith

  pub encoded : (c : Circuit) → Encoded c (encode ed c)
  unfolding encode two_bytes
  encoded c =
      let g = length c.gates in
      let pairs = encode_pairs ed (head_length g) c.gates in
      let records = flat_map (encode_gate ed) c.gates in
      let first = two_bytes (c.inputs + ed.added) in
      let s = first ++ (two_bytes g ++ (pairs ++ records)) in
      let all = stands_itself s in
      let rest : Stands s 2 (two_bytes g ++ (pairs ++ records)) = stands_right s 0 first (two_bytes g ++ (pairs ++ records)) all in
      let both : Stands s 4 (pairs ++ records) = stands_right s 2 (two_bytes g) (pairs ++ records) rest in
      let place : 4 + length pairs ≡ head_length g = omega (arith, pairs_length ed (head_length g) c.gates) in
      let held = number_stands s 0 (c.inputs + ed.added) (stands_left s 0 first (two_bytes g ++ (pairs ++ records)) all) in
      record {
        held = held;
        inputs = inputs_held s c.inputs held;
        gates = number_stands s 2 g (stands_left s 2 (two_bytes g) (pairs ++ records) rest);
        written = stands→written ed s 0 (head_length g) c.gates (stands_left s 4 pairs records both) (rw place at (stands_right s 4 pairs records both));
        long = omega (arith, place, length-append pairs records);
      }

  -- ---- every question is answered yes

  fills_written : (s : List ℕ) (j at : ℕ) (gs : List Gate) → WrittenFrom ed s j at gs → at + length (flat_map (encode_gate ed) gs) ≡ length s → fills (record_head ed) s (length gs) j at ≡ true
  unfolding fills flat_map
  fills_written s j at [] w e = eq-eqb at (length s) (omega arith)
  fills_written s j at (g ∷ gs) w e =
      let len = record_length ed (length g.fanins) in
      rw (w.0.offset, w.0.len, eq-eqb at at refl, le-leb (record_head ed) len (omega arith))
      (fills_written s (suc j) (at + len) gs w.1 (omega (arith, gate_length ed g, length-append (encode_gate ed g) (flat_map (encode_gate ed) gs))))

  delays_within : (net : ℕ) (g : Gate) → GateWithin ed net g → delays_suit ed g.delay g.inertial ≡ true
  unfolding delays_suit
  delays_within net g w =
      and_both (between 1 ed.most g.delay) (between 0 ed.most g.inertial) (between_yes _ _ _ w.delay_least w.delay_most)
      (between_yes _ _ _ (omega arith) w.inertial_most)

  length_within : (net : ℕ) (g : Gate) → GateWithin ed net g → length_suits ed (record_length ed (length g.fanins)) g.kind (length g.fanins) ≡ true
  unfolding length_suits
  length_within net g w = rw (eq-eqb (record_length ed (length g.fanins)) _ refl) w.entries

  gate_passes : (s : List ℕ) (j at : ℕ) (g : Gate) → Written ed s j at g → GateWithin ed (inputs_of ed s + j) g → GatePassed ed s j
  gate_passes s j at g w l =
      let m : (length_of s j - record_head ed) / 2 ≡ length g.fanins = omega (arith, w.len) in
      record {
        kind_most = rw w.kind (kind_most g.kind);
        delays = rw (w.delay, w.inertial) (delays_within _ g l);
        suits = rw (m, w.len, w.kind, kind_number_lem g.kind) (length_within _ g l);
        below = rw w.fanins l.below;
      }

  gates_pass : (s : List ℕ) (j at : ℕ) (gs : List Gate) → WrittenFrom ed s j at gs → GatesWithin ed (inputs_of ed s + j) gs → (k : ℕ) → j ≤ k → k < j + length gs → GatePassed ed s k
  gates_pass s j at [] w l k a b = absurd (omega arith)
  gates_pass s j at (g ∷ gs) w l k a b =
      here_or_later (GatePassed ed s) j k a (gate_passes s j at g w.0 l.0)
      (λ h. gates_pass s (suc j) (at + record_length ed (length g.fanins)) gs w.1 (rw (add-suc (inputs_of ed s) j) l.1) k h (omega arith))

  pub encoded_head : (c : Circuit) (s : List ℕ) → Within ed c → Encoded c s → Head ed s
  encoded_head c s l e =
      let gates = e.gates in
      let held = e.held in
      let long = e.long in
      record {
        long = omega arith;
        held_least = omega (arith, l.inputs_least);
        held_most = omega (arith, l.inputs_most);
        gates_most = rw gates l.gates_most;
        room = omega arith;
        filled = rw gates (fills_written s 0 (head_length (length c.gates)) c.gates e.written long);
      }

  pub encoded_gates : (c : Circuit) (s : List ℕ) → Within ed c → Encoded c s → (k : ℕ) → k < gates_of s → GatePassed ed s k
  encoded_gates c s l e k h =
      gates_pass s 0 (head_length (length c.gates)) c.gates e.written (rw (e.inputs, add-zero c.inputs) l.gates_within) k (omega arith) (omega (arith, e.gates))

  -- ---- every number is a byte

  head_most_by : (wide : Bool) → cond wide 2 1 ≤ 2
  head_most_by true = omega arith
  head_most_by false = omega arith

  pub head_most : record_head ed ≤ 5
  unfolding delay_bytes
  head_most = omega (arith, head_most_by ed.wide)

  bytes_delay_by : (wide : Bool) (d : ℕ) → d < cond wide 65536 256 → AllBytes (cond wide (two_bytes d) (d ∷ []))
  bytes_delay_by true d h = bytes_two d h
  bytes_delay_by false d h = (h, tt)

  module _ (fit : Writable ed) where
    bytes_delay : (d : ℕ) → d ≤ ed.most → AllBytes (encode_delay ed d)
    unfolding encode_delay delay_range
    bytes_delay d h = bytes_delay_by ed.wide d (omega (arith, fit.delays))

    bytes_head : (net : ℕ) (g : Gate) → GateWithin ed net g → AllBytes (encode_head ed g.kind g.delay g.inertial)
    unfolding encode_head
    bytes_head net g w = (
      omega (arith, kind_most g.kind),
      bytes_append (encode_delay ed g.delay) (encode_delay ed g.inertial) (bytes_delay g.delay w.delay_most) (bytes_delay g.inertial w.inertial_most),
    )

    bytes_gate : (net : ℕ) (g : Gate) → net < 65536 → GateWithin ed net g → AllBytes (encode_gate ed g)
    unfolding encode_gate
    bytes_gate net g h w =
        bytes_append (encode_head ed g.kind g.delay g.inertial) (flat_map two_bytes g.fanins) (bytes_head net g w)
        (bytes_fanins net g.fanins h w.below)

    bytes_records : (net : ℕ) (gs : List Gate) → net + length gs < 65536 → GatesWithin ed net gs → AllBytes (flat_map (encode_gate ed) gs)
    unfolding flat_map
    bytes_records net [] h w = tt
    bytes_records net (g ∷ gs) h w =
        bytes_append (encode_gate ed g) (flat_map (encode_gate ed) gs) (bytes_gate net g (omega arith) w.0) (bytes_records (suc net) gs (omega arith) w.1)

    -- a record's head has at most 5 bytes
    bytes_pairs : (net at : ℕ) (gs : List Gate) → at + (5 + 2 * most_fanins) * length gs < 65536 → GatesWithin ed net gs → AllBytes (encode_pairs ed at gs)
    unfolding encode_pairs
    bytes_pairs net at [] h w = tt
    bytes_pairs net at (g ∷ gs) h w =
        let len = record_length ed (length g.fanins) in
        let m : length g.fanins ≤ most_fanins = (takes_range g.kind (length g.fanins) w.0.entries).1 in
        let most : len ≤ 5 + 2 * most_fanins = omega (arith, head_most) in
        bytes_append (two_bytes at) (two_bytes len ++ encode_pairs ed (at + len) gs) (bytes_two at (omega arith))
        (bytes_append (two_bytes len) (encode_pairs ed (at + len) gs) (bytes_two len (omega arith)) (bytes_pairs (suc net) (at + len) gs (omega arith) w.1))

    pub encoded_bytes : (c : Circuit) → Within ed c → Bytes (encode ed c)
    unfolding encode
    encoded_bytes c l =
        let g = length c.gates in
        let i = l.inputs_most in
        let m = l.gates_most in
        let first = two_bytes (c.inputs + ed.added) in
        let pairs = encode_pairs ed (head_length g) c.gates in
        let records = flat_map (encode_gate ed) c.gates in
        bytes_at (first ++ (two_bytes g ++ (pairs ++ records)))
        (bytes_append first (two_bytes g ++ (pairs ++ records)) (bytes_two (c.inputs + ed.added) (omega (arith, fit.counts)))
        (bytes_append (two_bytes g) (pairs ++ records) (bytes_two g (omega arith))
        (bytes_append pairs records (bytes_pairs c.inputs (head_length g) c.gates (omega arith) l.gates_within) (bytes_records c.inputs c.gates (omega arith) l.gates_within))))
