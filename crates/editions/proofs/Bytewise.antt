-- What stands in a file byte by byte, the same in both editions: two-byte numbers, fan-in lists and kinds. Each is read where it
-- stands, and stands where it is read in a file of bytes.
-- Assumes nothing.
use Prim.Native.Nat.{ℕ, zero, suc, ◌+◌, ◌*◌, ◌/◌, ◌%◌, ◌<◌, ◌≤◌}
use mathlib.Core.Path.{◌≡◌, refl, ◌∙◌, ap₂}
use mathlib.Core.Bool.{true}
use mathlib.Core.List.{List, [], ◌∷◌, ◌++◌, map, flat_map}
use native.Mathlib.Omega.{arith}
use lib.ListN.{length, get_or, length-append, get_or-eq_default}
use lib.Dec.{ltb}
use borrow.Author.Tests.{ltb-true}
use Rattle.lists.specs.Tables.{tabulate_from, every, all_below}
use Rattle.lists.proofs.Choices.{order, and_left, and_right}
use mathlib.Core.Logic.{inl, inr}
use Rattle.lists.proofs.Standing.{Stands, stands_left, stands_right, stands_append, stands_head, stands_tail, stands_cons, stands_none}
use Rattle.method.specs.declared.Kind.{Kind}
use Rattle.method.specs.declared.Kind.TheVariants.{Buf, Not, And, Nand, Or, Nor, Xor, Xnor}
use Rattle.numbers.specs.Numbers.{number_at}
use Rattle.editions.specs.File.{fanin_at, kind_of}
use Rattle.method.specs.Kinds.{kind_number}
use Rattle.editions.specs.Encode.{two_bytes}
use Rattle.editions.specs.Faithful.{Bytes}

-- ---- two-byte numbers

pub byte_any : (s : List ℕ) → Bytes s → (i : ℕ) → get_or s i 0 < 256
byte_any s h i = elim (order (length s) i) [ inl a ↦ rw (get_or-eq_default s 0 a) (omega arith) | inr a ↦ h i a ]

pub number_stands : (s : List ℕ) (k n : ℕ) → Stands s k (two_bytes n) → number_at s k ≡ n
unfolding number_at two_bytes
number_stands s k n h =
    let low : get_or s k 0 ≡ n % 256 = stands_head s k (n % 256) (n / 256 ∷ []) h in
    let high : get_or s (k + 1) 0 ≡ n / 256 = stands_head s (k + 1) (n / 256) [] (stands_tail s k (n % 256) (n / 256 ∷ []) h) in
    omega arith

pub stands_number : (s : List ℕ) → Bytes s → (k n : ℕ) → number_at s k ≡ n → Stands s k (two_bytes n)
unfolding number_at two_bytes
stands_number s b k n e =
    let low : get_or s k 0 < 256 = byte_any s b k in
    let high : get_or s (k + 1) 0 < 256 = byte_any s b (k + 1) in
    stands_cons s k (n % 256) (n / 256 ∷ []) (omega arith) (stands_cons s (k + 1) (n / 256) [] (omega arith) (stands_none s (k + 1 + 1)))

pub two_length : (n : ℕ) → length (two_bytes n) ≡ 2
unfolding two_bytes
two_length n = refl

-- ---- fan-in lists

pub list_stands : (s : List ℕ) (list i : ℕ) (fs : List ℕ) → Stands s (list + 2 * i) (flat_map two_bytes fs) → tabulate_from (length fs) i (fanin_at s list) ≡ fs
unfolding tabulate_from flat_map
list_stands s list i [] h = refl
list_stands s list i (f ∷ fs) h =
    let here = stands_left s (list + 2 * i) (two_bytes f) (flat_map two_bytes fs) h in
    let there = stands_right s (list + 2 * i) (two_bytes f) (flat_map two_bytes fs) h in
    let q : (list + 2 * i) + length (two_bytes f) ≡ list + 2 * suc i = omega (arith, two_length f) in
    ap₂ ◌∷◌ (number_stands s (list + 2 * i) f here) (list_stands s list (suc i) fs (rw q at there))

pub stands_list : (s : List ℕ) → Bytes s → (list n i : ℕ) → Stands s (list + 2 * i) (flat_map two_bytes (tabulate_from n i (fanin_at s list)))
unfolding tabulate_from flat_map
stands_list s b list zero i = stands_none s (list + 2 * i)
stands_list s b list (suc n) i =
    let f = fanin_at s list i in
    let q : list + 2 * suc i ≡ (list + 2 * i) + length (two_bytes f) = omega (arith, two_length f) in
    stands_append s (list + 2 * i) (two_bytes f) (flat_map two_bytes (tabulate_from n (suc i) (fanin_at s list))) (stands_number s b (list + 2 * i) f refl) (rw q at (stands_list s b list n (suc i)))

pub list_length_lem : (fs : List ℕ) → length (flat_map two_bytes fs) ≡ 2 * length fs
unfolding flat_map
list_length_lem [] = refl
list_length_lem (f ∷ fs) = length-append (two_bytes f) (flat_map two_bytes fs) ∙ omega (arith, two_length f, list_length_lem fs)

-- ---- kinds

pub kind_number_lem : (k : Kind) → kind_of (kind_number k) ≡ k
unfolding kind_of
kind_number_lem Buf = refl
kind_number_lem Not = refl
kind_number_lem And = refl
kind_number_lem Nand = refl
kind_number_lem Or = refl
kind_number_lem Nor = refl
kind_number_lem Xor = refl
kind_number_lem Xnor = refl

pub number_kind : (n : ℕ) → n ≤ 7 → n ≡ kind_number (kind_of n)
unfolding kind_of
number_kind zero h = refl
number_kind (suc zero) h = refl
number_kind (suc (suc zero)) h = refl
number_kind (suc (suc (suc zero))) h = refl
number_kind (suc (suc (suc (suc zero)))) h = refl
number_kind (suc (suc (suc (suc (suc zero))))) h = refl
number_kind (suc (suc (suc (suc (suc (suc zero)))))) h = refl
number_kind (suc (suc (suc (suc (suc (suc (suc zero))))))) h = refl
number_kind (suc (suc (suc (suc (suc (suc (suc (suc n)))))))) h = absurd (omega arith)

pub kind_most : (k : Kind) → kind_number k ≤ 7
kind_most Buf = omega arith
kind_most Not = omega arith
kind_most And = omega arith
kind_most Nand = omega arith
kind_most Or = omega arith
kind_most Nor = omega arith
kind_most Xor = omega arith
kind_most Xnor = omega arith

-- ---- every number is a byte

abbrev pub AllBytes : List ℕ → Type 0
AllBytes [] = Unit {0}
AllBytes (x ∷ xs) = (x < 256) × AllBytes xs

pub bytes_append : (xs ys : List ℕ) → AllBytes xs → AllBytes ys → AllBytes (xs ++ ys)
bytes_append [] ys a b = b
bytes_append (x ∷ xs) ys a b = (a.0, bytes_append xs ys a.1 b)

pub bytes_at : (xs : List ℕ) → AllBytes xs → Bytes xs
bytes_at [] a i h = absurd (omega arith)
bytes_at (x ∷ xs) a zero h = a.0
bytes_at (x ∷ xs) a (suc i) h = bytes_at xs a.1 i (omega arith)

pub bytes_two : (n : ℕ) → n < 65536 → AllBytes (two_bytes n)
unfolding two_bytes
bytes_two n h = (omega arith, (omega arith, tt))

pub bytes_fanins : (net : ℕ) (fs : List ℕ) → net < 65536 → all_below net fs ≡ true → AllBytes (flat_map two_bytes fs)
unfolding all_below flat_map
bytes_fanins net [] h e = tt
bytes_fanins net (f ∷ fs) h e =
    let l : f < net = ltb-true f net (and_left (ltb f net) (every (map (λ (n : ℕ). ltb n net) fs)) e) in
    bytes_append (two_bytes f) (flat_map two_bytes fs) (bytes_two f (omega arith)) (bytes_fanins net fs h (and_right (ltb f net) (every (map (λ (n : ℕ). ltb n net) fs)) e))
