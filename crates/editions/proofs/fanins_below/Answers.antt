-- `editions::fanins_below` meets its contract: the test of each place is whether the entry there is below the net.
use Prim.Native.Nat.{ℕ, zero, suc}
use mathlib.Core.Path.{◌≡◌, refl, ap, ◌∙◌}
use mathlib.Core.Bool.{Bool, ◌&&◌}
use native.Mathlib.Nat.{sub-zero}
use native.Mathlib.Numerals.{add-one}
use lib.Dec.{ltb}
use borrow.Author.Rules.{rules}
use borrow.Author.Tests.{tests}
use Rattle.std.specs.List.{list_all, range_with_len}
use Rattle.std.proofs.lemmas.Iterator.{YieldsList-from_range}
use Rattle.std.proofs.lemmas.Iterator.Search.{all_from_yields_List}
use Rattle.lists.specs.Tables.{tabulate_from, all_below}
use Rattle.editions.specs.File.{fanin_at}
use Rattle.editions.proofs.fanins_below.Goals as goal

-- a test of n places from j on is the test of the table's entries
below_all : (net : ℕ) (f : ℕ → ℕ) (n j : ℕ) → list_all (λ (i : ℕ). ltb (f i) net) (range_with_len j n) ≡ all_below net (tabulate_from n j f)
unfolding all_below tabulate_from
below_all net f zero j = refl
below_all net f (suc n) j = rw (add-one j) (ap (λ (b : Bool). ltb (f j) net && b) (below_all net f n (suc j)))

pub returns : goal.returns
returns c =
    let test : ℕ → Bool = λ i. ltb (fanin_at c.args.file.now c.args.list i) c.args.net.0 in
    (all_from_yields_List test _ _ _ c.all.ensures.ran (YieldsList-from_range 0 c.args.entries c.args.entries (search rules) (search (rules, sub-zero))) (λ x b q k. search (rules, tests)))
    ∙ below_all c.args.net.0 (fanin_at c.args.file.now c.args.list) c.args.entries 0
