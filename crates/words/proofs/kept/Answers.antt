-- `words::kept` meets its contract. By how many of the following words there are: none, one, or more.
use native.Mathlib.Omega.{arith}
use Rattle.words.proofs.Keeping.{none_counts, one_counts, more_count}
use Rattle.words.proofs.kept.Goals as goal

pub returns-in-empty : goal.returns-in-empty
returns-in-empty c = let s = c.args in none_counts s.before s.raw (omega arith) (omega arith) s.following.now c.in-empty.len_below

pub returns-in-len1 : goal.returns-in-len1
returns-in-len1 c = let s = c.args in
    one_counts s.before s.raw (omega arith) (omega arith) s.following.now c.in-len1.len_at_least c.in-len1.len_below (omega (arith, c.type_inv.following 0))

pub returns-in-len1-up : goal.returns-in-len1-up
returns-in-len1-up c = let s = c.args in
    more_count s.before s.raw (omega arith) (omega arith) s.following.now c.in-len1-up.len_at_least (omega (arith, c.type_inv.following 0)) c.differing.ensures
