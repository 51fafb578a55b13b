-- The words that a run is handed: for each input a before word, and for each of its changes an after word, inputs in order. The
-- bits of a word are the 64 lanes.
use Rattle.std.specs.Prelude.{ℕ, Bool, ◌&&◌, List, length, eqb}
use Rattle.method.specs.declared.Words as code

pub record WordLists : Type 0 where
  pub before : List ℕ
  pub after : List ℕ

abbrev pub word_lists : List ℕ → List ℕ → WordLists
word_lists before after = record { before = before; after = after }

-- from the struct that the code hands on
abbrev pub words_in : code.Words → WordLists
words_in w = word_lists w.before.now w.after.now

-- how many words each list has: all that a question takes of them
pub record Lengths : Type 0 where
  pub before : ℕ
  pub after : ℕ

abbrev pub lengths_of : WordLists → Lengths
lengths_of w = record { before = length w.before; after = length w.after }

-- 11: Has the before list a word for each of the I inputs, and the after list as many as there are change times, as they are
-- handed in?
unfoldable pub words_suit : ℕ → ℕ → Lengths → Bool
words_suit inputs changes l = eqb l.before inputs && eqb l.after changes
