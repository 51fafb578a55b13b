-- What holds of the filter on words: in every lane it is the filter of that lane's bits, so filtering again alters nothing.
-- `filter_again` in `proofs/Again` proves it.
use Rattle.std.specs.Prelude.{ℕ, ◌<◌, ◌≡◌, List, map, length}
use Rattle.method.specs.Filter.{filtered}
use Rattle.method.specs.Words.{lanes, lane}
use Rattle.words.specs.Filtered.{filtered_words}

pub record FilterAgain : Type 0 where
  -- words with an inertial index each, in each lane
  pub by_lanes : (inertial words : List ℕ) → length inertial ≡ length words → (L : ℕ) → L < lanes
      → map (lane L) (filtered_words inertial words) ≡ filtered inertial (map (lane L) words)
  -- whatever the words and the indices, what the filter has left it leaves as it is
  pub again : (inertial words : List ℕ) → filtered_words inertial (filtered_words inertial words) ≡ filtered_words inertial words
