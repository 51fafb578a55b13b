-- The two editions of the circuit file, each a record of what tells it apart. The present one, whose delays are picoseconds, is
-- that of every call. The former one is read and written by the converters alone.
use Rattle.std.specs.Prelude.{ℕ, true, false, cond}
use Rattle.editions.specs.declared.Edition.{Edition}

-- bytes 0-1 hold I and `added` more; a delay is a two-byte number where it is `wide`, else a byte; `most` is the greatest delay
abbrev pub former : Edition
former = record { added = 0; wide = false; most = 63 }

abbrev pub present : Edition
present = record { added = 256; wide = true; most = 60000 }

-- how many bytes a delay has
unfoldable pub delay_bytes : Edition → ℕ
delay_bytes e = cond e.wide 2 1
