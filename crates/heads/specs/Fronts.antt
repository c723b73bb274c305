-- The front of a message: its first 56 bits, those past the string's end being zero.
use Rattle.std.specs.Prelude.{◌≡◌, List, ℕ}
use Rattle.bits.specs.Places.{field}
use Rattle.format.specs.Ends.{Within}
use Rattle.heads.specs.declared.Front.{Front}

abbrev pub front_at : List ℕ → ℕ → ℕ → Front
front_at bytes end start = record { bits = field bytes start 56; end = end; start = start }

-- a front of a string, at a place of its stretch
pub record Opens (bytes : List ℕ) (f : Front) : Type 0 where
  pub within : Within bytes f.end f.start
  pub bits : f.bits ≡ field bytes f.start 56

-- a front of some string
pub record Opened (f : Front) : Type 0 where
  pub bytes : List ℕ
  pub opens : Opens bytes f
