-- A number of a head as its 32 bits, so that it is tested and set without a look at its sign.
use Rattle.std.specs.Prelude.{ℕ, ℤ}
use Rattle.bits.specs.Signed.{unsigned}

unfoldable pub word_of : ℤ → ℕ
word_of v = unsigned 32 v
