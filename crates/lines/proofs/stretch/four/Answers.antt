use Rattle.std.proofs.Common.{◌≡◌, ℕ, ◌+◌, ◌*◌, ◌/◌, ◌%◌, ◌<◌, sym, arith}
use native.Mathlib.Decide.{dec_lt}
use borrow.Author.Tests.{lt-ltb, le-ltb}
use Rattle.format.specs.Text.{digit_char, char_digit}
use Rattle.lines.proofs.stretch.four.Goals as goal

says : (c n : ℕ) → n < 16 → digit_char n ≡ c → c % 16 + 9 * (c / 64) ≡ n
unfolding digit_char
says c n few own = go (dec_lt n 10)
  where
    go : Dec (n < 10) → c % 16 + 9 * (c / 64) ≡ n
    go (yes plain) = omega (arith, sym (rw (lt-ltb n 10 plain) at own))
    go (no capital) = omega (arith, sym (rw (le-ltb n 10 (omega arith)) at own))

pub returns : goal.returns
returns c =
    let value = says c.args.c (char_digit c.args.c) c.requires.0 c.requires.1 in
    record { value = value; upper_bound = omega (arith, value, c.requires.0) }
