-- A line that says a stretch has at most 12,720 bytes: what stands behind 12,721 does not matter. Assumes nothing.
use mathlib.Core.Path.{◌≡◌, sym, ap, ◌∙◌}
use mathlib.Core.Bool.{Bool}
use mathlib.Core.List.{List}
use Prim.Native.Nat.{ℕ, ◌≤◌, ◌<◌}
use native.Mathlib.Decide.{dec_lt}
use native.Mathlib.Omega.{arith}
use lib.ListN.{length, take, length-append}
use lib.Seq.{take_all, length-take-le}
use Rattle.format.specs.Listing.{stretch_line, bad, line_says}
use Rattle.format.specs.Reading.{stretch_limit}
use Rattle.format.proofs.InputLines.{never_says}
use Rattle.text.proofs.HexDigits.{hex_long}
use Rattle.text.proofs.Values.{decimal_long}
use Rattle.lister.specs.Steps.{line_room}

-- five digits, a tab, 12,713 digits, a line feed
line_short : (l : List Bool) → length l ≤ stretch_limit → length (stretch_line l) < line_room
unfolding stretch_line
line_short l few = simp length-append (omega (arith, hex_long l, decimal_long 4 (length l) (omega arith)))

long_bad : (line : List ℕ) → line_room ≤ length line → line_says line ≡ bad
long_bad line long = never_says line (λ l few e. omega (arith, line_short l few, ap length e))

pub cut_says : (room : ℕ) (line : List ℕ) → line_room ≤ room → line_says (take room line) ≡ line_says line
cut_says room line large = go (dec_lt room (length line))
  where
    go : Dec (room < length line) → line_says (take room line) ≡ line_says line
    go (yes long) = long_bad (take room line) (rw (length-take-le room line (omega arith)) large) ∙ sym (long_bad line (omega arith))
    go (no short) = ap line_says (take_all room line (omega arith))
