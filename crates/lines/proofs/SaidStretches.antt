-- A line that says a stretch: where its digits stand, what its bits are as bytes, and how the code answers it. Assumes nothing.
use mathlib.Core.Path.{◌≡◌, refl, sym, ap, ◌∙◌}
use mathlib.Core.Bool.{Bool, true, false}
use mathlib.Core.List.{List, ◌∷◌, ◌++◌}
use Prim.Native.Nat.{ℕ, zero, suc, ◌+◌, ◌*◌, ◌/◌, ◌≤◌}
use native.Mathlib.Numerals.{add-one}
use native.Mathlib.Omega.{arith}
use lib.ListN.{length, take, drop, replicate, length-append, length-take, length-drop, take-append-drop}
use lib.Seq.{take-append-le, drop-append-le, take-append_seam, take-take, length-take-le}
use Rattle.bits.specs.BitLists.{number, bits, bytes}
use Rattle.bits.proofs.BitLists.{bits_append, bits_bytes, length_bytes}
use Rattle.format.specs.Listing.{Line, line_says, says, bad, bytes_said}
use Rattle.format.specs.Reading.{stretch_limit}
use Rattle.format.specs.Text.{decimal, hex, hex_bits}
use Rattle.format.proofs.InputLines.{says_line}
use Rattle.format.proofs.Texts.{hex_bits_hex}
use Rattle.text.proofs.HexDigits.{hex_long}
use Rattle.std.specs.Prelude.{Some, None}
use Rattle.lines.specs.declared.Line as Said
use Rattle.lines.specs.Digits.{hex_says}
use Rattle.lines.specs.Saying.{line_for}
use Rattle.lines.proofs.StretchLines.{its_digits, its_length, its_middle}

-- ---- its digits

-- bits whose digits stand in a line, from a place on
pub record SaidIn (line : List ℕ) (first : ℕ) (l : List Bool) : Type 0 where
  pub few : length l ≤ stretch_limit
  pub room : first + (length l + 3) / 4 ≤ length line
  pub said : hex_says (length l) (take ((length l + 3) / 4) (drop first line)) ≡ true
  pub own : take (length l) (hex_bits (take ((length l + 3) / 4) (drop first line))) ≡ l

-- what is taken of a list from within its front
from_front : (l : List ℕ) (filled first k : ℕ) → first + k ≤ length (take filled l) → take k (drop first (take filled l)) ≡ take k (drop first l)
from_front l filled first k room =
    sym
    (ap (λ (m : List ℕ). take k (drop first m)) (sym (take-append-drop filled l)) ∙ ap (take k) (drop-append-le first (take filled l) (drop filled l) (omega arith))
    ∙ take-append-le k (drop first (take filled l)) (drop filled l) (rw length-drop (omega arith)))

-- a line that fills a buffer up to a place
module _ (line : List ℕ) (filled : ℕ) (l : List Bool) (e : line_says (take filled line) ≡ says l) where
  abbrev first : ℕ
  first = suc (length (decimal (length l)))

  few : length l ≤ stretch_limit
  few = (says_line (take filled line) l e).1

  long : first + (length l + 3) / 4 + 1 ≡ length (take filled line)
  long = omega (arith, ap length (says_line (take filled line) l e).0, its_length l few, hex_long l)

  digits : take ((length l + 3) / 4) (drop first line) ≡ hex l
  digits =
      sym (from_front line filled first ((length l + 3) / 4) (omega (arith, long)))
      ∙ rw ((says_line (take filled line) l e).0, ← (add-one (length (decimal (length l))))) (its_middle l few ((length l + 3) / 4) (hex_long l))

  pub said_in : SaidIn line first l
  said_in =
      record {
        few = few;
        room = omega (arith, long, length-take filled line);
        said = rw digits (its_digits l few);
        own = rw digits (hex_bits_hex l);
      }

-- ---- its bits as bytes

pub length_said : (l : List Bool) → length (bytes_said l) ≡ (length l + 7) / 8
unfolding bytes_said
length_said l = length_bytes ((length l + 7) / 8) (l ++ replicate 7 false)

-- bits past the last byte make none
bytes_front : (count : ℕ) (l m : List Bool) → 8 * count ≤ length l → bytes count (l ++ m) ≡ bytes count l
unfolding bytes
bytes_front zero l m room = refl
bytes_front (suc count) l m room =
    let first : 8 ≤ length l = omega arith in
    rw (take-append-le 8 l m first, drop-append-le 8 l m first)
    (ap (λ (r : List ℕ). number (take 8 l) ∷ r) (bytes_front count (drop 8 l) m (rw (length-drop 8 l) (omega arith))))

pub bits_said_lem : (l : List Bool) (rest : List ℕ) → take (length l) (bits (bytes_said l ++ rest)) ≡ l
unfolding bytes_said
bits_said_lem l rest =
    let count : ℕ = (length l + 7) / 8 in
    let padded : List Bool = l ++ replicate 7 false in
    let front : List Bool = take (8 * count) padded in
    let room : 8 * count ≤ length padded = omega (arith, length-append l (replicate 7 false)) in
    let wide : length front ≡ 8 * count = length-take-le (8 * count) padded room in
    let same : bytes count padded ≡ bytes count front =
    ap (bytes count) (sym (take-append-drop (8 * count) padded)) ∙ bytes_front count front (drop (8 * count) padded) (omega (arith, wide)) in
    ap (take (length l)) (bits_append (bytes count padded) rest ∙ ap (λ (m : List Bool). m ++ bits rest) (ap bits same ∙ bits_bytes count front wide))
    ∙ take-append-le (length l) front (bits rest) (omega (arith, wide)) ∙ take-take (length l) (8 * count) padded (omega arith) ∙ take-append_seam l (replicate 7 false)

-- ---- the code's answer to a line

-- a stretch of so many bits, whose digits begin there
pub record SaysSo (t : Line) (n first : ℕ) : Type 0 where
  pub stretch : List Bool
  pub same : t ≡ says stretch
  pub long : n ≡ length stretch
  pub begins : first ≡ suc (length (decimal (length stretch)))

pub says_so : (t : Line) {said : Said.Line} → line_for t ≡ Some said → SaysSo t said.bits said.first
unfolding line_for
says_so (says l) e = record { stretch = l; same = refl; long = cc; begins = cc }
says_so bad e = absurd cc

pub bad_so : (t : Line) → line_for t ≡ None → t ≡ bad
unfolding line_for
bad_so (says l) e = absurd cc
bad_so bad e = refl

-- what making bytes of its digits asks for, and what they come to
module _ (line : List ℕ) (filled : ℕ) {n first : ℕ} (it : SaysSo (line_says (take filled line)) n first) where
  pub says_asked : (n ≤ stretch_limit) × (first + (n + 3) / 4 ≤ length line) × (hex_says n (take ((n + 3) / 4) (drop first line)) ≡ true)
  says_asked = let f = said_in line filled it.stretch it.same in rw (it.long, it.begins) (f.few, f.room, f.said)

  pub says_bytes : bytes_said (take n (hex_bits (take ((n + 3) / 4) (drop first line)))) ≡ bytes_said it.stretch
  says_bytes =
      (λ i. bytes_said (take (it.long i) (hex_bits (take ((it.long i + 3) / 4) (drop (it.begins i) line)))))
      ∙ ap bytes_said (said_in line filled it.stretch it.same).own
