-- A whole line, opened: its stretch is walked in the line buffer as on paper, or it is bad. Assumes nothing.
use mathlib.Core.Path.{◌≡◌, refl, sym, ap, ◌∙◌}
use mathlib.Core.Bool.{Bool, false}
use mathlib.Core.List.{List, [], ◌++◌}
use Prim.Native.Nat.{ℕ, suc, ◌+◌, ◌/◌, ◌^◌, ◌≤◌, ◌<◌}
use native.Mathlib.Nat.{le_refl}
use native.Mathlib.Omega.{arith}
use lib.IntN.{ℤ, pos}
use lib.ListN.{length, take, drop, replicate, length-replicate}
use lib.Seq.{sets, sets-eq, length-sets, take-append-le}
use Rattle.bits.specs.BitLists.{bits}
use Rattle.bits.proofs.BitLists.{bits_append, length_bits, length_bytes}
use Rattle.format.specs.Listing.{Line, says, bad, line_says, bytes_said, lines_from, list_line, list_lines, walk_said}
use Rattle.format.specs.Masks.{Held, lent, held_in}
use Rattle.format.specs.Reading.{stretch_limit, row_room, lent_after}
use Rattle.format.specs.Table.{table}
use Rattle.format.specs.Walking.{Walk}
use Rattle.format.proofs.AlikeWalks.{Alike, walk_alike}
use Rattle.format.proofs.InputLines.{says_line}
use Rattle.holding.specs.Pictures.{mask_of}
use Rattle.lister.specs.declared.State.{State}
use Rattle.lister.specs.declared.Work.TheVariants.{Whole}
use Rattle.lister.specs.Owed.{behind, walk_left, owed_by, owed}
use Rattle.lister.specs.Steps.{start, opens_as, line_room}
use Rattle.lister.proofs.Lefts.{left_listed, left_alike, left_start, counted_next}

-- ---- the stretch in the line buffer

said_long : (l : List Bool) → length (bytes_said l) ≡ (length l + 7) / 8
unfolding bytes_said
said_long l = length_bytes ((length l + 7) / 8) (l ++ replicate 7 false)

module _ (l : List Bool) (few : length l ≤ stretch_limit) (line : List ℕ) (large : line_room ≤ length line) where
  stored : sets line 0 (bytes_said l) ≡ bytes_said l ++ drop (0 + length (bytes_said l)) line
  stored = sets-eq (bytes_said l) line 0 (omega (arith, said_long l))

  -- the bits of the stretch come first
  same_bits : take (length l) (bits (sets line 0 (bytes_said l))) ≡ take (length l) (bits (bytes_said l))
  same_bits =
      let there : length l ≤ length (bits (bytes_said l)) = rw length_bits (omega (arith, said_long l)) in
      rw (stored, bits_append) (take-append-le (length l) (bits (bytes_said l)) (bits (drop (0 + length (bytes_said l)) line)) there)

  -- so it is walked as on paper
  walked_alike : (held : Held) → Alike (walk_left held (sets line 0 (bytes_said l)) (length l) 0) (walk_said held l)
  unfolding walk_left walk_said
  walked_alike held =
      let room : row_room ≤ length (replicate row_room (pos 0)) = rw length-replicate (le_refl row_room) in
      walk_alike table (sets line 0 (bytes_said l)) (bytes_said l) (length l) same_bits (rw length-sets (omega arith)) (omega (arith, said_long l)) (lent held) 0 _ _ room room

-- ---- the step

module _ (s : State) (filled : ℕ) (line : List ℕ) (rows : List ℤ) (input : List ℕ) (large : line_room ≤ length line) (few : s.number + 1 < 2 ^ 64) where
  opens_as_lem : (x : Line) → line_says (take filled line) ≡ x
      → let d = opens_as s x line rows in
      owed_by (Whole filled) (mask_of s.holding) s.number line input ≡ behind d.text (owed d.state d.line input)
  unfolding owed_by opens_as list_lines list_line behind left_listed
  opens_as_lem (says l) e =
      let held = mask_of s.holding in
      let alike = walked_alike l (says_line (take filled line) l e).1 line large held in
      let w : Walk = walk_said held l in
      rw e
      (ap (λ (t : List ℕ). behind t (list_lines (held_in (lent_after w.stop)) (suc s.number) (lines_from [] input))) (sym (left_start w))
      ∙ sym (left_alike alike start s.number input))
  opens_as_lem bad e = rw (e, counted_next s.number few)

  pub opens_owed :
      let d = opens_as s (line_says (take filled line)) line rows in
      owed_by (Whole filled) (mask_of s.holding) s.number line input ≡ behind d.text (owed d.state d.line input)
  opens_owed = opens_as_lem (line_says (take filled line)) refl
