-- What lent bytes say, opened in parts; and bytes that say no holding. Assumes nothing.
use mathlib.Core.Path.{◌≡◌, refl, sym, ◌∙◌}
use mathlib.Core.Bool.{Bool, true, false}
use mathlib.Core.List.{List}
use Prim.Native.Nat.{ℕ}
use lib.IntN.{ℤ}
use lib.ListN.{length, drop}
use Rattle.format.specs.declared.Refusal.{Refusal}
use Rattle.format.specs.Reading.{lent_tests}
use Rattle.holding.specs.declared.Outline.{Outline}
use Rattle.holding.specs.Outlines.{outline_of, whole_of}
use Rattle.holding.specs.Pictures.{sound}
use Rattle.passing.specs.Bytes.{littles}
use Rattle.passing.specs.Passing.{passes, said, holding_in}
use Rattle.passing.proofs.Returns.{sound_passes}
use Rattle.reader.specs.declared.Verdict.TheVariants.{Refused}
use Rattle.reader.specs.Readings.{tests_of, tested_by}
use Rattle.reader.proofs.Sought.{seen_tests}

-- the holding that they are together
pub opened : (hb : List ℕ) {o : Outline} {satellites strips : List ℕ} → passes hb ≡ true
    → o ≡ outline_of (said hb) → satellites ≡ littles 8 5 (drop 26 hb) → strips ≡ littles 2 64 (drop 66 hb)
    → whole_of o satellites strips ≡ holding_in hb
unfolding holding_in said
opened hb fine is masks cells = (λ i. whole_of (is i) (masks i) (cells i)) ∙ sym (rw fine)

-- bytes that do not pass are none
pub unsound : (hb : List ℕ) → passes hb ≡ false → sound (holding_in hb) ≡ false
unsound hb fails = go (sound (holding_in hb)) refl
  where
    go : (b : Bool) → sound (holding_in hb) ≡ b → sound (holding_in hb) ≡ false
    go true e = e ∙ sym (sound_passes hb e) ∙ fails
    go false e = e

-- so the tests of what is lent refuse them
pub refused_so : (hb bs : List ℕ) (end start : ℕ) (rows : List ℤ) {r : Refusal} → passes hb ≡ false → tested_by (lent_tests false bs end start (length rows)) ≡ Refused r
    → tested_by (tests_of (holding_in hb) bs end start (length rows)) ≡ Refused r
refused_so hb bs end start rows fails why = sym (seen_tests (holding_in hb) bs end start rows false (sym (unsound hb fails))) ∙ why
