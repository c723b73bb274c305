-- How many bits were missing (document 02, Ask 7): a program that is short by some bits is short at a field, which with fewer bits more, whatever they are, is
-- short still and with that many is not.
-- Assumes nothing.
use mathlib.Core.Path.{◌≡◌, refl, sym, ap, ◌∙◌}
use mathlib.Core.Bool.{Bool, true, false, cond, false≢true}
use mathlib.Core.List.{List, [], ◌∷◌, ◌++◌}
use Prim.Native.Nat.{ℕ, zero, suc, ◌+◌, ◌-◌, ◌≤◌, ◌<◌}
use native.Mathlib.Decide.{dec_lt}
use native.Mathlib.Nat.{suc-pred-eq_of_pos}
use native.Mathlib.Omega.{arith}
use borrow.Author.Tests.{le-leb, lt-leb}
use lib.ListN.{length, take, drop, length-append}
use lib.Seq.{take-append-le, drop-append-le}
use Rattle.format.specs.declared.Refusal.{Refusal}
use Rattle.format.specs.declared.Refusal.TheVariants.{Short}
use Rattle.format.specs.Missing.{whole_fields, Lacks}
use Rattle.format.specs.Programs.{Program, done, refuse, field, Ended, badly, later, run}
use Rattle.format.proofs.Runs.{run_field, run_short, later_badly, not_well}

-- ---- the field that is short

module _ {A : Type 0} (w : ℕ) (next : List Bool → Program A) (l : List Bool) where
  whole_there : w ≤ length l → whole_fields (field w next) l ≡ suc (whole_fields (next (take w l)) (drop w l))
  unfolding whole_fields
  whole_there there = rw (le-leb _ _ there)

  whole_none : length l < w → whole_fields (field w next) l ≡ 0
  unfolding whole_fields
  whole_none over = rw (lt-leb _ _ over)

  -- by how much
  short_by_lem : (missing : ℕ) → run (field w next) l ≡ badly Short missing → length l < w → w - length l ≡ missing
  short_by_lem missing e over =
      let same : ◌≡◌ {A = Ended A} (badly Short (w - length l)) (badly Short missing) = sym (run_short w next l over) ∙ e in
      cc

  -- or a later one
  short_later : (missing : ℕ) → run (field w next) l ≡ badly Short missing → w ≤ length l → run (next (take w l)) (drop w l) ≡ badly Short missing
  short_later missing e there = later_badly w (run (next (take w l)) (drop w l)) Short missing (sym (run_field w next l there) ∙ e)

module _ {A : Type 0} (w : ℕ) (next : List Bool → Program A) (l more : List Bool) (there : w ≤ length l) where
  -- with more bits the same field is there
  room : w ≤ length (l ++ more)
  room = rw length-append (omega arith)

  longer_run : run (field w next) (l ++ more) ≡ later w (run (next (take w l)) (drop w l ++ more))
  longer_run = run_field w next (l ++ more) room ∙ rw (take-append-le w l more there, drop-append-le w l more there)

  longer_whole : whole_fields (field w next) (l ++ more) ≡ suc (whole_fields (next (take w l)) (drop w l ++ more))
  longer_whole = whole_there w next (l ++ more) room ∙ rw (take-append-le w l more there, drop-append-le w l more there)

-- it is short at this field still, by so many
record StillShort {A : Type 0} (p : Program A) (l more : List Bool) (missing : ℕ) : Type 0 where
  run : run p (l ++ more) ≡ badly Short (missing - length more)
  field : whole_fields p (l ++ more) ≡ whole_fields p l

-- with fewer bits more
fewer_bits : {A : Type 0} (p : Program A) (l more : List Bool) (missing : ℕ) → run p l ≡ badly Short missing → length more < missing → StillShort p l more missing
unfolding run later
fewer_bits (done a) l more missing e less = absurd (not_well Short missing a 0 (sym e))
fewer_bits (refuse r) l more missing e less = absurd (let none : 0 ≡ missing = cc in omega arith)
fewer_bits (field w next) l more missing e less = go (dec_lt (length l) w) (fewer_bits (next (take w l)) (drop w l) more missing)
  where
    go : Dec (length l < w) → (run (next (take w l)) (drop w l) ≡ badly Short missing → length more < missing → StillShort (next (take w l)) (drop w l) more missing)
        → StillShort (field w next) l more missing
    go (yes over) rest =
        let by = short_by_lem w next l missing e over in
        let sum = length-append l more in
        let still : length (l ++ more) < w = omega arith in
        let less : w - length (l ++ more) ≡ missing - length more = omega arith in
        record { run = run_short w next (l ++ more) still ∙ ap (badly Short) less; field = whole_none w next (l ++ more) still ∙ sym (whole_none w next l over) }
    go (no not) rest =
        let there : w ≤ length l = omega arith in
        let it = rest (short_later w next l missing e there) less in
        record {
          run = longer_run w next l more there ∙ ap (later w) it.run;
          field = longer_whole w next l more there ∙ ap suc it.field ∙ sym (whole_there w next l there);
        }

-- with that many it is whole
enough_bits : {A : Type 0} (p : Program A) (l more : List Bool) (missing : ℕ) → run p l ≡ badly Short missing → 0 < missing → missing ≤ length more
    → whole_fields p l < whole_fields p (l ++ more)
unfolding run
enough_bits (done a) l more missing e some all = absurd (not_well Short missing a 0 (sym e))
enough_bits (refuse r) l more missing e some all = absurd (let none : 0 ≡ missing = cc in omega arith)
enough_bits (field w next) l more missing e some all = go (dec_lt (length l) w) (enough_bits (next (take w l)) (drop w l) more missing)
  where
    go : Dec (length l < w) → (run (next (take w l)) (drop w l) ≡ badly Short missing → 0 < missing → missing ≤ length more
        → whole_fields (next (take w l)) (drop w l) < whole_fields (next (take w l)) (drop w l ++ more)) → whole_fields (field w next) l < whole_fields (field w next) (l ++ more)
    go (yes over) rest =
        let by = short_by_lem w next l missing e over in
        let sum = length-append l more in
        let now : w ≤ length (l ++ more) = omega arith in
        omega (arith, whole_none w next l over, whole_there w next (l ++ more) now)
    go (no not) rest =
        let there : w ≤ length l = omega arith in
        omega (arith, rest (short_later w next l missing e there) some all, longer_whole w next l more there, whole_there w next l there)

-- so that is what the number says
pub lacks : {A : Type 0} (p : Program A) (l : List Bool) (missing : ℕ) → run p l ≡ badly Short missing → 0 < missing → Lacks p l missing
lacks p l missing e some = record {
  some = some;
  fewer = λ more less. (fewer_bits p l more missing e less).run;
  still = λ more less. (fewer_bits p l more missing e less).field;
  enough = λ more all. enough_bits p l more missing e some all;
}
