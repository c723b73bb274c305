-- `matching::fits::line::column_fits` meets its contract. Assumes nothing.
use Rattle.bits.proofs.Words.{◌≡◌, ap, ◌∙◌, ◌<◌, ◌^◌, arith, rules}
use lib.Signed.{mag}
use mir.Facts.{to_z-of_z}
use Rattle.bits.specs.Signed.{unsigned}
use Rattle.rows.proofs.Columns.{bounded}
use Rattle.matching.proofs.ColumnTests.{told, unsigned_lt}
use Rattle.matching.proofs.fits.line.column_fits.Statement.{statement}
use Rattle.matching.proofs.fits.line.column_fits.Tie as tie

small : (s : tie.Start) → mag s.args.v < 2 ^ 31
small s = s.ranges.v.sfits

lifted : (c : tie.After-from_signed) → c.from_signed.result ≡ unsigned 32 c.args.v
lifted c = c.from_signed.ensures ∙ ap (unsigned 32) (to_z-of_z c.ranges.v)

pub column_fits_spec : {M : Type 1} → statement M
column_fits_spec =
    tie.close
    (tie.spec (λ c κs. rw (to_z-of_z c.ranges.v) (omega arith, omega arith, omega (arith, small c))) (λ c. let s = c.before.before in omega (arith, (bounded s.args.c s.requires).half))
    (λ c. let s = c.before.before in omega (arith, lifted c.before, unsigned_lt s.args.v (small s), (bounded s.args.c s.requires).half)) (λ c. search rules) (λ c. search rules)
    (λ c. let s = c.before.before.before in omega (arith, (bounded s.args.c s.requires).mask))
    (λ c. let s = c.before.before.before in rw (lifted c.before.before) (told s.args.c s.requires s.args.v (small s))))
