-- `putting::values::with` meets its contract. Assumes nothing.
use Rattle.bits.proofs.Words.{◌≡◌, rules}
use mir.Facts.{to_z-of_z}
use Rattle.bits.specs.Signed.{unsigned}
use Rattle.putting.proofs.ColumnBits.{bits_small}
use Rattle.putting.proofs.RowBits.{sum_joined, sum_fits}
use Rattle.putting.proofs.values.with.Statement.{statement}
use Rattle.putting.proofs.values.with.Tie as tie

module _ (c : tie.After-column_bits) where
  abbrev s : tie.Start
  s = c.before

  last : c.column_bits.result ≡ unsigned s.args.c.width s.args.v
  last = rw (to_z-of_z s.ranges.v) at c.column_bits.ensures

overflow_add-result : tie.Need-overflow_add-result
overflow_add-result c =
    let x = s c in
    record { fits = sum_fits x.args.bits x.args.c.width x.requires.0 x.requires.1.narrow (last c) (bits_small x.args.c x.args.v x.requires.2) }

returns : tie.Need-returns
returns c = let x = s c in sum_joined x.args.bits x.args.c.width x.requires.0 x.requires.1.narrow (last c)

pub with_spec : {M : Type 1} → statement M
with_spec = tie.close (tie.spec (λ c. search rules) (λ c κs. search rules) overflow_add-result returns)
