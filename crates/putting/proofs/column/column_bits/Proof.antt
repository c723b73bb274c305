-- `putting::column::column_bits` meets its contract. Assumes nothing.
use Rattle.bits.proofs.Words.{◌≡◌, ℕ, ◌+◌, ◌^◌, ◌<◌, arith, pos}
use lib.Bits.{bit_and, and_le_l}
use lib.IntN.{◌+ℤ◌}
use mir.Facts.{to_z-of_z, to_z_pos}
use mir.Syntax.{w32}
use mir.Val.{to_z, of_z}
use Rattle.rows.proofs.Columns.{bounded}
use Rattle.putting.proofs.ColumnBits.{raised, Raises, raises}
use Rattle.putting.proofs.column.column_bits.Statement.{statement}
use Rattle.putting.proofs.column.column_bits.Tie as tie

module _ (s : tie.Start) where
  known : Raises s.args.c s.args.v
  known = raises s.args.c s.args.v s.requires.0 s.requires.1

  half_small : s.args.c.half < 2 ^ 16
  half_small = omega (arith, (bounded s.args.c s.requires.0).half)

  -- the sum, as code has it
  sum : to_z w32 (of_z w32 s.args.v) +ℤ to_z w32 s.args.c.half ≡ pos (raised s.args.c.half s.args.v)
  sum = let h : s.args.c.half < 2 ^ 31 = omega (arith, half_small) in rw (to_z-of_z s.ranges.v, to_z_pos w32 h) known.sum

  -- which is a number of code
  low : raised s.args.c.half s.args.v < 2 ^ 31
  low = omega (arith, known.low)

  -- and so is what a mask leaves of it
  masked_small : (mask : ℕ) → bit_and (raised s.args.c.half s.args.v + s.args.c.half) mask < 2 ^ 64
  masked_small mask = let h = s.args.c.half in omega (arith, low, half_small, and_le_l (raised h s.args.v + h) mask)

overflow_cast-raised-2 : tie.Need-overflow_cast-raised-2
overflow_cast-raised-2 c = let s = c.before in rw (sum s, to_z_pos w32 (low s)) (tt, omega (arith, low s))

overflow_add-result : tie.Need-overflow_add-result
overflow_add-result c = let s = c.before.before in rw (sum s, to_z_pos w32 (low s)) (record { fits = omega (arith, low s, half_small s) })

overflow_cast-result : tie.Need-overflow_cast-result
overflow_cast-result c = let s = c.before.before.before in rw (sum s, to_z_pos w32 (low s)) (record { fits = masked_small s _ })

returns : tie.Need-returns
returns c = let s = c.before.before.before in rw (sum s, to_z_pos w32 (low s)) (known s).bits

pub column_bits_spec : {M : Type 1} → statement M
column_bits_spec =
    tie.close
    (tie.spec (λ c. record { sfits = omega (arith, half_small c.before) }) (λ c. rw (sum c.before) (record { sfits = omega (arith, low c.before) }))
    overflow_cast-raised-2 overflow_add-result overflow_cast-result returns)
