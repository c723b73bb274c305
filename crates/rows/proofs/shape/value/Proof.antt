-- `rows::shape::value` meets its contract. Assumes nothing.
use Rattle.bits.proofs.Words.{◌≡◌, ◌+◌, ◌^◌, ◌<◌, arith, rules}
use lib.Bits.{bit_and}
use lib.IntN.{◌-ℤ◌}
use mir.Facts.{to_z-of_z, to_z_pos}
use mir.Syntax.{w32}
use mir.Val.{SFits, to_z}
use Rattle.rows.proofs.Columns.{Bounded, bounded, masked_lt, computed, value_computed, value_small}
use Rattle.rows.proofs.shape.value.Statement.{statement}
use Rattle.rows.proofs.shape.value.Tie as tie

limits : (c : tie.Start) → Bounded c.args.c
limits c = bounded c.args.c c.requires.1

masked_small : (c : tie.Start) → bit_and (c.args.x + c.args.c.half) c.args.c.mask < 2 ^ 31
masked_small c = omega (arith, masked_lt c.args.c c.args.x c.requires.1)

half_small : (c : tie.Start) → c.args.c.half < 2 ^ 31
half_small c = omega (arith, (limits c).half)

-- the difference, as code has it
difference : (c : tie.Start) → to_z w32 (bit_and (c.args.x + c.args.c.half) c.args.c.mask) -ℤ to_z w32 c.args.c.half ≡ computed c.args.c c.args.x
unfolding computed
difference c = rw (to_z_pos w32 (masked_small c), to_z_pos w32 (half_small c))

small : (c : tie.Start) → SFits w32 (computed c.args.c c.args.x)
small c = record { sfits = omega (arith, value_small c.args.c c.args.x c.requires.1) }

pub value_spec : {M : Type 1} → statement M
value_spec =
    tie.close
    (tie.spec (λ c. search rules) (λ c. let l = limits c.before in record { fits = omega arith }) (λ c. search rules)
    (λ c. record { sfits = masked_small c.before.before }) (λ c. let l = limits c.before.before.before in record { sfits = omega arith })
    (λ c. let s = c.before.before.before in rw (difference s) (small s))
    (λ c. let s = c.before.before.before in rw (difference s, to_z-of_z (small s)) (value_computed s.args.c s.args.x s.requires.1)))
