-- `bits::signed::from_signed` meets its contract. Assumes nothing.
use Rattle.bits.proofs.Words.{◌≡◌, ◌*◌, ◌%◌, ◌^◌, ◌<◌, arith, rules, pos}
use lib.IntN.{◌+ℤ◌}
use lib.Pow.{pow_pos, pow_mono}
use mir.Facts.{to_z-of_z, to_z_pos, sfits_widen}
use mir.Syntax.{w32, w64}
use mir.Val.{to_z, of_z}
use Rattle.bits.proofs.Complement.{lifted, lifted_lt, lifted_mod, lifts}
use Rattle.bits.proofs.Windows.{one_shifted}
use Rattle.bits.proofs.signed.from_signed.Statement.{statement}
use Rattle.bits.proofs.signed.from_signed.Tie as tie

-- the sum, as code has it
sum : (c : tie.Start) → to_z w64 (of_z w64 (to_z w32 (of_z w32 c.args.z))) +ℤ to_z w64 (1 * 2 ^ c.args.w % 2 ^ 64) ≡ pos (lifted c.args.w c.args.z)
sum c = lifts c.args.w c.args.z c.ranges.z c.requires.0 c.requires.1 c.requires.2

small : (c : tie.Start) → lifted c.args.w c.args.z < 2 ^ 33
small c = lifted_lt c.args.w c.args.z c.requires.1 c.requires.2

returns : tie.Need-returns
returns c =
    let room : lifted c.args.w c.args.z < 2 ^ 63 = omega (arith, small c) in
    rw (sum c, to_z_pos w64 room, one_shifted c.args.w (omega arith)) (lifted_mod c.args.w c.args.z c.requires.2)

pub from_signed_spec : {M : Type 1} → statement M
from_signed_spec =
    tie.close
    (tie.spec (λ c. search rules) (λ c. rw (to_z-of_z c.ranges.z) (sfits_widen tt c.ranges.z))
    (λ c. record { sfits = rw (one_shifted c.args.w (omega arith)) (omega (arith, pow_mono c.requires.1)) })
    (λ c. rw (sum c) (record { sfits = omega (arith, small c) }))
    (λ c. let room : lifted c.args.w c.args.z < 2 ^ 63 = omega (arith, small c) in rw (sum c, to_z_pos w64 room) (tt, omega arith))
    (λ c. rw (one_shifted c.args.w (omega arith)) (pow_pos c.args.w)) returns)
