-- `bits::signed::magnitude` meets its contract. Assumes nothing.
use Rattle.bits.proofs.Words.{◌≡◌, arith, pos}
use lib.Dec.{T}
use lib.IntN.{negsuc, nat_abs, ◌-ℤ◌}
use lib.Signed.{mag, non_neg}
use mir.Facts.{to_z-of_z, to_z_pos}
use mir.Syntax.{w32}
use Rattle.bits.proofs.Complement.{below_zero, from_zero}
use Rattle.bits.proofs.signed.magnitude.Statement.{statement}
use Rattle.bits.proofs.signed.magnitude.Tie as tie

negative : (c : tie.Then-z-lt0) → negsuc 0 -ℤ c.args.z ≡ pos (mag c.args.z)
negative c = below_zero c.args.z (rw (to_z-of_z c.ranges.z) at c.if-z-lt0.true)

plain : (c : tie.Else-z-lt0) → T (non_neg c.args.z) × (nat_abs c.args.z ≡ mag c.args.z)
plain c = from_zero c.args.z (rw (to_z-of_z c.ranges.z) at c.if-z-lt0.false)

pub magnitude_spec : {M : Type 1} → statement M
magnitude_spec =
    tie.close
    (tie.spec (λ c. rw (to_z-of_z c.ranges.z, negative c) (record { sfits = c.ranges.z.sfits }))
    (λ c. rw (to_z-of_z c.ranges.z, negative c, to_z_pos w32 c.ranges.z.sfits) (tt, omega (arith, c.ranges.z.sfits)))
    (λ c. rw (to_z-of_z c.ranges.z, (plain c).1) ((plain c).0, omega (arith, c.ranges.z.sfits)))
    (λ c. rw (to_z-of_z c.ranges.z, negative c, to_z_pos w32 c.ranges.z.sfits)) (λ c. rw (to_z-of_z c.ranges.z) (plain c).1))
