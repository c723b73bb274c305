-- `heads::heading::head` meets its contract.
-- Assumes nothing.
use Rattle.bits.proofs.Words.{arith, rules}
use mir.Facts.{to_z-of_z, to_z_pos}
use mir.Syntax.{w32}
use Rattle.format.specs.Messages.{head_of}
use Rattle.heads.specs.Headings.{head_with}
use Rattle.heads.specs.Heads.{common_of}
use Rattle.heads.proofs.heading.head.Statement.{statement}
use Rattle.heads.proofs.heading.head.Tie as tie

returns : tie.Need-returns
unfolding head_with head_of common_of
returns c =
    let x = c.args in
    let fits = c.ranges in
    let small = c.requires.1 in
    rw (
      to_z-of_z fits.a,
      to_z-of_z fits.b,
      to_z-of_z fits.c,
      to_z_pos w32 {n = x.subtype} (omega arith),
      to_z_pos w32 {n = x.h.epoch} (omega (arith, small.epoch)),
      to_z_pos w32 {n = x.h.interval} (omega (arith, small.interval)),
      to_z_pos w32 {n = x.h.indicator} (omega (arith, small.indicator)),
      to_z_pos w32 {n = x.h.iod} (omega (arith, small.iod)),
    )

pub head_spec : {M : Type 1} → statement M
head_spec = tie.close
    (tie.spec (λ c. search rules) (λ c. search rules) (λ c. search rules) (λ c. search rules) (λ c. search rules) returns)
