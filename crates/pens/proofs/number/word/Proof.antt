-- `pens::number::word` meets its contract. Assumes nothing.
use Rattle.bits.proofs.Words.{◌≡◌, arith}
use mir.Facts.{to_z-of_z}
use Rattle.pens.specs.Numbers.{word_of}
use Rattle.pens.proofs.Numbers.{halved, word_small}
use Rattle.pens.proofs.number.word.Statement.{statement}
use Rattle.pens.proofs.number.word.Tie as tie

returns : tie.Need-returns
unfolding word_of
returns c =
    let found : c.from_signed.result ≡ word_of c.args.v = rw (to_z-of_z c.ranges.v) at c.from_signed.ensures in
    (found, rw found (word_small c.args.v c.ranges.v))

pub word_spec : {M : Type 1} → statement M
word_spec = tie.close (tie.spec (λ c κs. rw (to_z-of_z c.ranges.v) (omega arith, omega arith, halved c.ranges.v)) returns)
