-- `pens::number::is_absent` meets its contract. Assumes nothing.
use Rattle.bits.proofs.Words.{◌≡◌, rules}
use mir.Facts.{to_z-of_z}
use Rattle.pens.specs.Numbers.{word_of}
use Rattle.pens.proofs.Numbers.{word_absent}
use Rattle.pens.proofs.number.is_absent.Statement.{statement}
use Rattle.pens.proofs.number.is_absent.Tie as tie

returns : tie.Need-returns
returns c =
    let found : c.word.result ≡ word_of c.args.v = rw (to_z-of_z c.ranges.v) at c.word.ensures.0 in
    rw found (word_absent c.args.v c.ranges.v)

pub is_absent_spec : {M : Type 1} → statement M
is_absent_spec = tie.close (tie.spec (λ c κs. search rules) returns)
