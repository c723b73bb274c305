-- `matching::fits::values::own_iode` meets its contract. Assumes nothing.
use Rattle.bits.proofs.Words.{sym, ap, ◌∙◌, rules}
use Rattle.format.specs.Messages.{iode_width}
use Rattle.matching.proofs.ValueTests.{own_galileo, own_other}
use Rattle.matching.proofs.fits.values.own_iode.Statement.{statement}
use Rattle.matching.proofs.fits.values.own_iode.Tie as tie

pub own_iode_spec : {M : Type 1} → statement M
own_iode_spec =
    tie.close
    (tie.spec (λ c κs. search rules) (λ c. c.iode.ensures ∙ ap iode_width (sym (own_galileo c.args.key c.ranges.key c.if-key-eq-GALILEO.true))) (λ c κs. search rules)
    (λ c. let e = c.before in c.iode-2.ensures ∙ ap iode_width (sym (own_other e.args.key e.ranges.key e.if-key-eq-GALILEO.false))))
