-- `putting::row::orbit_in` meets its contract. Assumes nothing.
use Rattle.bits.proofs.Words.{◌≡◌, ◌∙◌, ap, rules}
use Rattle.format.specs.Messages.{iode_width}
use Rattle.rows.proofs.Laid.{iode_some}
use Rattle.putting.proofs.OwnColumns.{galileo_key, other_key}
use Rattle.putting.proofs.row.orbit_in.Statement.{statement}
use Rattle.putting.proofs.row.orbit_in.Lts.{then-system-eq-GALILEO, else-system-eq-GALILEO}
use Rattle.putting.proofs.row.orbit_in.Tie as tie
use Rattle.putting.specs.Putting.{system_of}

module _ (c : tie.After-iode) where
  abbrev s : tie.Start
  s = c.before.before

  wide : c.iode.result ≡ iode_width (system_of s.args.system)
  wide =
      c.iode.ensures
      ∙ elim c.if-system-eq-GALILEO.branch [
        | then-system-eq-GALILEO w ↦ ap iode_width w.known-is ∙ galileo_key s.args.system s.ranges.system w.if-system-eq-GALILEO.true
        | else-system-eq-GALILEO w ↦ ap iode_width w.known-is ∙ other_key s.args.system w.if-system-eq-GALILEO.false
      ]

pub orbit_in_spec : {M : Type 1} → statement M
orbit_in_spec = tie.close (tie.spec (λ c κs. search rules) (λ c κs. iode_some _ (wide c)) (λ c. c.orbit.ensures ∙ rw (wide c.before)))
