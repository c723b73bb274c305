-- `writer::planning::packet` meets its contract. Assumes nothing.
use Rattle.bits.proofs.Words.{◌≡◌, sym, ap, ◌∙◌, true, rules}
use Rattle.writer.specs.declared.planning.Planned.TheVariants.{Message}
use Rattle.writer.specs.Plans.{packet_head}
use Rattle.writer.proofs.planning.packet.Statement.{statement}
use Rattle.writer.proofs.planning.packet.Tie as tie

fit : (c : tie.Else-not-packet_fits) → packet_head c.args.asked.head ≡ true
fit c = sym c.packet_fits.ensures ∙ c.if-not-packet_fits.false

pub packet_spec : {M : Type 1} → statement M
packet_spec =
    tie.close
    (tie.spec (λ c κs. search rules) (λ c. rw (sym c.packet_fits.ensures ∙ c.if-not-packet_fits.true)) (λ c κs. fit c.before) (λ c. rw (fit c.before.before) (ap Message c.packet.ensures)))
