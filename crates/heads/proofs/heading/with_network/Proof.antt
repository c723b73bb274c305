-- `heads::heading::with_network` meets its contract. Assumes nothing.
use mir.Facts.{to_z-of_z}
use mir.Syntax.{w32}
use Rattle.heads.specs.Headings.{networked}
use Rattle.heads.proofs.heading.with_network.Statement.{statement}
use Rattle.heads.proofs.heading.with_network.Tie as tie

returns : tie.Need-returns
unfolding networked
returns c =
    let h = c.args.h in
    let told = c.struct_told-1.given in
    rw (
      to_z-of_z {w = w32} {z = h.subtype} (record { sfits = told.0.1 }),
      to_z-of_z {w = w32} {z = h.epoch} (record { sfits = told.1.0.1 }),
      to_z-of_z {w = w32} {z = h.interval} (record { sfits = told.1.1.0.1 }),
      to_z-of_z {w = w32} {z = h.indicator} (record { sfits = told.1.1.1.0.1 }),
      to_z-of_z {w = w32} {z = h.iod} (record { sfits = told.1.1.1.1.0.1 }),
      to_z-of_z {w = w32} {z = h.a} (record { sfits = told.1.1.1.1.1.0.1 }),
      to_z-of_z {w = w32} {z = h.b} (record { sfits = told.1.1.1.1.1.1.0.1 }),
      to_z-of_z c.ranges.network,
    )

pub with_network_spec : {M : Type 1} → statement M
with_network_spec = tie.close (tie.spec returns)
