-- `putting::size::longer` meets its contract. Assumes nothing.
use Rattle.bits.proofs.Words.{sym, arith}
use Rattle.format.specs.Messages.{iode_width}
use Rattle.putting.proofs.OwnColumns.{galileo_key, other_key}
use Rattle.putting.proofs.size.longer.Statement.{statement}
use Rattle.putting.proofs.size.longer.Tie as tie

returns-then-system-eq-GALILEO : tie.Need-returns-then-system-eq-GALILEO
unfolding iode_width
returns-then-system-eq-GALILEO c = let s = c in (sym (galileo_key s.args.system s.ranges.system c.if-system-eq-GALILEO.true), omega arith)

returns-else-system-eq-GALILEO : tie.Need-returns-else-system-eq-GALILEO
unfolding iode_width
returns-else-system-eq-GALILEO c = (sym (other_key c.args.system c.if-system-eq-GALILEO.false), omega arith)

pub longer_spec : {M : Type 1} → statement M
longer_spec = tie.close (tie.spec returns-then-system-eq-GALILEO returns-else-system-eq-GALILEO)
