-- The test of a new mask by structs (document 02, Ask 2). proofs/Compared.antt shows that it is the test `steady` of the `S` lines.
use Rattle.std.specs.Prelude.{Bool, true, cond, ◌&&◌, eqb}
use Rattle.holding.specs.declared.Holding.{Holding}
use Rattle.holding.specs.Pictures.{same_holding}

-- Document 02, Ask 2: whether a mask may follow what is held, by their structs: any where nothing is held or of another issue, and of its own the same one alone.
unfoldable pub steady_by : Holding → Holding → Bool
steady_by g h = cond (g.held && eqb h.iod g.iod) (same_holding g h) true
