-- Strips gathered in four numbers, as the code has them.
use Rattle.std.specs.Prelude.{Bool, ◌&&◌, eqb}
use Rattle.holding.specs.declared.strips_empty.Lanes.{Lanes}

-- nothing is gathered
abbrev pub nought : Lanes → Bool
nought g = eqb g.a 0 && (eqb g.b 0 && (eqb g.c 0 && eqb g.d 0))
