use Rattle.std.proofs.Common.{◌∙◌, ap, Bool}
use mathlib.Core.Bool.{◌&&◌, ◌||◌}
use lib.Dec.{leb}
use Rattle.lines.proofs.WholeDigits.{in_ranges}
use Rattle.lines.proofs.digits.is_digit.Goals as goal

pub returns : goal.returns
returns c = let d = c.args.c in ap (λ (b : Bool). b || (leb 65 d && leb d 70)) c.is_ascii_digit.ensures.value ∙ in_ranges d
