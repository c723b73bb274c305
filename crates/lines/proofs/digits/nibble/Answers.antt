use Rattle.std.proofs.Common.{ℕ, ◌-◌, ◌*◌, ◌/◌, ◌%◌, ◌^◌, ap, ◌∙◌, arith}
use Rattle.lines.proofs.HexDigits.{kept_whole, kept_part}
use Rattle.lines.proofs.digits.nibble.Goals as goal

pub returns-then-n-ge-NIBBLE-clause-value : goal.returns-then-n-ge-NIBBLE-clause-value
returns-then-n-ge-NIBBLE-clause-value c = ap (λ (s : ℕ). s % 16) c.said-four.ensures ∙ kept_whole c.args.n c.args.c (omega arith)

pub returns-clause-value : goal.returns-clause-value
returns-clause-value c =
    let n = c.args.n in
    ap (λ (s : ℕ). let spare = 1 * 2 ^ (4 - n) % 2 ^ 64 in s % 16 / spare * spare) c.said-four.ensures ∙ kept_part n c.args.c (omega arith)
