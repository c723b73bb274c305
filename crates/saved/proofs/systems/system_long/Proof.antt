-- `saved::systems::system_long` meets its contract. Assumes nothing.
use mathlib.Core.Path.{◌≡◌, ap, ◌∙◌}
use Prim.Native.Nat.{ℕ, ◌≤◌}
use native.Mathlib.Omega.{arith}
use borrow.Author.Rules.{rules}
use Rattle.text.proofs.Values.{decimal_long}
use Rattle.saved.specs.Slots.{cell_count, cell_long}
use Rattle.saved.proofs.systems.system_long.Statement.{statement}
use Rattle.saved.proofs.systems.system_long.Tie as tie

few : (c : tie.After-decimals) → c.decimals.result ≤ 3
few c = omega (arith, c.decimals.ensures, decimal_long 2 c.args.s.id (omega (arith, c.struct_known-1.given)))

digits : (c : tie.After-cell_long-digits) → c.cell_long-digits.result ≡ cell_long (cell_count c.args.s)
digits c = c.cell_long-digits.ensures.0 ∙ ap (λ (n : ℕ). cell_long n) c.cell_count.ensures.0

returns : tie.Need-returns
returns c =
    let l = c.before.before in
    (rw (c.decimals.ensures, digits l), omega (arith, few c, l.cell_long-digits.ensures.1))

pub system_long_spec : {M : Type 1} → statement M
system_long_spec =
    tie.close
    (tie.spec (λ c κs. search rules) (λ c κs. search rules) (λ c. search rules) (λ c κs. search rules) (λ c. omega (arith, few c))
    (λ c. omega (arith, few c, c.cell_long-digits.ensures.1)) returns)
