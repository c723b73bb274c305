-- `saved::systems::cell_count` meets its contract. Assumes nothing.
use mathlib.Core.Path.{◌≡◌, ap₂}
use mathlib.Core.Bool.{true, false}
use Prim.Native.Nat.{◌*◌, ◌^◌, ◌≤◌, ◌<◌}
use native.Mathlib.Nat.{mul-le-mul}
use native.Mathlib.Omega.{arith}
use borrow.Author.Rules.{rules}
use borrow.Author.Tests.{not-true, not-false}
use lib.Count.{ones-le}
use Rattle.saved.proofs.systems.cell_count.Statement.{statement}
use Rattle.saved.proofs.systems.cell_count.Tie as tie

-- both masks are words
few : (c : tie.After-count-2) → c.count.result * c.count-2.result ≤ 64 * 64
few c =
    let s = c.args.s in
    let wide : s.satellites < 2 ^ 64 = omega (arith, c.struct_known-2-1.given) in
    let narrow : s.signals < 2 ^ 64 = omega (arith, c.struct_known-2-1.given) in
    let sats : c.count.result ≤ 64 = omega (arith, c.count.ensures, ones-le 64 s.satellites wide) in
    let signals : c.count-2.result ≤ 64 = omega (arith, c.count-2.ensures, ones-le 64 s.signals narrow) in
    mul-le-mul sats signals

returns-then-not-s : tie.Need-returns-then-not-s
returns-then-not-s c =
    let off : c.args.s.flag ≡ false = not-true _ c.if-not-s.true in
    rw off (omega arith, omega arith)

returns : tie.Need-returns
returns c =
    let e = c in
    let on : e.args.s.flag ≡ true = not-false _ e.if-not-s.false in
    rw on (ap₂ ◌*◌ c.count.ensures c.count-2.ensures, few c)

pub cell_count_spec : {M : Type 1} → statement M
cell_count_spec =
    tie.close (tie.spec returns-then-not-s (λ c κs. search rules) (λ c. search rules) (λ c κs. search rules) (λ c. omega (arith, few c)) returns)
