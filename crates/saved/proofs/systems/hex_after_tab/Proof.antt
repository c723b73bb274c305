-- `saved::systems::hex_after_tab` meets its contract. Assumes nothing.
use mathlib.Core.List.{[], ◌∷◌}
use native.Mathlib.Omega.{arith}
use borrow.Author.Rules.{rules}
use Rattle.format.specs.Text.{tab}
use Rattle.text.proofs.HexDigits.{length_hex, hex_wrote}
use Rattle.text.proofs.Stores.{wrote, told, then_wrote}
use Rattle.saved.proofs.systems.hex_after_tab.Statement.{statement}
use Rattle.saved.proofs.systems.hex_after_tab.Tie as tie

hex-requires : tie.Need-hex-requires
hex-requires c κs =
    let p = c in
    let x = p.args in
    omega (arith, length_hex x.k x.word, p.put-from.ensures.0)

returns : tie.Need-returns
returns c =
    let h = c.before.before in
    let p = h in
    let x = p.args in
    told (then_wrote (wrote x.line.now (tab ∷ []) p.put-from.ensures) (hex_wrote _ x.k x.word h.hex.ensures))

pub hex_after_tab_spec : {M : Type 1} → statement M
hex_after_tab_spec = tie.close (tie.spec (λ c κs. search rules) hex-requires (λ c. search rules) returns)
