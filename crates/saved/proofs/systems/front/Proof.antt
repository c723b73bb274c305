-- `saved::systems::front` meets its contract. Assumes nothing.
use mathlib.Core.List.{◌∷◌}
use native.Mathlib.Omega.{arith}
use borrow.Author.Rules.{rules}
use mir.Val.{bool_byte}
use Rattle.bits.specs.BitLists.{spell}
use Rattle.format.specs.Text.{tab, decimal, hex}
use Rattle.text.proofs.Stores.{wrote, told, then_wrote}
use Rattle.saved.specs.Slots.{front_text}
use Rattle.saved.proofs.SlotTexts.{flag_digit, front_long}
use Rattle.saved.proofs.systems.front.Statement.{statement}
use Rattle.saved.proofs.systems.front.Tie as tie

after_tab-first-requires : tie.Need-after_tab-first-requires
after_tab-first-requires c κs = omega (arith, front_long c.args.s)

hex_after_tab-second-requires : tie.Need-hex_after_tab-second-requires
hex_after_tab-second-requires c κs =
    let a = c in
    omega (arith, front_long a.args.s, a.after_tab-first.ensures.0)

hex_after_tab-third-requires : tie.Need-hex_after_tab-third-requires
hex_after_tab-third-requires c κs =
    let h = c.before.before.before.before in
    let a = h in
    omega (arith, front_long a.args.s, a.after_tab-first.ensures.0, h.hex_after_tab-second.ensures.0)

after_tab-requires : tie.Need-after_tab-requires
after_tab-requires c κs =
    let k = c.before.before.before.before in
    let h = k.before.before.before.before.before in
    let a = h in
    omega (arith, front_long a.args.s, a.after_tab-first.ensures.0, h.hex_after_tab-second.ensures.0, k.hex_after_tab-third.ensures.0)

returns : tie.Need-returns
unfolding front_text
returns c =
    let l = c.before.before in
    let k = l.before.before.before.before.before in
    let h = k.before.before.before.before.before in
    let a = h in
    let x = a.args in
    let s = x.s in
    rw (← (flag_digit s.flag))
    (told (then_wrote (wrote x.line.now (tab ∷ decimal s.id) a.after_tab-first.ensures) (then_wrote (wrote _ (tab ∷ hex (spell 40 s.satellites)) h.hex_after_tab-second.ensures)
    (then_wrote (wrote _ (tab ∷ hex (spell 16 s.signals)) k.hex_after_tab-third.ensures) (wrote _ (tab ∷ decimal (bool_byte s.flag)) l.after_tab.ensures)))))

pub front_spec : {M : Type 1} → statement M
front_spec =
    tie.close
    (tie.spec (λ c. search rules) after_tab-first-requires hex_after_tab-second-requires (λ c. search rules) hex_after_tab-third-requires (λ c. search rules) after_tab-requires
    (λ c. search rules) returns)
