-- `body::satellites::size` meets its contract. Assumes nothing.
use Rattle.bits.proofs.Words.{◌-◌, ◌*◌, ◌≤◌, arith, rules}
use native.Mathlib.Nat.{mul-le-mul}
use Rattle.bits.specs.BitLists.{spell}
use Rattle.format.proofs.Picks.{pick_few}
use Rattle.format.specs.Masks.{pick}
use Rattle.holding.specs.Held.{slot_satellites}
use Rattle.rows.proofs.Table.{width_at, width_longest}
use Rattle.body.proofs.Sizes.{few_ones, few_galileos, satellites_longer}
use Rattle.body.proofs.satellites.size.Statement.{statement}
use Rattle.body.proofs.satellites.size.Tie as tie

module _ (c : tie.After-galileo) where
  abbrev i : tie.After-width_in
  i = c.before

  abbrev a : tie.After-size_alike-even
  a = i.before

  abbrev w : tie.After-width_of-width
  w = a.before

  abbrev s : tie.Start
  s = w.before.before.before

  more : c.galileo.result * (i.width_in.result - w.width_of-width.result) ≤ 64 * 71
  more =
      let sats = slot_satellites s.args.ids.now s.args.masks.now in
      let few : c.galileo.result ≤ 64 =
      omega (arith, c.galileo.ensures, few_galileos (pick (spell 64 s.args.chosen) sats), pick_few (spell 64 s.args.chosen) sats, s.requires.1, s.requires.2) in
      let narrow : i.width_in.result - w.width_of-width.result ≤ 71 = omega (arith, i.width_in.ensures, width_at 2 s.args.shape) in
      mul-le-mul few narrow

  even : a.size_alike-even.result.bits ≤ 64 * 71
  even =
      let narrow : w.width_of-width.result ≤ 71 = omega (arith, w.width_of-width.ensures, width_at 0 s.args.shape) in
      rw a.size_alike-even.ensures (mul-le-mul (few_ones s.args.chosen s.args.n (omega arith) s.requires.2) narrow)

returns : tie.Need-returns
returns c =
    let g = c.before in
    let x = (s g).args in
    let p = (s g).requires in
    rw (a g).size_alike-even.ensures
    (satellites_longer x.shape x.chosen x.n _ _ _ _ (omega arith) p.1 p.2 (w g).width_of-width.ensures (i g).width_in.ensures g.galileo.ensures)

pub size_spec : {M : Type 1} → statement M
size_spec =
    tie.close
    (tie.spec (λ c κs. search rules) (λ c κs. let s = c.before.before.before in (s.requires.2, omega (arith, c.width_of-width.ensures, width_at 0 s.args.shape))) (λ c κs. search rules)
    (λ c. omega (arith, c.width_in.ensures, c.width_of-width.ensures, width_longest c.args.shape))
    (λ c κs. let s = c.before.before.before.before.before in (s.requires.0, omega (arith, s.requires.1, s.requires.2))) (λ c. omega (arith, more c)) (λ c. omega (arith, more c.before, even c.before)) returns)
