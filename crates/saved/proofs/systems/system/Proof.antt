-- `saved::systems::system` meets its contract. Assumes nothing.
use mathlib.Core.Path.{◌≡◌, ap, ◌∙◌}
use mathlib.Core.List.{[], ◌∷◌}
use Prim.Native.Nat.{suc, ◌+◌}
use native.Mathlib.Omega.{arith}
use borrow.Author.Rules.{rules}
use lib.ListN.{length, drop, length-append}
use Rattle.format.specs.Saved.{cell_text, system_text}
use Rattle.format.specs.Text.{tab}
use Rattle.text.proofs.Stores.{wrote, told, then_wrote}
use Rattle.saved.specs.Slots.{system_in, front_text}
use Rattle.saved.proofs.SlotTexts.{system_text_lem}
use Rattle.saved.proofs.systems.system.Statement.{statement}
use Rattle.saved.proofs.systems.system.Tie as tie

long : (c : tie.Start) → let t = drop c.args.from c.args.strips.now in
    length (system_text (system_in c.args.s t)) ≡ length (front_text c.args.s) + suc (length (cell_text (system_in c.args.s t).cells))
long c =
    let t = drop c.args.from c.args.strips.now in
    ap length (system_text_lem c.args.s t) ∙ length-append (front_text c.args.s) (tab ∷ cell_text (system_in c.args.s t).cells)

front-first-requires : tie.Need-front-first-requires
front-first-requires c κs = omega (arith, long c.before.before.before)

put-second-requires : tie.Need-put-second-requires
put-second-requires c κs =
    let f = c.before.before.before in
    omega (arith, long f.before.before.before.before, f.front-first.ensures.0)

cell_text-requires : tie.Need-cell_text-requires
cell_text-requires c κs =
    let p = c.before.before.before in
    let f = p.before.before.before.before in
    let s = f.before.before.before.before in
    (s.requires.0, s.requires.1, omega (arith, long s, f.front-first.ensures.0, p.put-second.ensures.0))

returns : tie.Need-returns
returns c =
    let t = c.before.before in
    let p = t.before.before.before.before in
    let f = p in
    let x = f.args in
    let strips = drop x.from x.strips.now in
    rw (system_text_lem x.s strips)
    (told (then_wrote (wrote x.line.now (front_text x.s) f.front-first.ensures) (then_wrote (wrote _ (tab ∷ []) p.put-second.ensures) (wrote _ (cell_text (system_in x.s strips).cells) t.cell_text.ensures))))

pub system_spec : {M : Type 1} → statement M
system_spec = tie.close (tie.spec front-first-requires put-second-requires cell_text-requires (λ c. search rules) returns)
