use Rattle.std.proofs.Common.{◌≡◌, ℕ, List, [], ◌∷◌, ◌+◌, ◌-◌, ◌<◌, ◌≤◌, ◌^◌, sym, ap, ◌∙◌, arith, length, take, drop, length-drop}
use Rattle.std.specs.Int.Count.{ones}
use Rattle.format.specs.Saved.{cell_text}
use Rattle.format.specs.Text.{dash, hex}
use Rattle.saved.specs.Gathering.{cell_bits}
use Rattle.saved.specs.Slots.{system_in}
use Rattle.saved.proofs.SlotTexts.{dash_text, mask_text}
use Rattle.saved.proofs.systems.cell_text.Goals as goal
use Rattle.saved.proofs.systems.cell_text.Goals.{Then-cell_count-eq0, After-count-n}

room : (n from : ℕ) (strips : List ℕ) → from + n ≤ length strips → n ≤ length (drop from strips)
room n from strips fits = rw length-drop (omega arith)

empty : (c : Then-cell_count-eq0) → cell_text (system_in c.args.s (drop c.args.from c.args.strips.now)).cells ≡ dash ∷ []
empty c =
    let small : c.args.s.signals < 2 ^ 16 = omega (arith, c.well_formed) in
    dash_text c.args.s (drop c.args.from c.args.strips.now) c.requires.0 small (room _ c.args.from c.args.strips.now c.requires.1) (sym c.cell_count.ensures.value ∙ c.if-cell_count-eq0.true)

some : (c : After-count-n) → let x = c.args in let n = c.count-n.result in
    cell_text (system_in x.s (drop x.from x.strips.now)).cells ≡ hex (cell_bits x.s.signals (take (x.from + n - x.from) (drop x.from x.strips.now)))
some c =
    let x = c.args in
    let n : x.from + c.count-n.result - x.from ≡ ones x.s.satellites = omega (arith, c.count-n.ensures) in
    let small : x.s.signals < 2 ^ 16 = omega (arith, c.well_formed) in
    mask_text x.s (drop x.from x.strips.now) c.requires.0 small (room _ c.args.from c.args.strips.now c.requires.1) (λ e. c.if-cell_count-eq0.false (c.cell_count.ensures.value ∙ e)) ∙ rw n

pub put-requires : goal.put-requires
put-requires c = omega (arith, ap length (empty (goal.at.put-requires c).Then-cell_count-eq0))

pub returns-then-cell_count-eq0 : goal.returns-then-cell_count-eq0
returns-then-cell_count-eq0 c =
    rw (empty (goal.at.returns-then-cell_count-eq0 c).Then-cell_count-eq0) (record { value = c.put.ensures.value; line_after = c.put.ensures.line_after })

pub mask_text-requires : goal.mask_text-requires
mask_text-requires c = omega (arith, ap length (some (goal.at.mask_text-requires c).After-count-n))

pub returns : goal.returns
returns c = rw (some (goal.at.returns c).After-count-n) (record { value = c.mask_text.ensures.value; line_after = c.mask_text.ensures.line_after })
