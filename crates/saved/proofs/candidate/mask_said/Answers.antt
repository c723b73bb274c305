use Rattle.std.proofs.Common.{◌≡◌, ◌∙◌, ap, sym, arith, get_or}
use Rattle.format.specs.Text.{tab}
use Rattle.holding.specs.declared.Holding.{Holding}
use Rattle.holding.specs.Outlines.{outline_of}
use Rattle.holding.specs.Pictures.{picture_of}
use Rattle.saved.proofs.MasksSaid.{none_built, next_built, no_tab, no_slot, few_said}
use Rattle.saved.proofs.candidate.mask_said.Goals as goal

pub loop-i-init : goal.loop-i-init
unfolding picture_of
loop-i-init c =
    let empty = c.outline-h.ensures ∙ ap (λ (h : Holding). outline_of h) c.empty.ensures in
    record { built = none_built c.args.line.now c.args.iod c.args.at empty c.requires.1 c.requires.2; counted = ap (λ (h : _). h.count) empty }

pub returns-then-char_at-ne-TAB : goal.returns-then-char_at-ne-TAB
returns-then-char_at-ne-TAB c ss fine text = no_tab (c.loop-i.invariant.built.says ss fine text) (λ e. c.if-char_at-ne-TAB.true (c.char_at.ensures ∙ e))

pub returns-then-first-n-gt-SATELLITES : goal.returns-then-first-n-gt-SATELLITES
returns-then-first-n-gt-SATELLITES c ss fine text =
    let here : get_or c.args.line.now c.loop-i.place 0 ≡ tab = sym c.char_at.ensures ∙ c.if-char_at-ne-TAB.false in
    absurd (omega (arith, c.if-first-n-gt-SATELLITES.true, c.count-n.ensures, few_said (c.loop-i.invariant.built.says ss fine text) here c.slot_said-s.ensures))

pub loop-i-preserved : goal.loop-i-preserved
loop-i-preserved c =
    let here : get_or c.args.line.now c.loop-i.place 0 ≡ tab = sym c.char_at.ensures ∙ c.if-char_at-ne-TAB.false in
    let said = c.strips_said.ensures in
    let size = c.system_long-place.ensures in
    record {
      built = next_built c.loop-i.invariant.built c.loop-i.invariant.counted (omega arith) here c.slot_said-s.ensures c.count-n.ensures (omega arith) (said.value, said.strips_after) (size.value, size.upper_bound);
      counted = omega arith;
    }

pub returns : goal.returns
returns c ss fine text = no_slot (c.loop-i.invariant.built.says ss fine text) fine (omega arith)
