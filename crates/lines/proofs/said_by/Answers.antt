use Rattle.std.proofs.Common.{arith, refl, sym, ◌∙◌}
use Rattle.lines.proofs.Counts.{tab_near}
use Rattle.lines.proofs.Saying.{no_tab, another, too_many, no_count, no_room, no_end, says_bits}
use Rattle.lines.proofs.said_by.Goals as goal
use Rattle.lines.proofs.said_by.Goals.{then-n-via-then-n, then-n-via-else-n+then-not-opens_with}

pub returns-in_err-get : goal.returns-in_err-get
returns-in_err-get c = c.from_residual.ensures ∙ no_tab c.args.line.now c.before_tab-t.result c.before_tab-t.ensures _ refl c.in_err-get.ensures.lookup.3

pub returns-then-branch-ne-TAB : goal.returns-then-branch-ne-TAB
returns-then-branch-ne-TAB c = another c.args.line.now c.before_tab-t.result c.before_tab-t.ensures _ refl (λ e. c.if-branch-ne-TAB.true (c.in_ok-get.ensures.lookup.3.1 0 ∙ e))

pub number_in-n-requires : goal.number_in-n-requires
number_in-n-requires c = (omega (arith, c.before_tab-t.ensures, tab_near 5 c.args.line.now), omega (arith, c.in_ok-get.ensures.lookup.3.0))

pub returns-then-n : goal.returns-then-n
returns-then-n c =
    let t = c.before_tab-t in
    let n = c.number_in-n in
    elim c.then-n.branch [
      | then-n-via-then-n w ↦ too_many c.args.line.now t.result t.ensures n.result n.ensures.value w.if-n.true
      | then-n-via-else-n+then-not-opens_with w ↦ no_count c.args.line.now t.result t.ensures n.result n.ensures.value (sym w.opens_with.ensures ∙ w.if-not-opens_with.true)
    ]

pub returns-in_err-last : goal.returns-in_err-last
returns-in_err-last c =
    let t = c.before_tab-t in
    let n = c.number_in-n in
    c.from_residual-in_err-last.ensures ∙ no_room c.args.line.now t.result t.ensures n.result n.ensures.value c.in_err-last.ensures.cases

pub returns-then-last-ne-LINE_FEED : goal.returns-then-last-ne-LINE_FEED
returns-then-last-ne-LINE_FEED c =
    let t = c.before_tab-t in
    let n = c.number_in-n in
    no_end c.args.line.now t.result t.ensures n.result n.ensures.value c.in_ok-last.digits.now c.in_ok-last.last.now c.in_ok-last.ensures.cases.0 c.if-last-ne-LINE_FEED.true

pub returns : goal.returns
returns c =
    let t = c.before_tab-t in
    let n = c.number_in-n in
    let there = c.in_ok-get.ensures.lookup.3 in
    c.then_some.ensures
    ∙ says_bits c.args.line.now t.result t.ensures n.result n.ensures.value c.in_ok-last.digits.now c.in_ok-last.last.now c.in_ok-last.ensures.cases.0 c.digits_say.result c.digits_say.ensures
    there.0 (sym (there.1 0) ∙ c.if-branch-ne-TAB.false) (omega arith) (sym c.opens_with.ensures ∙ c.if-not-opens_with.false) (omega arith)
