-- `saved::candidate::candidate` meets its contract: a dash, or an issue and systems. Assumes nothing.
use mathlib.Core.Path.{◌≡◌, refl, sym, ap, ◌∙◌}
use mathlib.Core.List.{List}
use Prim.Native.Nat.{ℕ, ◌+◌, ◌≤◌}
use native.Mathlib.Omega.{arith}
use borrow.Author.Rules.{rules}
use lib.ListN.{length, get_or, drop}
use Rattle.format.specs.Masks.{nothing, mask}
use Rattle.format.specs.Text.{decimal}
use Rattle.holding.specs.declared.Holding.{Holding}
use Rattle.holding.specs.Outlines.{outline_of}
use Rattle.text.proofs.Values.{decimal_long}
use Rattle.saved.specs.Lines.{text_from}
use Rattle.saved.specs.Saying.{issue_said}
use Rattle.saved.proofs.LinesSaid.{dash_first, behind_tab, behind_issue, no_dash, good_parts, issue_said_lem}
use Rattle.saved.proofs.MasksSaid.{mask_with, empty_whole}
use Rattle.saved.proofs.candidate.candidate.Statement.{statement}
use Rattle.saved.proofs.candidate.candidate.Tie as tie

returns-then-char_at-eq-DASH : tie.Need-returns-then-char_at-eq-DASH
returns-then-char_at-eq-DASH c nothing fine same = empty_whole (c.outline.ensures ∙ ap (λ (h : Holding). outline_of h) c.empty.ensures)
returns-then-char_at-eq-DASH c (mask m) fine same =
    let t = c in
    absurd (no_dash m (ap (λ (l : List ℕ). get_or l 2 0) same ∙ sym t.char_at.ensures ∙ t.if-char_at-eq-DASH.true))

few : (c : tie.After-decimals-at) → c.decimals-at.result ≤ 3
few c = omega (arith, c.decimals-at.ensures, decimal_long 2 c.issue_said-iod.result (omega (arith, c.issue_said-iod.type_inv)))

returns : tie.Need-returns
returns c nothing fine same =
    let e = c in
    absurd (e.if-char_at-eq-DASH.false (e.char_at.ensures ∙ sym (ap (λ (l : List ℕ). get_or l 2 0) same) ∙ dash_first))
returns c (mask m) fine same =
    let d = c.before.before.before in
    let i = d.before in
    let line = i.args.line.now in
    let parts = good_parts m fine in
    let issue : i.issue_said-iod.result ≡ m.iod = i.issue_said-iod.ensures ∙ ap (λ (l : List ℕ). issue_said (drop 2 l)) (sym same) ∙ ap issue_said (behind_tab m) ∙ issue_said_lem m.iod m.systems parts.0 in
    let place : d.decimals-at.result ≡ length (decimal m.iod) = d.decimals-at.ensures ∙ ap (λ (n : ℕ). length (decimal n)) issue in
    let text : drop (2 + d.decimals-at.result) line ≡ text_from m.systems =
    ap (λ (k : ℕ). drop (2 + k) line) place ∙ ap (drop (2 + length (decimal m.iod))) (sym same) ∙ behind_issue m in
    c.mask_said.ensures m.systems parts.1 text ∙ ap (λ (n : ℕ). mask_with n m.systems) issue

pub candidate_spec : {M : Type 1} → statement M
candidate_spec =
    tie.close
    (tie.spec (λ c κs. search rules) (λ c κs. search rules) (λ c κs. search rules) returns-then-char_at-eq-DASH (λ c κs. search rules) (λ c. search rules) (λ c κs. search rules) (λ c. omega (arith, few c))
    (λ c κs. (omega (arith, few c.before.before), refl, refl)) returns)
