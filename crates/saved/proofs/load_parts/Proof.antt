-- `saved::load_parts` meets its contract: the holding that the line would say, and the tests of it. Assumes nothing.
use mathlib.Core.Path.{◌≡◌, sym, ap, ◌∙◌}
use mathlib.Core.List.{List}
use Prim.Native.Nat.{ℕ}
use borrow.Author.Rules.{rules}
use Rattle.format.specs.declared.Refusal.TheVariants.{Value}
use Rattle.format.specs.Saved.{unloaded, load}
use Rattle.holding.specs.declared.Holding.{Holding}
use Rattle.holding.specs.Outlines.{outline_of, whole_of}
use Rattle.saved.proofs.LoadedLines.{not_sound, not_own, is_loaded, is_refused}
use Rattle.saved.proofs.load_parts.Lts.{then-is_sound+else-is_own, else-is_sound}
use Rattle.saved.proofs.load_parts.Statement.{statement}
use Rattle.saved.proofs.load_parts.Tie as tie

-- the holding that the line would say
module _ (c : tie.After-is_sound) where
  abbrev made : tie.After-candidate-outline
  made = c.before

  abbrev line : List ℕ
  line = made.args.line.now

  abbrev h : Holding
  h = whole_of made.candidate-outline.result made.candidate-outline.new.satellites made.candidate-outline.new.strips

returns-then-is_own : tie.Need-returns-then-is_own
returns-then-is_own c =
    let t = c.before.before.before in
    sym (is_loaded (line t) (h t) (made t).candidate-outline.ensures (sym c.is_sound.ensures ∙ c.if-is_sound.true) (sym c.is_own.ensures ∙ c.if-is_own.true))

returns : tie.Need-returns
returns c =
    let j = c.before.before.before.before in
    let t = j.before in
    let would = (made t).candidate-outline.ensures in
    let off : load (line t) ≡ unloaded Value = elim j.if-is_sound.branch [
      | then-is_sound+else-is_own w ↦ not_own (line t) (h t) would (sym w.is_own.ensures ∙ w.if-is_own.false)
      | else-is_sound w ↦ not_sound (line t) (h t) would (sym t.is_sound.ensures ∙ w.if-is_sound.false)
    ] in
    is_refused (line t) off (c.outline.ensures ∙ ap (λ (h : Holding). outline_of h) c.empty.ensures)

pub load_parts_spec : {M : Type 1} → statement M
load_parts_spec =
    tie.close
    (tie.spec (λ c κs. search rules) (λ c κs. search rules) (λ c κs. let t = c in sym t.is_sound.ensures ∙ t.if-is_sound.true) returns-then-is_own (λ c κs. search rules) (λ c κs. search rules) returns)
