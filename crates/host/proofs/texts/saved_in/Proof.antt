-- `host::texts::saved_in` meets its contract. Assumes nothing.
use mathlib.Core.Path.{◌≡◌, refl, sym, ap, ◌∙◌}
use mathlib.Core.Bool.{true}
use mathlib.Core.List.{List}
use Prim.Native.Nat.{ℕ}
use borrow.Author.Rules.{rules}
use Rattle.format.specs.Saved.{Saved, saving, buffer_after}
use Rattle.holding.specs.declared.Holding.{Holding}
use Rattle.holding.specs.Outlines.{whole_of}
use Rattle.holding.specs.Pictures.{mask_of, lent_by}
use Rattle.host.proofs.Opened.{opened, unsound}
use Rattle.host.proofs.texts.saved_in.Statement.{statement}
use Rattle.host.proofs.texts.saved_in.Tie as tie
use Rattle.passing.specs.Passing.{passes, holding_in}
use Rattle.passing.proofs.Returns.{passed}
use Rattle.saved.specs.Saves.{saving_by}
use Rattle.saved.proofs.SavedLines.{not_sound}

-- bytes that say no holding
returns-then-not-passes : tie.Need-returns-then-not-passes
unfolding saving_by buffer_after
returns-then-not-passes c =
    let p = c in
    let x = p.args in
    rw (not_sound (holding_in x.holding.now) x.line.now (unsound x.holding.now (sym p.passes.ensures ∙ c.if-not-passes.true))) (refl, refl)

-- those that pass
module _ (c : tie.Else-not-passes) where
  abbrev s : tie.Start
  s = c.before.before.before.before

  abbrev lent : List ℕ
  lent = s.args.holding.now

  fine : passes lent ≡ true
  fine = sym c.passes.ensures ∙ c.if-not-passes.false

-- opened in parts
module _ (c : tie.After-outline-outline) where
  abbrev e : tie.Else-not-passes
  e = c.before.before.before

  whole : whole_of c.outline-outline.result c.satellites-satellites.result c.strips-strips.result ≡ holding_in (lent e)
  whole = opened (lent e) (fine e) c.outline-outline.ensures c.satellites-satellites.ensures c.strips-strips.ensures

returns : tie.Need-returns
returns c =
    let k = c.before.before in
    let o = k.before.before.before.before in
    let line = (s (e o)).args.line.now in
    let ended : Holding → Saved = λ h. saving (lent_by h) line in (
      k.save_parts.ensures.0 ∙ ap (λ (h : Holding). saving_by (ended h)) (whole o),
      k.save_parts.ensures.1 ∙ ap (λ (h : Holding). buffer_after (ended h) (mask_of h) line) (whole o),
    )

pub saved_in_spec : {M : Type 1} → statement M
saved_in_spec =
    tie.close
    (tie.spec (λ c κs. search rules) returns-then-not-passes (λ c κs. (passed _ (fine c)).long) (λ c κs. (passed _ (fine c.before)).long) (λ c κs. (passed _ (fine c.before.before)).long)
    (λ c κs. search rules) (λ c. search rules) returns)
