-- `saved::save_parts` meets its contract: its tests in their order. Assumes nothing.
use mathlib.Core.Path.{◌≡◌, refl, sym, ◌∙◌}
use mathlib.Core.Bool.{true}
use mathlib.Core.List.{List}
use Prim.Native.Nat.{ℕ, ◌≤◌}
use native.Mathlib.Omega.{arith}
use borrow.Author.Rules.{rules}
use lib.ListN.{length}
use Rattle.format.specs.Saved.{line_of, buffer_after}
use Rattle.holding.specs.declared.Holding.{Holding}
use Rattle.holding.specs.Outlines.{whole_of}
use Rattle.holding.specs.Pictures.{mask_of, sound}
use Rattle.saved.specs.Saves.{saving_by}
use Rattle.saved.proofs.SavedLines.{text_over, not_sound, no_room, finds_room}
use Rattle.saved.proofs.save_parts.Statement.{statement}
use Rattle.saved.proofs.save_parts.Tie as tie

module _ (c : tie.After-is_sound) where
  abbrev start : tie.Start
  start = c.before.before

  abbrev h : Holding
  h = whole_of start.args.outline start.args.satellites.now start.args.strips.now

  abbrev line : List ℕ
  line = start.args.line.now

returns-then-not-is_sound : tie.Need-returns-then-not-is_sound
unfolding saving_by buffer_after
returns-then-not-is_sound c = rw (not_sound (h c.before) (line c.before) (sym c.is_sound.ensures ∙ c.if-not-is_sound.true)) (refl, refl)

good : (c : tie.Else-not-is_sound) → sound (h c.before) ≡ true
good c = sym c.is_sound.ensures ∙ c.if-not-is_sound.false

long : (c : tie.After-line_long) → c.line_long.result ≡ length (line_of (mask_of (h c.before.before)))
long c = c.line_long.ensures (h c.before.before).strips (good c.before)

returns-then-line-line_long : tie.Need-returns-then-line-line_long
unfolding saving_by buffer_after
returns-then-line-line_long c =
    let e = c.before.before in
    rw (no_room (h e.before) (line e.before) (good e) (omega (arith, long c.before))) (refl, refl)

fits : (c : tie.Else-line-line_long) → let i = c.before.before.before in length (line_of (mask_of (h i))) ≤ length (line i)
fits c = omega (arith, long c.before)

returns : tie.Need-returns
unfolding saving_by buffer_after
returns c =
    let t = c.before.before in
    let f = t.before.before in
    let e = f.before.before in
    let i = e.before in
    rw (finds_room (h i) (line i) (good e) (fits f), t.line_text.ensures.0) (refl, t.line_text.ensures.1 ∙ text_over (line_of (mask_of (h i))) (line i) (fits f))

pub save_parts_spec : {M : Type 1} → statement M
save_parts_spec =
    tie.close
    (tie.spec (λ c κs. search rules) returns-then-not-is_sound (λ c κs. record { strips = (h c.before).strips; sounds = good c }) returns-then-line-line_long
    (λ c κs. (good c.before.before.before, fits c.before)) (λ c. search rules) returns)
