-- `saved::line::front_text` meets its contract. Assumes nothing.
use mathlib.Core.Path.{◌≡◌, ap}
use mathlib.Core.List.{[], ◌∷◌}
use native.Mathlib.Omega.{arith}
use borrow.Author.Rules.{rules}
use borrow.Author.Tests.{not-true, not-false}
use lib.ListN.{length}
use Rattle.format.specs.Saved.{letter_s}
use Rattle.format.specs.Text.{tab, dash, decimal}
use Rattle.text.proofs.Stores.{Wrote, wrote, then_wrote, told_first}
use Rattle.saved.specs.Lines.{line_front}
use Rattle.saved.proofs.HeldTexts.{nothing_front, mask_front_lem}
use Rattle.saved.proofs.line.front_text.Statement.{statement}
use Rattle.saved.proofs.line.front_text.Tie as tie

-- letter and tab
module _ (c : tie.After-struct_known-1) where
  abbrev q : tie.After-put-second
  q = c.before.before.before

  abbrev p : tie.After-put-first
  p = q.before.before.before.before

  abbrev s : tie.Start
  s = p.before.before.before

  both : Wrote s.args.line.now 0 (letter_s ∷ (tab ∷ [])) q.put-second.new.line q.put-second.result
  both = then_wrote (wrote s.args.line.now {at = 0} (letter_s ∷ []) p.put-first.ensures) (wrote _ (tab ∷ []) q.put-second.ensures)

-- a dash
module _ (c : tie.Then-not-outline) where
  nothing : line_front (s c.before).args.outline ≡ letter_s ∷ (tab ∷ (dash ∷ []))
  nothing = nothing_front (s c.before).args.outline (not-true _ c.if-not-outline.true)

-- or the issue
module _ (c : tie.Else-not-outline) where
  issue : line_front (s c.before).args.outline ≡ letter_s ∷ (tab ∷ decimal (s c.before).args.outline.iod)
  issue = mask_front_lem (s c.before).args.outline (not-false _ c.if-not-outline.false)

put-first-requires : tie.Need-put-first-requires
unfolding line_front
put-first-requires c κs = omega arith

put-second-requires : tie.Need-put-second-requires
unfolding line_front
put-second-requires c κs = omega (arith, c.put-first.ensures.0)

put-requires : tie.Need-put-requires
put-requires c κs = let t = c.before in omega (arith, ap length (nothing t), (both t.before).place)

returns-then-not-outline : tie.Need-returns-then-not-outline
returns-then-not-outline c =
    let r = c.before.before in
    let t = r.before.before in
    rw (nothing t) (told_first (then_wrote (both t.before) (wrote _ (dash ∷ []) r.put.ensures)))

number-requires : tie.Need-number-requires
number-requires c κs = let e = c.before.before in omega (arith, ap length (issue e), (both e.before).place)

returns : tie.Need-returns
returns c =
    let r = c.before.before in
    let e = r.before.before.before in
    rw (issue e) (told_first (then_wrote (both e.before) (wrote _ (decimal (s e.before).args.outline.iod) r.number.ensures)))

pub front_text_spec : {M : Type 1} → statement M
front_text_spec = tie.close (tie.spec put-first-requires put-second-requires put-requires (λ c. search rules) returns-then-not-outline (λ c. search rules) number-requires (λ c. search rules) returns)
