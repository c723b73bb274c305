-- `saved::line::line_text` meets its contract. Assumes nothing.
use mathlib.Core.Path.{◌≡◌, ap, ◌∙◌}
use mathlib.Core.List.{List, [], ◌∷◌, ◌++◌, flat_map}
use Prim.Native.Nat.{ℕ, ◌+◌}
use native.Mathlib.Omega.{arith}
use borrow.Author.Rules.{rules}
use lib.ListN.{length, length-append}
use Rattle.format.specs.Saved.{system_text, line_of}
use Rattle.format.specs.Text.{line_feed}
use Rattle.holding.specs.declared.Holding.{Holding}
use Rattle.holding.specs.Outlines.{whole_of}
use Rattle.holding.specs.Pictures.{mask_of}
use Rattle.text.proofs.Stores.{wrote, wrote_first, then_wrote, told_first}
use Rattle.saved.specs.Lines.{line_front, text_from}
use Rattle.saved.specs.Slots.{systems_from}
use Rattle.saved.proofs.HeldTexts.{line_pieces}
use Rattle.saved.proofs.line.line_text.Statement.{statement}
use Rattle.saved.proofs.line.line_text.Tie as tie

-- what is held
module _ (s : tie.Start) where
  abbrev whole : Holding
  whole = whole_of s.args.outline s.args.satellites.now s.args.strips.now

  abbrev systems : List ℕ
  systems = flat_map system_text (systems_from whole 0 0)

  pieces : line_of (mask_of whole) ≡ line_front s.args.outline ++ text_from (systems_from whole 0 0)
  pieces = line_pieces whole s.requires.0

  long : length (line_of (mask_of whole)) ≡ length (line_front s.args.outline) + (length systems + 1)
  long = ap length pieces ∙ simp length-append

front_text-first-requires : tie.Need-front_text-first-requires
front_text-first-requires c κs = omega (arith, long c.before.before)

systems_text-second-requires : tie.Need-systems_text-second-requires
systems_text-second-requires c κs =
    let f = c.before.before.before in
    let s = f.before.before.before in
    (s.requires.0, omega (arith, long s, f.front_text-first.ensures.0))

put-requires : tie.Need-put-requires
put-requires c κs =
    let t = c.before.before.before in
    let f = t.before.before.before.before in
    omega (arith, long f.before.before.before, f.front_text-first.ensures.0, t.systems_text-second.ensures.0)

returns : tie.Need-returns
returns c =
    let p = c.before.before in
    let t = p.before.before.before.before in
    let f = t.before.before.before.before in
    let s = f.before.before.before in
    rw (pieces s)
    (told_first (then_wrote (wrote_first s.args.line.now (line_front s.args.outline) f.front_text-first.ensures) (then_wrote (wrote _ (systems s) t.systems_text-second.ensures) (wrote _ (line_feed ∷ []) p.put.ensures))))

pub line_text_spec : {M : Type 1} → statement M
line_text_spec = tie.close (tie.spec front_text-first-requires systems_text-second-requires put-requires (λ c. search rules) returns)
