-- `heads::heading::by_flags` meets its contract. Assumes nothing.
use Rattle.bits.proofs.Words.{◌≡◌, sym, ap, subst, ℕ, ◌+◌, ◌-◌, ◌/◌, ◌%◌, ◌^◌, ◌<◌, arith, rules, eqb, pos}
use mir.Facts.{to_z_pos}
use mir.Syntax.{w32}
use Rattle.bits.proofs.BitLists.{digit_eqb}
use Rattle.format.specs.Messages.{selection, head_of}
use Rattle.format.specs.Programs.{◌>>=◌}
use Rattle.format.proofs.Ends.{done_end}
use Rattle.holding.specs.Held.{sky_in}
use Rattle.format.specs.Rows.{absent}
use Rattle.heads.specs.Headings.{head_with, said_by, FitsHeading, HasBody, Bodied, flagged_body, rowed, networked, network_by, after_flags}
use Rattle.heads.proofs.Named.{all_lines}
use Rattle.heads.proofs.heading.by_flags.Statement.{statement}
use Rattle.heads.proofs.heading.by_flags.Tie as tie
use Rattle.rows.specs.Table.{shape_at}
use borrow.Author.Tests.{eq-eqb, ne_eqb}
use Rattle.table.specs.declared.Body.{Body}
use Rattle.table.specs.Bodies.{lines_in, FitsKeys}
use Rattle.table.specs.Kinds.{keys_for}
use Rattle.table.specs.Shapes.{shapes_from}

-- the shape that two flags say, by half of the number that the three are
by_half : (shape flags : ℕ) → flags < 8 → shapes_from shape (eqb (flags / 4) 1) (eqb (flags / 2 % 2) 1) ≡ shape_at (shape + flags / 2)
unfolding shapes_from
by_half shape flags small =
    let first = digit_eqb (flags / 4) (omega arith) in
    let second = digit_eqb (flags / 2 % 2) (omega arith) in
    rw (first, second) (ap (λ (i : ℕ). shape_at (shape + i)) (omega arith))

-- the head that was made
module _ (c : tie.After-head-numbers) where
  abbrev start : tie.Start
  start = c.before.before.before.before

  made : c.head-numbers.result ≡ head_with start.args.under.subtype start.args.h (pos (start.args.flags / 4)) (pos (start.args.flags / 2 % 2)) absent
  made =
      let flags = start.args.flags in
      rw (to_z_pos w32 {n = flags / 4} (omega (arith, start.requires.5)), to_z_pos w32 {n = flags / 2 % 2} (omega arith)) at c.head-numbers.ensures

  -- its shape is one by two flags
  fits : (chosen : ℕ) → FitsKeys (keys_for start.args.under.layout.cells chosen) (start.args.under.layout.shape + start.args.flags / 2)
  fits chosen = start.requires.3.of_flags start.requires.4 (start.args.flags / 2) (omega (arith, start.requires.5)) chosen

returns-then-flags-ne0 : tie.Need-returns-then-flags-ne0
unfolding sky_in after_flags network_by rowed networked head_with head_of flagged_body
returns-then-flags-ne0 c =
    let p = c.before.before in
    let s = start p in
    let x = s.args in
    let one : x.flags % 2 ≡ 1 = omega (arith, c.if-flags-ne0.true) in
    let said = rw (made p) at c.selection.ensures.0 in (
      λ v shows. rw (one, by_half x.under.layout.shape x.flags s.requires.5) (said v shows),
      subst (λ (b : Body). Bodied b c.selection.result) (sym (rw (ne_eqb (x.flags % 2) 0 c.if-flags-ne0.true))) c.selection.ensures.1,
    )

returns : tie.Need-returns
unfolding said_by FitsHeading HasBody flagged_body lines_in sky_in after_flags selection ◌>>=◌ head_with
returns c =
    let o = c.before in
    let p = o.before.before in
    let s = start p in
    let x = s.args in (
      λ v shows.
          rw (made p, o.if-flags-ne0.false, by_half x.under.layout.shape x.flags s.requires.5, done_end, all_lines shows x.under.layout (x.under.layout.shape + x.flags / 2), o.over-keys.ensures),
      record {
        fits = rw o.over-keys.ensures (fits p (2 ^ 64 - 1));
        this = rw (eq-eqb (x.flags % 2) 0 o.if-flags-ne0.false) (λ i. record { keys = o.over-keys.ensures i; shape = x.under.layout.shape + x.flags / 2 });
      },
    )

pub by_flags_spec : {M : Type 1} → statement M
by_flags_spec =
    tie.close
    (tie.spec (λ c. search rules) (λ c. search rules) (λ c. search rules) (λ c κs. search rules)
    (λ c κs. let p = (start c.before).requires in (p.1, p.2, fits c.before, p.7, p.8)) returns-then-flags-ne0 (λ c κs. search rules) (λ c. search rules) returns)
