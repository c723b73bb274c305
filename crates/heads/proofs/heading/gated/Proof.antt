-- `heads::heading::gated` meets its contract. Assumes nothing.
use Rattle.bits.proofs.Words.{◌≡◌, sym, ap, subst, ◌∙◌, true, false, ℕ, ◌+◌, arith, rules}
use borrow.Author.Tests.{eq-eqb, ne_eqb, not-true, not-false}
use Rattle.format.specs.Masks.{Sky}
use Rattle.format.specs.Messages as Messages
use Rattle.format.specs.Messages.{rows_alone, flagged}
use Rattle.format.proofs.Ends.{done_end}
use Rattle.format.specs.Ends.{end_from}
use Rattle.format.specs.Programs.{Program, ◌>>=◌, ◌>>◌, require, later, run}
use Rattle.heads.specs.declared.CommonHead.{CommonHead}
use Rattle.heads.specs.declared.heading.Under.{Under}
use Rattle.heads.specs.Heads.{common_of}
use Rattle.heads.specs.Headings.{head_with, said_by, FitsHeading, HasBody, Bodied, masked_body, gate_by, gated_by}
use Rattle.heads.proofs.heading.gated.Statement.{statement}
use Rattle.heads.proofs.heading.gated.Tie as tie
use Rattle.holding.specs.Held.{sky_in}
use Rattle.table.specs.declared.Body.{Body}
use Rattle.table.specs.declared.Layout.{Layout}
use Rattle.table.proofs.Overs.{alone_lines}
use Rattle.table.specs.Bodies.{lines_in}
use Rattle.table.specs.Kinds.{over_by, keys_by, program_by}
use Rattle.table.specs.Shapes.{shapes_from}

-- past the gate
passed : (u : Under) (h : CommonHead) (sky : Sky) → u.held ≡ true → h.iod ≡ u.iod → gated_by u sky (common_of h) ≡ program_by u.subtype u.layout sky (common_of h)
unfolding gated_by gate_by common_of require ◌>>◌ ◌>>=◌
passed u h sky e same = rw (e, eq-eqb h.iod u.iod same)

-- rows alone, which go over all that is seen
alone : (n : ℕ) (l : Layout) (sky : Sky) (h : Messages.Common) → l.flagged ≡ false → program_by n l sky h ≡ rows_alone n (over_by l) sky h
unfolding program_by
alone n l sky h e = rw e

-- rows behind flags
behind_flags : (n : ℕ) (l : Layout) (sky : Sky) (h : Messages.Common) → l.flagged ≡ true → program_by n l sky h ≡ flagged n (keys_by l) (shapes_from l.shape) sky h
unfolding program_by
behind_flags n l sky h e = rw e

returns-then-h-under : tie.Need-returns-then-h-under
unfolding gated_by gate_by common_of require ◌>>◌ ◌>>=◌ said_by FitsHeading HasBody end_from run later
returns-then-h-under c =
    let x = c.args in
    (λ v shows. rw (not-false x.under.held c.if-not-under.false, ne_eqb x.h.iod x.under.iod c.if-h-under.true), record { fits = tt; this = tt })

returns-then-under : tie.Need-returns-then-under
unfolding masked_body
returns-then-under c =
    let x = c.args in (
      λ v shows.
          let program =
          passed x.under x.h (sky_in v) (not-false x.under.held c.if-not-under.false) c.if-h-under.false
          ∙ behind_flags x.under.subtype x.under.layout (sky_in v) (common_of x.h) c.if-under.true in
          c.flagged.ensures.0 v shows ∙ ap (λ (p : Program Messages.Heading). end_from p x.bytes.now x.f.end (x.f.start + 37)) (sym program),
      subst (λ (b : Body). Bodied b c.flagged.result) (sym (rw c.if-under.true)) c.flagged.ensures.1,
    )

returns : tie.Need-returns
unfolding said_by FitsHeading HasBody masked_body lines_in rows_alone head_with
returns c =
    let x = c.args in (
      λ v shows.
          rw (
            passed x.under x.h (sky_in v) (not-false x.under.held c.if-not-under.false) c.if-h-under.false,
            alone x.under.subtype x.under.layout (sky_in v) (common_of x.h) c.if-under.false,
            c.head-numbers.ensures,
            c.over-keys.ensures,
            alone_lines x.under.layout v (omega (arith, shows.count, shows.few)) (rw shows.strips shows.most),
            done_end,
          ),
      record { fits = rw c.over-keys.ensures (c.requires.3.fits _); this = rw c.if-under.false (λ i. record { keys = c.over-keys.ensures i; shape = x.under.layout.shape }) },
    )

pub gated_spec : {M : Type 1} → statement M
unfolding gated_by gate_by ◌>>◌ ◌>>=◌ said_by FitsHeading HasBody end_from run later
gated_spec =
    tie.close
    (tie.spec (λ c. let x = c.args in (λ v shows. rw (not-true x.under.held c.if-not-under.true), record { fits = tt; this = tt })) (λ c. search rules) returns-then-h-under
    (λ c κs. let p = c.requires in (p.0, p.1, p.2, p.3, c.if-under.true, p.4, p.5, p.6))
    returns-then-under (λ c κs. search rules) (λ c κs. search rules) (λ c. search rules) returns)
