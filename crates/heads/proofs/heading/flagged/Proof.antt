-- `heads::heading::flagged` meets its contract. Assumes nothing.
use Rattle.bits.proofs.Words.{◌≡◌, sym, ap, subst, ◌∙◌, ℕ, ◌+◌, arith, rules}
use Rattle.std.specs.Prelude.{Ok}
use Rattle.bits.specs.Short.{taken_at, bits_of, widths_of}
use Rattle.bits.proofs.Short.{field_whole, field_short}
use Rattle.format.proofs.Ends.{onward, after_field, fits}
use Rattle.format.specs.declared.Refusal.TheVariants as Refusal
use Rattle.format.specs.Programs.{badly}
use Rattle.heads.specs.Headings.{said_by, FitsHeading, HasBody, Bodied, flagged_body}
use Rattle.heads.proofs.Headed.{flags_short, flags_there}
use Rattle.heads.proofs.heading.flagged.Statement.{statement}
use Rattle.heads.proofs.heading.flagged.Tie as tie
use Rattle.holding.specs.Held.{sky_in}

-- the three flags, where they are there
module _ (c : tie.In-Ok) where
  abbrev s : tie.Start
  s = c.before.before.before.before

  there : taken_at s.args.bytes.now s.args.f.end (s.args.f.start + 37) 3 ≡ Ok c.in-Ok.flags
  there = sym (c.taken-taken.ensures _ s.requires.7) ∙ c.in-Ok.is

returns-in-Err : tie.Need-returns-in-Err
unfolding said_by FitsHeading HasBody widths_of
returns-in-Err c =
    let e = sym (c.taken-taken.ensures _ c.requires.7) ∙ c.in-Err.is in
    (λ v shows. ap (badly Refusal.Short) c.short_by.ensures ∙ sym (flags_short c.requires.6 c.args.under c.args.h (sky_in v) e), record { fits = tt; this = tt })

returns-in-Ok : tie.Need-returns-in-Ok
returns-in-Ok c =
    let s = s c.before in
    let next : s.args.f.start + 40 ≡ s.args.f.start + 37 + 3 = omega arith in
    let said = rw next at c.by_flags.ensures.0 in
    (λ v shows. said v shows ∙ sym (flags_there s.requires.6 s.args.under s.args.h (sky_in v) (there c.before)), subst (λ (flags : ℕ). Bodied (flagged_body s.args.bytes.now s.args.f.start s.args.under.n s.args.under.layout flags) c.by_flags.result) (field_whole _ _ _ 3 _ (there c.before)).1 c.by_flags.ensures.1)

pub flagged_spec : {M : Type 1} → statement M
unfolding bits_of widths_of
flagged_spec =
    tie.close
    (tie.spec (λ c κs. search rules) (λ c. search rules) (λ c. search rules) (λ c. search rules)
    (λ c κs. (field_short _ _ _ 3 _ (sym (c.taken-taken.ensures _ c.requires.7) ∙ c.in-Err.is)).0)
    (λ c. search rules)
    (λ c κs. let p = (s c).requires in (p.0, p.1, p.2, p.3, p.4, fits p.6 3 (there c), p.5, onward p.6 (omega (arith, after_field p.6 3 (there c))), p.7)) returns-in-Err
    returns-in-Ok)
