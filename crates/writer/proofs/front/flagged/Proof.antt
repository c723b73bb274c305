-- `writer::front::flagged` meets its contract. Assumes nothing.
use Rattle.bits.proofs.Words.{◌≡◌, sym, ◌∙◌, rules}
use mir.Facts.{to_z-of_z}
use Rattle.format.specs.Rows.{absent}
use Rattle.format.specs.Same.{sameℤ}
use Rattle.pens.specs.Numbers.{word_of}
use Rattle.writer.proofs.Fronts.{flags_alone, flags_network}
use Rattle.pens.proofs.Numbers.{of_struct}
use Rattle.writer.proofs.front.flagged.Statement.{statement}
use Rattle.writer.proofs.front.flagged.Tie as tie

module _ (c : tie.After-is_absent) where
  abbrev s : tie.Start
  s = c.before.before.before.before.before.before.before

  a : c.word.result ≡ word_of s.args.head.a
  a = of_struct word_of _ c.struct_told-1.given.1.1.1.1.1.0.1 c.word.ensures.0

  b : c.word-2.result ≡ word_of s.args.head.b
  b = of_struct word_of _ c.struct_told-2-1.given.1.1.1.1.1.1.0.1 c.word-2.ensures.0

  none : c.is_absent.result ≡ sameℤ s.args.head.c absent
  none = rw (to_z-of_z {z = s.args.head.c} (record { sfits = c.struct_told-3-1.given.1.1.1.1.1.1.1.0.1 })) at c.is_absent.ensures

returns-then-is_absent : tie.Need-returns-then-is_absent
returns-then-is_absent c =
    let t = c.before.before in
    let front = t.common-front.ensures in
    flags_alone (s t).args.start (s t).args.head _ front.0 front.1 _ _ (a t) (b t) (sym (none t) ∙ c.if-is_absent.true)

returns : tie.Need-returns
returns c =
    let t = c.before.before.before.before in
    let front = t.common-front.ensures in
    let network : c.word-3.result ≡ word_of (s t).args.head.c = of_struct word_of _ c.struct_told-4-1.given.1.1.1.1.1.1.1.0.1 c.word-3.ensures.0 in
    flags_network (s t).args.start (s t).args.head _ front.0 front.1 _ _ (a t) (b t) (sym (none t) ∙ c.if-is_absent.false) _ network

pub flagged_spec : {M : Type 1} → statement M
flagged_spec =
    tie.close
    (tie.spec (λ c κs. search rules) (λ c κs. search rules) (λ c. search rules) (λ c κs. search rules) (λ c. search rules) (λ c. search rules) (λ c κs. search rules)
    (λ c. search rules) (λ c. search rules) returns-then-is_absent (λ c. search rules) (λ c. search rules) (λ c. search rules) (λ c. search rules) (λ c κs. search rules) (λ c. search rules) returns)
