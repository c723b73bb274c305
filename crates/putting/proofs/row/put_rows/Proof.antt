-- `putting::row::put_rows` meets its contract. Assumes nothing.
use Rattle.bits.proofs.Words.{refl, sym, ◌∙◌, rules}
use Rattle.format.specs.Writing.{rows_in}
use Rattle.pens.specs.Pens.{pen_after, ink_after}
use Rattle.putting.specs.Putting.{row_fields}
use Rattle.putting.proofs.row.put_rows.Statement.{statement}
use Rattle.putting.proofs.row.put_rows.Tie as tie

put_pairs-requires : tie.Need-put_pairs-requires
put_pairs-requires c κs =
    let t = c in
    (sym t.paired.ensures ∙ t.if-paired.true, t.requires)

put_lasts-requires : tie.Need-put_lasts-requires
put_lasts-requires c κs =
    let t = c.before in
    let e = t in
    (e.if-s.false, sym t.ended.ensures ∙ t.if-ended.true, e.requires)

returns-then-count-eq0 : tie.Need-returns-then-count-eq0
unfolding rows_in row_fields pen_after ink_after
returns-then-count-eq0 c = rw c.if-count-eq0.true (refl, refl)

pub put_rows_spec : {M : Type 1} → statement M
put_rows_spec =
    tie.close
    (tie.spec returns-then-count-eq0 (λ c κs. search rules) put_pairs-requires (λ c. search rules) (λ c. search rules) (λ c κs. search rules) (λ c. search rules) (λ c. search rules) (λ c κs. search rules)
    put_lasts-requires (λ c. search rules) (λ c. search rules) (λ c κs. search rules) (λ c. search rules) (λ c. search rules))
