-- `pens::pen::push` meets its contract. Assumes nothing.
use Rattle.bits.proofs.Words.{sym, ◌∙◌, ◌+◌, ◌≤◌, arith, rules}
use Rattle.pens.specs.Pens.{full_word}
use Rattle.pens.proofs.Pens.{set_part, joined, apart, joined_ink, apart_ink, narrow_field, sum_fits, full_fits, room_set}
use Rattle.pens.proofs.pen.push.Statement.{statement}
use Rattle.pens.proofs.pen.push.Tie as tie

returns-then-total-lt-MOST : tie.Need-returns-then-total-lt-MOST
returns-then-total-lt-MOST c =
    let t = c in
    let x = t.args in
    (sym (joined x.pen x.field t.if-total-lt-MOST.true), sym (joined_ink x.pen x.field x.bytes.now t.if-total-lt-MOST.true))

-- 64 bits are there
module _ (e : tie.Else-total-lt-MOST) where
  abbrev s : tie.Start
  s = e.before.before.before

  many : 64 ≤ s.args.pen.width + s.args.field.width
  many = omega (arith, e.if-total-lt-MOST.false)

returns : tie.Need-returns
unfolding full_word
returns c =
    let f = c.before.before.before in
    let e = f.before.before.before.before.before.before in
    let x = (s e).args in
    let set = set_part x.bytes.now x.pen.place 64 (full_word x.pen x.field) (λ k. (e.slice_known-1.given k).fits) (s e).requires.whole (omega (arith, room_set (s e).requires (many e))) _ f.store_eight.ensures in
    (sym (apart x.pen x.field (many e)), set ∙ sym (apart_ink x.pen x.field x.bytes.now (many e)))

pub push_spec : {M : Type 1} → statement M
push_spec =
    tie.close
    (tie.spec (λ c. let s = c.before.before in omega (arith, s.requires.pen.narrow, narrow_field s.requires)) (λ c. search rules)
    (λ c. record { fits = sum_fits c.requires }) returns-then-total-lt-MOST (λ c. search rules)
    (λ c. let e = c.before.before.before in omega (arith, many e, narrow_field (s e).requires))
    (λ c. let e = c.before.before.before.before in omega (arith, (s e).requires.pen.narrow, narrow_field (s e).requires))
    (λ c. let e = c.before.before.before.before in record { fits = full_fits (s e).requires (many e) }) (λ c. search rules) (λ c. search rules) (λ c. search rules)
    (λ c κs. let e = c.before.before.before.before.before in omega (arith, room_set (s e).requires (many e), (s e).requires.whole)) (λ c. search rules) (λ c. search rules) returns)
