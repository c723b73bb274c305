-- Where crate format's program of what opens a message ends, by number and sub type as the code reads them: both at once, whether or not the second is there.
-- Assumes nothing.
use Rattle.bits.proofs.Words.{◌≡◌, ap, ◌∙◌, cond, List, ℕ, ◌+◌, ◌-◌, ◌/◌, ◌%◌, ◌≤◌, ◌<◌, arith, eqb}
use Rattle.bits.proofs.Fields.{field_add, field_lt}
use Rattle.bits.specs.Places.{field}
use Rattle.format.proofs.Ends.{done_end, test_end, onward, number_there, number_cut}
use Rattle.format.specs.declared.Refusal.TheVariants.{Short, Number}
use Rattle.format.specs.Ends.{Within, end_from}
use Rattle.format.specs.Programs.{done, ◌>>=◌, numbered, well, badly}
use Rattle.format.specs.Table.{opening}

module _ {bs : List ℕ} {end place : ℕ} (at : Within bs end place) {both : ℕ} (is : both ≡ field bs place 16) where
  pub number_end : 12 ≤ end - place → end_from opening bs end place ≡ cond (eqb (both / 16) 4073) (end_from (numbered 4 >>= done) bs end (place + 12)) (badly Number 0)
  unfolding opening
  number_end there =
      let first : field bs place 12 ≡ both / 16 = omega (arith, field_add bs place 12 4, field_lt bs (place + 12) 4) in
      number_there at 12 _ (omega arith) ∙ rw (test_end, first)

  pub type_cut : 12 ≤ end - place → end - place < 16 → end_from (numbered 4 >>= done) bs end (place + 12) ≡ badly Short (16 - (end - place))
  type_cut there short = number_cut (onward at (omega arith)) 4 done (omega arith) ∙ ap (badly Short) (omega arith)

  pub type_end : 16 ≤ end - place → end_from (numbered 4 >>= done) bs end (place + 12) ≡ well (both % 16) (place + 12 + 4)
  type_end there =
      let second : field bs (place + 12) 4 ≡ both % 16 = omega (arith, field_add bs place 12 4, field_lt bs (place + 12) 4) in
      number_there (onward at (omega arith)) 4 done (omega arith) ∙ rw (done_end, second)
