-- `writer::front::mask` meets its contract. Assumes nothing.
use Rattle.bits.proofs.Words.{◌≡◌, ap, sym, ◌∙◌, ℕ, ◌+◌, ◌*◌, ◌^◌, ◌<◌, arith, rules}
use Rattle.format.specs.Lengths.{total}
use Rattle.writer.specs.Fronts.{pen_at, front_fields, mask_front, opening_field, last_field}
use Rattle.pens.specs.Numbers.{word_of}
use Rattle.writer.proofs.Fronts.{common_smalls}
use Rattle.pens.proofs.Gathered.{joined_to, all_join}
use Rattle.pens.proofs.Numbers.{of_struct, fits_small}
use Rattle.writer.proofs.front.mask.Statement.{statement}
use Rattle.writer.proofs.front.mask.Tie as tie

-- how large its parts are
module _ (c : tie.After-last) where
  abbrev s : tie.Start
  s = c.before.before.before.before

  epoch : c.word.result ≡ word_of s.args.head.epoch
  epoch = of_struct word_of _ c.struct_told-1.given.1.0.1 c.word.ensures.0

  front_small : (c.opening.result * 1048576 + c.word.result) * 512 + c.last.result < 2 ^ 45
  unfolding opening_field last_field
  front_small =
      let p = s.requires in
      let k = common_smalls 20 s.args.head p.0 in
      omega (arith, k.epoch, k.interval, k.indicator, k.iod, fits_small 4 s.args.head.subtype p.1, epoch, c.opening.ensures.0, c.last.ensures.0)

returns : tie.Need-returns
unfolding mask_front front_fields joined_to total opening_field last_field
returns c =
    let t = c.before.before in
    let x = (s t).args in
    let a : c.word-2.result ≡ word_of x.head.a = of_struct word_of _ c.struct_told-2-1.given.1.1.1.1.1.0.1 c.word-2.ensures.0 in
    ap (λ (g : ℕ). record { place = x.start; width = 49; gathered = g }) (omega (arith, epoch t)) ∙ sym (all_join (mask_front x.head) (pen_at x.start) (omega arith) (omega (arith, epoch t, front_small t)))

pub mask_spec : {M : Type 1} → statement M
mask_spec =
    tie.close
    (tie.spec (λ c κs. search rules) (λ c. search rules) (λ c κs. search rules) (λ c. search rules) (λ c. search rules) (λ c κs. search rules) (λ c. search rules)
    (λ c. omega (arith, front_small c)) (λ c κs. search rules) (λ c. omega (arith, front_small c.before.before)) returns)
