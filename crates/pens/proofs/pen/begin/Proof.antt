-- `pens::pen::begin` meets its contract. Assumes nothing.
use Rattle.bits.proofs.Words.{◌≡◌, sym, ap, ◌∙◌, subst, ℕ, ◌+◌, ◌-◌, ◌*◌, ◌/◌, ◌%◌, ◌^◌, ◌<◌, arith, rules, get_or}
use Rattle.bits.specs.Places.{field}
use Rattle.pens.specs.Pens.{begun_by}
use Rattle.pens.proofs.Begun.{none_before, byte_before, begun_exact, begun_fits}
use Rattle.pens.proofs.pen.begin.Statement.{statement}
use Rattle.pens.proofs.pen.begin.Tie as tie

module _ (c : tie.After-shared_slice_known-1) where
  abbrev s : tie.Start
  s = c.before.before.before.before

  abbrev place : ℕ
  place = s.args.pen.place

  -- the bits before the place, as they are moved up
  moved : get_or s.args.bytes.now (place / 8) 0 / 2 ^ (8 - place % 8) * 2 ^ s.args.pen.width % 2 ^ 64 ≡ field s.args.bytes.now (place - place % 8) (place % 8) * 2 ^ s.args.pen.width
  moved =
      ap (λ (n : ℕ). n * 2 ^ s.args.pen.width % 2 ^ 64) (byte_before s.args.bytes.now place (λ k. (c.shared_slice_known-1.given k).fits))
      ∙ begun_exact s.requires

overflow_add-result-2 : tie.Need-overflow_add-result-2
overflow_add-result-2 c =
    let b = c.before.before.before in
    record { fits = subst (λ (n : ℕ). n + (s b).args.pen.gathered < 2 ^ 64) (sym (moved b)) (begun_fits (s b).requires) }

returns : tie.Need-returns
unfolding begun_by
returns c =
    let x = (s c.before.before.before).args in
    λ i. record { place = x.pen.place - x.pen.place % 8; width = x.pen.place % 8 + x.pen.width; gathered = moved c.before.before.before i + x.pen.gathered }

pub begin_spec : {M : Type 1} → statement M
begin_spec =
    tie.close
    (tie.spec (λ c. let x = c.args in none_before x.pen x.bytes.now c.if-skip-eq0.true)
    (λ c. omega (arith, c.requires.room, c.if-skip-eq0.false))
    (λ c. record { fits = omega (arith, (c.shared_slice_known-1.given (place c / 8)).fits) }) (λ c. search rules) (λ c. search rules) (λ c. search rules) (λ c. search rules) (λ c. search rules)
    overflow_add-result-2 returns)
