-- `holding::set_places::rest` meets its contract. Assumes nothing.
use Rattle.bits.proofs.Words.{◌≡◌, sym, ap, ◌∙◌, ℕ, ◌+◌, ◌-◌, ◌/◌, ◌^◌, ◌<◌, arith, rules}
use lib.Count.{count_leading_zeros}
use lib.Pow.{pow-add, shl-shr}
use Rattle.holding.proofs.Places.{next_place}
use Rattle.holding.proofs.set_places.rest.Statement.{statement}
use Rattle.holding.proofs.set_places.rest.Tie as tie

-- the bit at a place, as a shift makes it
bit_at : (p : ℕ) → p < 64 → 2 ^ 63 / 2 ^ p ≡ 2 ^ (63 - p)
bit_at p small =
    let e : (63 - p) + p ≡ 63 = omega arith in
    ap (λ (n : ℕ). 2 ^ n / 2 ^ p) (sym e) ∙ ap (λ (n : ℕ). n / 2 ^ p) (pow-add 2 (63 - p) p) ∙ shl-shr (2 ^ (63 - p)) p

module _ (c : tie.After-first-place) where
  abbrev mask : ℕ
  mask = c.args.mask

  inside : c.first-place.result < 64
  inside = omega (arith, (next_place mask c.requires c.ranges.mask.fits).0)

  bit : 2 ^ 63 / 2 ^ c.first-place.result ≡ 2 ^ (63 - count_leading_zeros 64 mask)
  bit = bit_at c.first-place.result inside ∙ ap (λ (p : ℕ). 2 ^ (63 - p)) c.first-place.ensures

pub rest_spec : {M : Type 1} → statement M
rest_spec =
    tie.close
    (tie.spec (λ c κs. search rules) (λ c. inside c) (λ c. rw (bit c) (next_place (mask c) c.requires c.ranges.mask.fits).1)
    (λ c. ap (λ (n : ℕ). mask c - n) (bit c)))
