-- `matching::fits::line::fits` meets its contract. Assumes nothing.
use Rattle.bits.proofs.Words.{◌≡◌, sym, ap, ◌∙◌, true, List, ℕ, ◌+◌, ◌-◌, arith, rules, leb, length, take, drop, ℤ}
use borrow.Author.Tests.{le-leb, lt-leb}
use lib.ListN.{length-drop}
use lib.Seq.{length-take-le}
use Rattle.format.specs.Same.{same_list, sameℤ}
use Rattle.fitting.specs.Fits.{row_fits}
use Rattle.matching.specs.Matching.{keys_of}
use Rattle.matching.proofs.fits.line.fits.Statement.{statement}
use Rattle.matching.proofs.fits.line.fits.Tie as tie

-- the row is there
module _ (c : tie.Else-e-rows) where
  abbrev numbers : List ℤ
  numbers = c.args.rows.now

  abbrev k : ℕ
  k = c.args.k

  there : leb (k + 8) (length numbers) ≡ true
  there = le-leb (k + 8) (length numbers) c.if-e-rows.false

  -- and is what was lent
  lent : take (k + 8 - k) (drop k numbers) ≡ take 8 (drop k numbers)
  lent = let n : k + 8 - k ≡ 8 = omega arith in rw n

  eight : length (take (k + 8 - k) (drop k numbers)) ≡ 8
  eight = ap length lent ∙ length-take-le 8 (drop k numbers) (rw length-drop (omega (arith, c.if-e-rows.false)))

keys : (c : tie.After-keyed) → let e = c.before.before in c.keyed.result ≡ same_list sameℤ (take 3 (take 8 (drop (k e) (numbers e)))) (keys_of e.args.key)
keys c = let e = c.before.before in c.keyed.ensures ∙ ap (λ (r : List ℤ). same_list sameℤ (take 3 r) (keys_of e.args.key)) (lent e)

returns-then-not-keyed : tie.Need-returns-then-not-keyed
unfolding row_fits
returns-then-not-keyed c = rw (there c.before.before.before, sym (keys c.before) ∙ c.if-not-keyed.true)

returns : tie.Need-returns
unfolding row_fits
returns c =
    let f = c.before in
    let e = f.before.before.before in
    rw (there e, sym (keys f.before) ∙ f.if-not-keyed.false, ← (lent e)) c.valued.ensures

pub fits_spec : {M : Type 1} → statement M
fits_spec =
    tie.close
    (tie.spec (λ c. search rules) (λ c. rw (lt-leb (c.args.k + 8) (length c.args.rows.now) c.if-e-rows.true)) (λ c. search rules) (λ c. search rules) (λ c. search rules)
    (λ c. search rules) (λ c κs. eight c.before) returns-then-not-keyed (λ c κs. (eight c.before.before.before, c.requires.1)) returns)
