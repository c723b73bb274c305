-- `matching::fits::line::cell_fits` meets its contract. Assumes nothing.
use Rattle.bits.proofs.Words.{◌≡◌, sym, ap, ◌∙◌, true, List, ℕ, ◌+◌, ◌-◌, arith, rules, leb, length, take, drop, ℤ}
use borrow.Author.Tests.{le-leb, lt-leb}
use lib.ListN.{length-drop}
use lib.Seq.{length-take-le}
use Rattle.body.proofs.Going.{lent}
use Rattle.format.specs.Same.{same_list, sameℤ}
use Rattle.fitting.specs.Fits.{row_fits}
use Rattle.matching.specs.Matching.{keys_of}
use Rattle.matching.proofs.fits.line.cell_fits.Statement.{statement}
use Rattle.matching.proofs.fits.line.cell_fits.Tie as tie

-- how many numbers there are from the k-th on
many : (s : tie.Start) → length (take (length s.args.rows.now - s.args.k) (drop s.args.k s.args.rows.now)) ≡ length s.args.rows.now - s.args.k
many s = ap length (lent s.args.k s.args.rows.now) ∙ length-drop s.args.k s.args.rows.now

-- the row is there
module _ (c : tie.Else-rest-lt8) where
  abbrev start : tie.Start
  start = c.before.before

  abbrev numbers : List ℤ
  numbers = start.args.rows.now

  abbrev k : ℕ
  k = start.args.k

  there : leb (k + 8) (length numbers) ≡ true
  there = le-leb (k + 8) (length numbers) (omega (arith, c.if-rest-lt8.false, many start, start.requires.0))

  -- and is what was lent
  same : take 8 (take (length numbers - k) (drop k numbers)) ≡ take 8 (drop k numbers)
  same = ap (take 8) (lent k numbers)

  eight : length (take 8 (take (length numbers - k) (drop k numbers))) ≡ 8
  eight = length-take-le 8 (take (length numbers - k) (drop k numbers)) c.if-rest-lt8.false

keys : (c : tie.After-keyed) → let e = c.before in c.keyed.result ≡ same_list sameℤ (take 3 (take 8 (drop (k e) (numbers e)))) (keys_of (start e).args.key)
keys c = let e = c.before in c.keyed.ensures ∙ ap (λ (r : List ℤ). same_list sameℤ (take 3 r) (keys_of (start e).args.key)) (same e)

returns-then-not-keyed : tie.Need-returns-then-not-keyed
unfolding row_fits
returns-then-not-keyed c = rw (there c.before.before, sym (keys c.before) ∙ c.if-not-keyed.true)

returns : tie.Need-returns
unfolding row_fits
returns c =
    let f = c.before in
    let e = f.before.before in
    rw (there e, sym (keys f.before) ∙ f.if-not-keyed.false, ← (same e)) c.cell_valued.ensures

pub cell_fits_spec : {M : Type 1} → statement M
cell_fits_spec =
    tie.close
    (tie.spec (λ c. search rules) (λ c. search rules) (λ c. search rules) (λ c. search rules)
    (λ c. let s = c.before.before in rw (lt-leb (s.args.k + 8) (length s.args.rows.now) (omega (arith, c.if-rest-lt8.true, many s, s.requires.0)))) (λ c. sym (eight c))
    (λ c κs. eight c) returns-then-not-keyed (λ c κs. let e = c.before.before in (eight e, (start e).requires.1, (start e).requires.2, (start e).requires.3)) returns)
