-- `matching::fits::values::orbits` meets its contract. The loop's invariant: the rows that are left tell what all tell. Assumes nothing.
use Rattle.bits.proofs.Words.{ℕ, ◌+◌, ◌-◌, ◌*◌, ◌≤◌, add-one, arith, length}
use Rattle.rows.specs.Shapes.{columns_in, orbit_of}
use Rattle.matching.proofs.ValueTests.{Valued, valued_start, valued_next, valued_fails, valued_end, row_lent}
use Rattle.matching.proofs.fits.values.orbits.Statement.{statement}
use Rattle.matching.proofs.fits.values.orbits.Tie as tie

abbrev invariant-loop-i : tie.invariant-loop-i
invariant-loop-i rows count v5 i₀ i = Valued (columns_in (orbit_of 8 v5)) rows count i

abbrev decreases-loop-i : tie.decreases-loop-i
decreases-loop-i rows count v5 i₀ i = count - i

module _ (c : tie.In-loop-i invariant-loop-i decreases-loop-i) where
  abbrev start : tie.Start invariant-loop-i decreases-loop-i
  start = c.before.before

  abbrev i : ℕ
  i = c.loop-i.i

  -- the row is there
  there : 8 * i + 8 ≤ length start.args.rows.now
  there = omega (arith, c.loop-i-test.true, start.requires.0)

pub orbits_spec : {M : Type 1} → statement M
orbits_spec =
    tie.close
    (tie.spec invariant-loop-i decreases-loop-i (λ c. valued_start) (λ c. omega (arith, there c, (start c).well_formed.0)) (λ c. omega (arith, there c, (start c).well_formed.0)) (λ c. omega (arith, there c, (start c).well_formed.0)) (λ c. omega arith)
    (λ c. omega arith) (λ c. there c) (λ c κs. let p = c.before in (row_lent (i p) (start p).args.rows.now (there p), (start p).requires.1))
    (λ c. let t = c.before in let p = t.before.before in valued_fails p.loop-i.invariant p.loop-i-test.true t.orbit.result t.orbit.ensures c.if-not-orbit.true)
    (λ c. let p = c.before.before.before in omega (arith, there p, (start p).well_formed.0)) (λ c. let p = c.before.before.before in omega (arith, p.loop-i-test.true))
    (λ c. let t = c.before in let p = t.before.before in rw (add-one (i p)) (valued_next p.loop-i.invariant p.loop-i-test.true t.orbit.result t.orbit.ensures c.if-not-orbit.false))
    (λ c. valued_end c.loop-i.invariant c.loop-i-test.false))
