-- `matching::fits::packet::reach` meets its contract. The loop's invariant: how far the rows fit is told by the lines behind the i-th.
-- Assumes nothing.
use Rattle.bits.proofs.Words.{◌≡◌, refl, ap, ◌∙◌, List, [], ◌∷◌, ℕ, suc, ◌+◌, ◌-◌, ◌≤◌, add-one, arith, rules, pos}
use native.Mathlib.Nat.{sub-zero}
use Rattle.body.proofs.Keys.{key}
use Rattle.format.specs.Messages.{packet_lines, packet_shape}
use Rattle.format.specs.Rows.{Line, absent}
use Rattle.rows.proofs.Table.{made_formed, columns_at}
use Rattle.rows.specs.Shapes.{columns_of}
use Rattle.rows.specs.Table.{shapes, listed, shape_at}
use Rattle.matching.proofs.Lines.{tested_by_lem}
use Rattle.matching.proofs.Matching.{fits_at, Tests, tests_start, row_fits_lem, row_fails, tests_end}
use Rattle.matching.proofs.fits.packet.reach.Statement.{statement}
use Rattle.matching.proofs.fits.packet.reach.Tie as tie

abbrev invariant-loop-i : tie.invariant-loop-i
invariant-loop-i parts rows s i₀ k₀ i k = (i ≤ parts) × Tests (packet_lines 1 parts) rows 0 (packet_lines (suc i) (parts - i)) k

abbrev decreases-loop-i : tie.decreases-loop-i
decreases-loop-i parts rows s i₀ k₀ i k = parts - i

module _ (c : tie.In-loop-i invariant-loop-i decreases-loop-i) where
  abbrev start : tie.Start invariant-loop-i decreases-loop-i
  start = c.before.before.before

  abbrev i : ℕ
  i = c.loop-i.i

  -- the next line, and those behind it
  abbrev line : Line
  line = record { keys = absent ∷ absent ∷ pos (suc i) ∷ []; shape = packet_shape }

  abbrev behind : List Line
  behind = packet_lines (suc (suc i)) (start.args.parts - suc i)

  both : packet_lines (suc i) (start.args.parts - i) ≡ line ∷ behind
  unfolding packet_lines
  both =
      let more : start.args.parts - i ≡ suc (start.args.parts - suc i) = omega arith in
      ap (packet_lines (suc i)) more

  columns : columns_of c.packet-s.result ≡ packet_shape
  unfolding shape_at listed shapes
  columns = ap columns_of c.packet-s.ensures ∙ columns_at 0 7

tested : (c : tie.After-fits invariant-loop-i decreases-loop-i) → let p = c.before in c.fits.result ≡ fits_at (line p) (start p).args.rows.now p.loop-i.k
tested c =
    let p = c.before in
    let number = key (i p + 1) (suc (i p)) (omega (arith, p.loop-i-test.true, (start p).requires)) (add-one (i p)) in
    tested_by_lem _ packet_shape (start p).args.rows.now p.loop-i.k refl refl number (columns p) c.fits.ensures

loop-again : tie.Need-loop-i-preserved invariant-loop-i decreases-loop-i
loop-again c =
    let f = c.before in
    let p = f.before in
    rw (add-one (i p)) (p.loop-i-test.true, row_fits_lem p.loop-i.invariant.1 (line p) (behind p) (both p) f.fits.result (tested f) c.if-not-fits.false)

pub reach_spec : {M : Type 1} → statement M
unfolding packet_lines
reach_spec =
    tie.close
    (tie.spec invariant-loop-i decreases-loop-i (λ c κs. search rules) (λ c. (omega arith, rw sub-zero (tests_start (omega arith)))) (λ c. omega (arith, (start c).requires))
    (λ c. record { sfits = omega (arith, c.loop-i-test.true, (start c).requires) }) (λ c κs. (c.loop-i.invariant.1.within, made_formed 0 7 c.packet-s.ensures))
    (λ c. let f = c.before in let p = f.before in row_fails p.loop-i.invariant.1 (line p) (behind p) (both p) f.fits.result (tested f) c.if-not-fits.true)
    (λ c. let p = c.before.before in omega (arith, p.loop-i.invariant.1.within, (start p).well_formed.1.0)) (λ c. omega (arith, c.loop-i-test.true)) loop-again
    (λ c.
    let s = c.loop-i in
    let none : c.args.parts - s.i ≡ 0 = omega (arith, c.loop-i-test.false) in
    tests_end s.invariant.1 (ap (packet_lines (suc s.i)) none)))
