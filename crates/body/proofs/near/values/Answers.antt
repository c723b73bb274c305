use Rattle.bits.proofs.Words.{◌≡◌, refl, sym, ap, ◌∙◌, subst, List, ◌++◌, ℕ, suc, ◌+◌, ◌-◌, ◌*◌, ◌≤◌, ◌<◌, arith, length, take, drop, ℤ, get_or, pos}
use native.Mathlib.Nat.{sub-zero}
use lib.ListN.{length-append, length-take, length-drop, take-append-drop}
use lib.Signed.{mag}
use Rattle.rows.proofs.Laid.{columns_width}
use Rattle.rows.proofs.Table.{made_formed}
use Rattle.rows.specs.declared.shape.Shape.{Shape}
use Rattle.body.specs.Near.{valued}
use Rattle.body.proofs.Valued.{valued_step}
use Rattle.body.proofs.near.values.Goals as goal

-- the next row has its eight numbers
eight : (i n : ℕ) (rows : List ℤ) → i < n → 8 * n ≤ length rows → length (take (8 * i + 8 - 8 * i) (drop (8 * i) rows)) ≡ 8
eight i n rows more room = simp length-take (omega (arith, length-drop (8 * i) rows))

pub loop-i-init : goal.loop-i-init
loop-i-init c = (refl, omega arith, rw sub-zero refl)

pub fill_in-place-requires : goal.fill_in-place-requires
fill_in-place-requires c =
    let l = c.loop-i in
    (eight l.i _ l.rows c.loop-i-test.true (omega (arith, l.invariant.0, c.requires.2)), omega (arith, l.invariant.1, c.requires.0, c.requires.1), made_formed 0 _ c.shape_of-s.ensures)

pub loop-i-preserved : goal.loop-i-preserved
unfolding valued
loop-i-preserved c =
    let l = c.loop-i in
    let n = c.args.placed.rows in
    let s = c.shape_of-s.result in
    let bytes = c.args.bytes.now in
    let new = c.fill_in-place.new.row in
    let k = 8 * l.i in
    let room : k + 8 ≤ length l.rows = omega (arith, c.loop-i-test.true, l.invariant.0, c.requires.2) in
    let part = eight l.i n l.rows c.loop-i-test.true (omega (arith, l.invariant.0, c.requires.2)) in
    let long : length new ≡ 8 = c.fill_in-place.auto.row ∙ part in
    let more : n - l.i ≡ suc (n - (l.i + 1)) = omega (arith, c.loop-i-test.true) in
    let next : 8 * (l.i + 1) ≡ k + 8 = omega arith in
    let step = valued_step s bytes bytes k (n - (l.i + 1)) l.place (k + 8 - k) c.fill_in-place.result l.rows new (omega arith) room long c.fill_in-place.ensures.row_after c.fill_in-place.ensures.value in
    let before = subst (λ (m : ℕ). take k l.rows ++ valued s bytes m l.place (drop k l.rows) ≡ valued s bytes n c.args.placed.at c.args.rows.now) more l.invariant.2 in
    let same : length (take k l.rows ++ (new ++ drop (k + 8 - k) (drop k l.rows))) ≡ length l.rows = simp (length-append, length-take, length-drop) (omega (arith, room, long)) in
    let column = get_or (take (k + 8 - k) (drop k l.rows)) 0 (pos 0) in (
      same ∙ l.invariant.0,
      omega (arith, l.invariant.1, c.fill_in-place.ensures.value, columns_width s (mag column) (made_formed 0 _ c.shape_of-s.ensures)),
      rw next (step ∙ before),
    )

pub returns : goal.returns
unfolding valued
returns c =
    let l = c.loop-i in
    let n = c.args.placed.rows in
    let none : n - l.i ≡ 0 = omega (arith, c.loop-i-test.false) in
    sym (take-append-drop (8 * l.i) l.rows)
    ∙ ap (λ (m : ℕ). take (8 * l.i) l.rows ++ valued c.shape_of-s.result c.args.bytes.now m l.place (drop (8 * l.i) l.rows)) (sym none)
    ∙ l.invariant.2
    ∙ ap (λ (t : Shape). valued t c.args.bytes.now n c.args.placed.at c.args.rows.now) c.shape_of-s.ensures
