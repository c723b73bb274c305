use Rattle.bits.proofs.Words.{◌≡◌, refl, ap, ◌∙◌, subst, List, [], ◌∷◌, ℕ, suc, ◌+◌, ◌-◌, ◌*◌, ◌<◌, add-one, arith, ℤ, pos}
use Rattle.format.specs.Messages.{packet_lines, packet_shape}
use Rattle.format.specs.Rows.{Column, Line, absent, shape_width}
use Rattle.rows.proofs.Table.{made_formed, columns_at}
use Rattle.rows.specs.At.{values_at}
use Rattle.rows.specs.declared.shape.Shape.{Shape}
use Rattle.rows.specs.Shapes.{columns_of}
use Rattle.rows.specs.Table.{shapes, listed, shape_at, shape_for}
use Rattle.body.proofs.Going.{Going, Row, going_row, going_end}
use Rattle.body.proofs.Keys.{key, keyed}
use Rattle.body.proofs.packet.fill.Goals as goal

-- the next line
abbrev line : ℕ → Line
line i = record { keys = absent ∷ absent ∷ pos (suc i) ∷ []; shape = packet_shape }

-- it has a row, and those behind it are left
next : {bytes : List ℕ} {parts at i place : ℕ} {old buffer : List ℤ} → i < parts → Going bytes (packet_lines 1 parts) at old (packet_lines (suc i) (parts - i)) (8 * i) place buffer
    → Row bytes (packet_lines 1 parts) at old (line i) (packet_lines (suc (suc i)) (parts - suc i)) (8 * i) place buffer
unfolding packet_lines packet_shape
next {bytes} {parts} {at} {i} {place} {old} {buffer} more g =
    let left : parts - i ≡ suc (parts - suc i) = omega arith in
    going_row (line i) _ refl refl (subst (λ (m : ℕ). Going bytes (packet_lines 1 parts) at old (packet_lines (suc i) m) (8 * i) place buffer) left g)

-- a packet's shape has its columns
columns : {s : Shape} → s ≡ shape_for 7 → columns_of s ≡ packet_shape
unfolding shape_at listed shapes
columns e = ap columns_of e ∙ columns_at 0 7

pub width-width-requires : goal.width-width-requires
width-width-requires c = made_formed 0 7 c.packet-s.ensures

pub slice_bounds-wide-end : goal.slice_bounds-wide-end
slice_bounds-wide-end c = (next c.loop-i-test.true c.loop-i.invariant).room

pub wide-requires : goal.wide-requires
wide-requires c =
    let w = next c.loop-i-test.true c.loop-i.invariant in
    (w.part, omega (arith, w.near), made_formed 0 7 c.packet-s.ensures, omega (arith, w.whole))

pub overflow_add-place : goal.overflow_add-place
overflow_add-place c = omega (arith, (next c.loop-i-test.true c.loop-i.invariant).near, c.width-width.ensures, ap shape_width (columns c.packet-s.ensures))

pub loop-i-preserved : goal.loop-i-preserved
loop-i-preserved c =
    let l = c.loop-i in
    let row = columns c.packet-s.ensures in
    let wide = c.width-width.ensures ∙ ap shape_width row in
    let number = key (l.i + 1) (suc l.i) (omega (arith, l.invariant.count, l.invariant.few)) (add-one l.i) in
    let new = c.wide.ensures ∙ keyed _ refl refl number ∙ ap (λ (cs : List Column). absent ∷ absent ∷ pos (suc l.i) ∷ values_at cs c.args.bytes.now l.place) row in
    let behind : 8 * (l.i + 1) ≡ 8 * l.i + 8 = omega arith in
    rw (behind, add-one l.i) ((next c.loop-i-test.true l.invariant).written _ _ wide new)

pub returns : goal.returns
unfolding packet_lines
returns c =
    let l = c.loop-i in
    let none : c.args.parts - l.i ≡ 0 = omega (arith, c.loop-i-test.false) in
    (going_end (ap (packet_lines (suc l.i)) none) l.invariant).numbers
