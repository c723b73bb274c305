-- Rows by place: what crate format makes of a body's bits, that two bodies one after the other are one, and how long the rows are.
-- Assumes nothing.
use Rattle.bits.proofs.Words.{◌≡◌, refl, sym, ap, ap₂, ◌∙◌, Bool, List, [], ◌∷◌, ◌++◌, ℕ, suc, ◌+◌, ◌-◌, ◌*◌, ◌≤◌, arith, length, take, drop, ℤ}
use mathlib.Core.List.{flatten}
use native.Mathlib.Nat.{add-zero, add_assoc}
use lib.ListN.{length-append, length-drop}
use lib.Seq.{take-take, drop-drop}
use Rattle.bits.proofs.BitLists.{length_bits}
use Rattle.bits.proofs.Bridge.{field_number}
use Rattle.bits.specs.BitLists.{number, bits}
use Rattle.format.proofs.Bodies.{All, none, more}
use Rattle.format.proofs.Runs.{drop_take}
use Rattle.format.specs.Reading.{bits_from}
use Rattle.format.specs.Rows.{Column, Line, width_of, value_of, shape_width, values_of, body_width, rows_of}
use Rattle.rows.specs.At.{values_at, rows_at}

-- ---- one body after another

pub width_append : (ls ms : List Line) → body_width (ls ++ ms) ≡ body_width ls + body_width ms
unfolding body_width
width_append [] ms = omega arith
width_append (n ∷ ls) ms = omega (arith, width_append ls ms)

pub rows_at_append : (ls ms : List Line) (bs : List ℕ) (at : ℕ) → rows_at (ls ++ ms) bs at ≡ rows_at ls bs at ++ rows_at ms bs (at + body_width ls)
unfolding body_width rows_at
rows_at_append [] ms bs at = rw (add-zero at)
rows_at_append (n ∷ ls) ms bs at =
    rw (rows_at_append ls ms bs (at + shape_width n.shape), add_assoc at (shape_width n.shape) (body_width ls))

-- ---- how long they are

-- every line has three keys and five columns
abbrev pub Eights : List Line → Type 0
Eights lines = All (λ n. (length n.keys ≡ 3) × (length n.shape ≡ 5)) lines

pub values_length : (cs : List Column) (bs : List ℕ) (at : ℕ) → length (values_at cs bs at) ≡ length cs
unfolding values_at
values_length [] bs at = refl
values_length (c ∷ cs) bs at = ap suc (values_length cs bs (at + width_of c))

pub rows_length : (lines : List Line) (bs : List ℕ) (at : ℕ) → Eights lines → length (flatten (rows_at lines bs at)) ≡ 8 * length lines
unfolding rows_at flatten
rows_length [] bs at none = refl
rows_length (n ∷ ns) bs at (more eight eights) =
    let here : length (n.keys ++ values_at n.shape bs at) ≡ 8 = length-append n.keys (values_at n.shape bs at) ∙ omega (arith, values_length n.shape bs at) in
    length-append (n.keys ++ values_at n.shape bs at) (flatten (rows_at ns bs (at + shape_width n.shape)))
    ∙ omega (arith, rows_length ns bs (at + shape_width n.shape) eights)

-- ---- the bits there

-- w bits at a place
unfoldable part : List ℕ → ℕ → ℕ → List Bool
part bs at w = take w (drop at (bits bs))

module _ (bs : List ℕ) where
  part_front : (at u w : ℕ) → u ≤ w → take u (part bs at w) ≡ part bs at u
  unfolding part
  part_front at u w h = take-take u w (drop at (bits bs)) h

  part_rest : (at u w : ℕ) → u ≤ w → at + w ≤ 8 * length bs → drop u (part bs at w) ≡ part bs (at + u) (w - u)
  unfolding part
  part_rest at u w h inside =
      let e : w ≡ u + (w - u) = omega arith in
      let room : u ≤ length (drop at (bits bs)) = simp (length-drop, length_bits) (omega arith) in
      ap (λ (k : ℕ). drop u (take k (drop at (bits bs)))) e ∙ drop_take u (w - u) (drop at (bits bs)) room ∙ ap (take (w - u)) (drop-drop u at (bits bs))

  values_part : (cs : List Column) (at w : ℕ) → shape_width cs ≤ w → at + w ≤ 8 * length bs → values_of cs (part bs at w) ≡ values_at cs bs at
  unfolding shape_width values_of values_at part
  values_part [] at w room inside = refl
  values_part (c ∷ cs) at w room inside =
      let u : ℕ = width_of c in
      ap₂ ◌∷◌ (ap (λ (l : List Bool). value_of c (number l)) (part_front at u w (omega arith)) ∙ ap (value_of c) (sym (field_number bs at u (omega arith))))
      (ap (values_of cs) (part_rest at u w (omega arith) inside) ∙ values_part cs (at + u) (w - u) (omega arith) (omega arith))

  rows_part : (lines : List Line) (at w : ℕ) → body_width lines ≤ w → at + w ≤ 8 * length bs → rows_of lines (part bs at w) ≡ rows_at lines bs at
  unfolding body_width rows_of rows_at
  rows_part [] at w room inside = refl
  rows_part (n ∷ ns) at w room inside =
      let u : ℕ = shape_width n.shape in
      ap₂ ◌∷◌ (ap (λ (l : List ℤ). n.keys ++ l) (values_part n.shape at w (omega arith) inside))
      (ap (rows_of ns) (part_rest at u w (omega arith) inside) ∙ rows_part ns (at + u) (w - u) (omega arith) (omega arith))

-- the rows of the bits of a body that is there are those at its place
pub rows_at_lem : (lines : List Line) (bs : List ℕ) (end at : ℕ) → at + body_width lines ≤ end → end ≤ 8 * length bs
    → rows_of lines (take (body_width lines) (bits_from bs end at)) ≡ rows_at lines bs at
unfolding bits_from part
rows_at_lem lines bs end at room inside =
    let w : ℕ = body_width lines in
    let e : end ≡ at + (end - at) = omega arith in
    let some : at ≤ length (bits bs) = rw length_bits (omega arith) in
    ap (λ (k : ℕ). rows_of lines (take w (drop at (take k (bits bs))))) e
    ∙ ap (λ (l : List Bool). rows_of lines (take w l)) (drop_take at (end - at) (bits bs) some)
    ∙ ap (rows_of lines) (take-take w (end - at) (drop at (bits bs)) (omega arith))
    ∙ rows_part bs lines at w (omega arith) (omega arith)
