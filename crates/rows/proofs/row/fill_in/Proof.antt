-- `rows::row::fill_in` meets its contract. Assumes nothing.
use Rattle.bits.proofs.Words.{◌≡◌, sym, ap, ◌∙◌, List, [], ◌∷◌, ◌++◌, ◌+◌, ℕ, arith, rules, get_or, take, ℤ, pos}
use lib.Signed.{mag}
use mir.Facts.{to_z-of_z}
use mir.Syntax.{w32}
use mir.Val.{to_z, of_z}
use Rattle.bits.proofs.Lists.{elements, taken}
use Rattle.format.specs.Rows.{Column, shape_width}
use Rattle.rows.specs.At.{values_at, columns_on, valued_at}
use Rattle.rows.specs.Shapes.{columns_of, shape_on, FormedShape}
use Rattle.rows.proofs.Laid.{on_columns, on_formed, columns_width}
use Rattle.rows.proofs.row.fill_in.Statement.{statement}
use Rattle.rows.proofs.row.fill_in.Tie as tie

module _ (c : tie.After-shape_in-own) where
  abbrev s : tie.Start
  s = c.before.before.before.before.before.before

  abbrev row : List ℤ
  row = s.args.row.now

  -- a key as it was read and handed on
  abbrev handed : ℕ → ℤ
  handed i = to_z w32 (of_z w32 (get_or row i (pos 0)))

  system : handed 0 ≡ get_or row 0 (pos 0)
  system = to_z-of_z {w = w32} {z = get_or row 0 (pos 0)} (record { sfits = c.key-1.given })

  own : c.shape_in-own.result ≡ shape_on s.args.s (mag (get_or row 0 (pos 0)))
  own = c.shape_in-own.ensures ∙ ap (λ (z : ℤ). shape_on s.args.s (mag (to_z w32 (of_z w32 z)))) system ∙ ap (λ (z : ℤ). shape_on s.args.s (mag z)) system

  columns : columns_of c.shape_in-own.result ≡ columns_on s.args.s row
  columns = ap columns_of own ∙ on_columns s.args.s (mag (get_or row 0 (pos 0)))

  formed : FormedShape c.shape_in-own.result
  formed = rw own (on_formed s.args.s (mag (get_or row 0 (pos 0))) s.requires.2)

  keys : handed 0 ∷ handed 1 ∷ handed 2 ∷ [] ≡ take 3 row
  unfolding elements
  keys =
      let second = to_z-of_z {w = w32} {z = get_or row 1 (pos 0)} (record { sfits = c.key-2-1.given }) in
      let third = to_z-of_z {w = w32} {z = get_or row 2 (pos 0)} (record { sfits = c.key-3-1.given }) in
      (λ i. system i ∷ second i ∷ third i ∷ []) ∙ sym (taken (pos 0) row 0 0 3 (omega (arith, s.requires.0)))

wide : (c : tie.After-width) → c.width.result ≡ shape_width (columns_on (s c.before.before.before.before).args.s (row c.before.before.before.before))
wide c = c.width.ensures ∙ ap shape_width (columns c.before.before.before.before)

returns : tie.Need-returns
unfolding valued_at
returns c =
    let h = c.before.before.before.before in
    let x = (s h).args in (
      ap (λ (w : ℕ). x.at + w) (wide c),
      c.anywhere.ensures ∙ ap (λ (l : List ℤ). l ++ values_at (columns_of h.shape_in-own.result) x.bytes.now x.at) (keys h)
          ∙ ap (λ (cs : List Column). take 3 (row h) ++ values_at cs x.bytes.now x.at) (columns h),
    )

pub fill_in_spec : {M : Type 1} → statement M
fill_in_spec =
    tie.close
    (tie.spec (λ c. search rules) (λ c. search rules) (λ c. search rules) (λ c κs. search rules) (λ c κs. let p = (s c.before).requires in (p.0, p.1, formed c.before))
    (λ c κs. formed c.before.before.before)
    (λ c. let h = c.before.before.before.before in omega (arith, wide c, columns_width (s h).args.s (mag (get_or (row h) 0 (pos 0))) (s h).requires.2, (s h).requires.1))
    (λ c. search rules) returns)
