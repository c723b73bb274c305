-- A message with rows that fit: its length, and that it can be put out. Assumes nothing.
use Rattle.bits.proofs.Words.{◌≡◌, refl, sym, ap, ap₂, ◌∙◌, Bool, true, List, [], ◌∷◌, ◌++◌, ℕ, zero, suc, ◌+◌, ◌-◌, ◌*◌, ◌/◌, ◌^◌, ◌≤◌, ◌<◌, arith, length, drop, ℤ}
use mathlib.Core.Bool.{false≢true}
use lib.ListN.{length-append}
use Rattle.bits.proofs.BitLists.{length_spell}
use Rattle.bits.specs.BitLists.{spell}
use Rattle.format.specs.Masks.{pick}
use Rattle.format.specs.Messages.{packet_shape}
use Rattle.format.specs.Rows.{Line, body_width, spell_rows}
use Rattle.format.specs.Writing.{rows_in}
use Rattle.holding.specs.Held.{View, strip_cells}
use Rattle.rows.proofs.Table.{formed, columns_in_lem}
use Rattle.rows.specs.Table.{shapes, listed, shape_at, shape_for}
use Rattle.table.specs.declared.Keys.{Keys}
use Rattle.table.specs.declared.Keys.TheVariants.{Satellites, Cells, Parts}
use Rattle.table.specs.Bodies.{lines_over, lines_in, FitsKeys}
use Rattle.writer.specs.declared.plan.Plan.{Plan}
use Rattle.fitting.specs.Fits.{row_fits, rows_fit}
use Rattle.format.proofs.Sames.{and_true}
use Rattle.putting.specs.Sizes.{Sized}
use Rattle.putting.proofs.OwnColumns.{orbit_usual}
use Rattle.writer.specs.Kinds.{plan_bits}
use Rattle.putting.specs.Marking.{selection_fields}
use Rattle.pens.specs.Pens.{spell_fields}
use Rattle.putting.specs.Putting.{Shaped, row_fields}
use Rattle.writer.specs.Written.{plan_fields, Puts, Made}
use Rattle.fitting.proofs.FitRows.{fit_rows}
use Rattle.pens.proofs.Pens.{spell_fields_append, fines_append}
use Rattle.putting.proofs.RowFields.{Putting, putting, satellites_shaped, cells_shaped, packet_shaped}
use Rattle.putting.proofs.SelectionFields.{selection_spelled, selection_fines}

packets : (shape system : ℕ) → shape ≡ 7 → shape_at shape system ≡ packet_shape
unfolding shape_at listed shapes
packets shape system last = rw last

-- the lines of a body have its shape
body_shaped : (v : View) (keys : Keys) (shape : ℕ) → FitsKeys keys shape → Shaped (shape_for shape) (lines_over v keys shape)
unfolding lines_over FitsKeys
body_shaped v (Satellites chosen) shape fits = satellites_shaped (shape_for shape) (shape_at shape) (λ system. columns_in_lem system shape) (pick (spell 64 chosen) v.satellites)
body_shaped v (Cells chosen) shape fits =
    cells_shaped (shape_for shape) (shape_at shape) (λ system. columns_in_lem system shape) (strip_cells (pick (spell 64 chosen) v.satellites) (pick (spell 64 chosen) v.strips))
body_shaped v (Parts n) shape fits = packet_shaped (shape_for shape) (λ system. columns_in_lem system shape ∙ packets shape system fits.1) 1 n

-- as many rows as are counted
pub length_rows : (n : ℕ) (rows : List ℤ) → length (rows_in n rows) ≡ n
unfolding rows_in
length_rows zero rows = refl
length_rows (suc n) rows = ap suc (length_rows n (drop 8 rows))

-- and as many as lines, where they fit
fit_count : (lines : List Line) (rows : List (List ℤ)) → rows_fit lines rows ≡ true → length rows ≡ length lines
unfolding rows_fit
fit_count [] [] fits = refl
fit_count [] (r ∷ rs) fits = absurd (false≢true fits)
fit_count (n ∷ ns) [] fits = absurd (false≢true fits)
fit_count (n ∷ ns) (r ∷ rs) fits = ap suc (fit_count ns rs (and_true (row_fits n r) (rows_fit ns rs) fits).1)

module _ (v : View) (p : Plan) (made : Made p) (numbers : List ℤ) (count : ℕ) (whole : 8 * count ≤ length numbers) where
  abbrev rows : List (List ℤ)
  rows = rows_in count numbers

  abbrev lines : List Line
  lines = lines_in v p.body

  module _ (fits : rows_fit lines rows ≡ true) where
    rowed : Putting (shape_for p.body.shape) lines rows
    unfolding lines_in
    rowed = putting (shape_for p.body.shape) (formed p.body.shape) (body_shaped v p.body.keys p.body.shape made.body) rows fits

    -- its bits are those gathered and those of its fields
    pub plan_spelled : plan_bits v p rows ≡ spell p.pen.width p.pen.gathered ++ spell_fields (plan_fields p rows)
    unfolding plan_bits plan_fields
    plan_spelled =
        ap (λ (l : List Bool). spell p.pen.width p.pen.gathered ++ l)
        (ap₂ ◌++◌ (sym (selection_spelled p.chosen p.marked made.marked)) (sym rowed.spelled)
        ∙ sym (spell_fields_append (selection_fields p.chosen p.marked) (row_fields (shape_for p.body.shape) rows)))

    pub plan_long : length (plan_bits v p rows) ≡ p.pen.width + p.marked + body_width lines
    unfolding plan_bits
    plan_long =
        length-append (spell p.pen.width p.pen.gathered) _
        ∙ ap₂ ◌+◌ (length_spell p.pen.width p.pen.gathered)
        (length-append (spell p.marked (p.chosen / 2 ^ (64 - p.marked))) (spell_rows lines rows)
        ∙ ap₂ ◌+◌ (length_spell p.marked (p.chosen / 2 ^ (64 - p.marked))) (fit_rows lines rows fits).1)
        ∙ omega arith

    -- those of its rows, of which there are few
    pub rows_long : length (spell_fields (row_fields (shape_for p.body.shape) rows)) ≡ body_width lines
    rows_long = ap length rowed.spelled ∙ (fit_rows lines rows fits).1

    pub rows_sized : length lines ≤ 256 → Sized (shape_for p.body.shape) numbers count
    rows_sized few =
        record {
          formed = formed p.body.shape;
          orbit = orbit_usual p.body.shape;
          whole = whole;
          few = omega (arith, few, fit_count lines rows fits, length_rows count numbers);
        }

    -- and there is room for them
    pub plan_puts : (bytes : List ℕ) → p.pen.place + length (plan_bits v p rows) ≤ 8 * length bytes → p.pen.place + length (plan_bits v p rows) < 2 ^ 32 → Puts p numbers count bytes
    unfolding plan_fields
    plan_puts bytes room near =
        let parts : length (plan_bits v p rows) ≡ p.pen.width + length (spell_fields (plan_fields p rows)) =
        ap length plan_spelled ∙ length-append (spell p.pen.width p.pen.gathered) _ ∙ ap (λ (n : ℕ). n + length (spell_fields (plan_fields p rows))) (length_spell p.pen.width p.pen.gathered) in
        record {
          marked = made.marked;
          whole = whole;
          fitting = rowed.fitting;
          begins =
              record {
                pen = made.pen;
                fields = fines_append (selection_fines p.chosen p.marked made.chosen made.marked) rowed.fines;
                room = omega (arith, parts);
                near = omega (arith, parts);
              };
        }
