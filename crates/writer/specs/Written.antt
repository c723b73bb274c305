-- What a plan and a mask come to in lent bytes, and what is asked where they are put out.
use Rattle.std.specs.Prelude.{◌≡◌, Bool, true, ◌&&◌, ℕ, ◌*◌, ◌/◌, ◌^◌, ◌≤◌, ◌<◌, eqb, ℤ, pos, length}
use mathlib.Core.List.{List, ◌++◌, flat_map}
use Rattle.format.specs.declared.Head.{Head}
use Rattle.format.specs.Lengths.{mask_or}
use Rattle.format.specs.Rows.{absent}
use Rattle.format.specs.Same.{sameℤ}
use Rattle.format.specs.Spelling.{put_system}
use Rattle.format.specs.Writing as Writing
use Rattle.format.specs.Writing.{rows_in}
use Rattle.holding.specs.declared.Holding.{Holding}
use Rattle.holding.specs.Held.{View, view_of}
use Rattle.holding.specs.Pictures.{mask_of, sound}
use Rattle.rows.specs.Shapes.{columns_in}
use Rattle.rows.specs.Table.{shape_for}
use Rattle.table.specs.Bodies.{lines_in, Fits}
use Rattle.pens.specs.declared.pen.Field.{Field}
use Rattle.writer.specs.declared.plan.Plan.{Plan}
use Rattle.fitting.specs.Fits.{rows_fit}
use Rattle.matching.specs.Values.{rows_valued}
use Rattle.fitting.specs.FitHeads.{common_fits}
use Rattle.writer.specs.Fronts.{mask_front}
use Rattle.writer.specs.Kinds.{plan_bits}
use Rattle.putting.specs.Marking.{selection_fields}
use Rattle.pens.specs.Pens.{spell_fields, Fine, Begins}
use Rattle.putting.specs.Putting.{row_fields, Fitting}
use Rattle.writer.specs.Stages.{behind}

-- ---- a message with rows

-- the fields behind what a plan has gathered
unfoldable pub plan_fields : Plan → List (List ℤ) → List Field
plan_fields p rows = selection_fields p.chosen p.marked ++ row_fields (shape_for p.body.shape) rows

-- what is asked where they are put out
pub record Puts (p : Plan) (rows : List ℤ) (count : ℕ) (bytes : List ℕ) : Type 0 where
  pub marked : p.marked ≤ 64
  pub whole : 8 * count ≤ length rows
  pub fitting : Fitting (shape_for p.body.shape) (rows_in count rows)
  pub begins : Begins p.pen (plan_fields p (rows_in count rows)) bytes

-- all rows of a row buffer
abbrev pub rows_of : List ℤ → List (List ℤ)
rows_of numbers = rows_in (length numbers / 8) numbers

-- a plan that is well made
pub record Made (p : Plan) : Type 0 where
  pub pen : Fine p.pen.width p.pen.gathered
  pub marked : p.marked ≤ 64
  pub chosen : p.chosen < 2 ^ 64
  pub body : Fits p.body

-- rows by which its selection was told have their keys: that these are all, and the rest of each, is left to test
pub record Keyed (v : View) (p : Plan) (rows : List (List ℤ)) : Type 0 where
  pub four : p.keyed ≡ true → p.body.shape < 4
  pub rest : p.keyed ≡ true → rows_fit (lines_in v p.body) rows ≡ (eqb p.told (8 * length rows) && rows_valued (columns_in (shape_for p.body.shape)) rows)

-- a plan for rows under what is held, and what is asked beside that
abbrev pub AsksPlan : Holding → Plan → List ℤ → Type 0 → Type 0
AsksPlan h p numbers Also = (sound h ≡ true) × Made p × Keyed (view_of h) p (rows_of numbers) × Also

-- what writing it with rows comes to
unfoldable pub planned : View → Plan → List (List ℤ) → List ℕ → Writing.Written
planned v p rows bytes = behind (rows_fit (lines_in v p.body) rows) (plan_bits v p rows) bytes p.pen.place

-- ---- a mask message

-- its head fits a mask of so many systems, and there are no rows
unfoldable pub mask_right : Head → ℕ → ℕ → Bool
mask_right h systems count =
    common_fits 20 h && (sameℤ h.a (pos systems) && (sameℤ h.b absent && (sameℤ h.c absent && eqb count 0)))

unfoldable pub mask_spelled : Holding → Head → List Bool
mask_spelled held h = spell_fields (mask_front h) ++ flat_map put_system (mask_or (mask_of held)).systems

unfoldable pub masked : Holding → Head → ℕ → List ℕ → ℕ → Writing.Written
masked held h count bytes start = behind (mask_right h held.count count) (mask_spelled held h) bytes start
