-- The table of sub types as the code has it, and what each row of it means. proofs/Tabled.antt shows that it is crate format's table.
use Rattle.std.specs.Prelude.{Bool, true, false, cond, List, [], ◌∷◌, ◌≡◌, ℕ, ◌+◌, ◌<◌, get_or}
use Rattle.format.specs.Masks.{Sky}
use Rattle.format.specs.Messages as Messages
use Rattle.format.specs.Messages.{Heading, Common, rows_alone, over_satellites, over_cells, by_satellite, by_cell, flagged, packet, mask_message}
use Rattle.format.specs.Programs.{Program}
use Rattle.format.specs.Rows.{Line}
use Rattle.format.specs.Spelling.{put_rows, put_flagged, put_packet, put_mask}
use Rattle.format.specs.Table as Table
use Rattle.table.specs.declared.Keys.{Keys}
use Rattle.table.specs.declared.Keys.TheVariants.{Satellites, Cells}
use Rattle.table.specs.declared.Kind.{Kind}
use Rattle.table.specs.declared.Kind.TheVariants.{Other, Mask, Packet, Masked}
use Rattle.table.specs.declared.Layout.{Layout}
use Rattle.rows.specs.Table.{shape_at}
use Rattle.table.specs.Bodies.{FitsKeys}
use Rattle.table.specs.Shapes.{shapes_from}

unfoldable pub keys_for : Bool → ℕ → Keys
keys_for cells chosen = cond cells (Cells chosen) (Satellites chosen)

-- ---- the rows of the table

abbrev layout : Bool → Bool → ℕ → Kind
layout cells flagged shape = Masked (record { cells = cells; flagged = flagged; shape = shape })

unfoldable pub code_kinds : List Kind
code_kinds =
    Other
    ∷ Mask
    ∷ layout false false 2
    ∷ layout false false 4
    ∷ layout true false 5
    ∷ layout true false 6
    ∷ layout true true 8
    ∷ layout false false 12
    ∷ Other ∷ Other
    ∷ Packet
    ∷ layout false true 0
    ∷ []

unfoldable pub kind_for : ℕ → Kind
kind_for n = get_or code_kinds n Other

-- what is known of a layout: its shape is one that its keys can have, and with flags so are the three behind it; of satellites these are the first four
pub record LaidOut (l : Layout) : Type 0 where
  pub small : l.shape < 16
  pub fits : (chosen : ℕ) → FitsKeys (keys_for l.cells chosen) l.shape
  pub of_flags : l.flagged ≡ true → (k : ℕ) → k < 4 → (chosen : ℕ) → FitsKeys (keys_for l.cells chosen) (l.shape + k)
  pub four : l.flagged ≡ true → l.cells ≡ false → l.shape ≡ 0

unfoldable pub OfTable : Kind → Type 0
OfTable Other = Unit {0}
OfTable Mask = Unit {0}
OfTable Packet = Unit {0}
OfTable (Masked l) = LaidOut l

-- ---- what they mean

unfoldable pub over_by : Layout → Sky → List Line
over_by l = cond l.cells (over_cells (shape_at l.shape)) (over_satellites (shape_at l.shape))

-- over which keys
unfoldable pub keys_by : Layout → Messages.Keys
keys_by l = cond l.cells by_cell by_satellite

unfoldable pub program_by : ℕ → Layout → Sky → Common → Program Heading
program_by n l = cond l.flagged (flagged n (keys_by l) (shapes_from l.shape)) (rows_alone n (over_by l))

unfoldable pub masked_by : ℕ → Layout → Table.MaskedKind
masked_by n l = record { program = program_by n l; spelling = cond l.flagged (put_flagged (keys_by l) (shapes_from l.shape)) (put_rows (over_by l)) }

unfoldable pub kind_by : ℕ → Kind → Table.Kind
kind_by n Other = Table.other
kind_by n Mask = Table.adopts (record { program = mask_message; spelling = put_mask })
kind_by n Packet = Table.free (record { program = packet; spelling = put_packet })
kind_by n (Masked l) = Table.masked (masked_by n l)
