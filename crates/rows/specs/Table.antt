-- The table of the rows' shapes by number (document 01, "What is handed out"), and each as the code has it.
use Rattle.std.specs.Prelude.{Bool, false, true, List, [], ◌∷◌, ℕ, get_or}
use Rattle.format.specs.Messages.{clock_shape, code_shape, phase_shape, bias_shape, accuracy_shape, combined_shape, packet_shape}
use Rattle.format.specs.Rows.{Column}
use Rattle.rows.specs.declared.shape.Shape.{Shape}
use Rattle.rows.specs.Shapes.{shape_with}

-- a system's columns, and whether the first is an IODE
pub record Listed : Type 0 where
  pub iode : Bool
  pub columns : ℕ → List Column

abbrev pub bare : (ℕ → List Column) → Listed
bare columns = record { iode = false; columns = columns }

abbrev orbiting : (ℕ → List Column) → Listed
orbiting columns = record { iode = true; columns = columns }

-- gaps alone, as every number past the table has them
abbrev pub gaps : Listed
gaps = bare (combined_shape false false)

-- by the two flags of orbit and clock, of which the third is the orbit's own message too; then clock, code bias, phase bias and packet; by the two flags of
-- code and phase biases; accuracy
unfoldable pub shapes : List Listed
shapes =
    gaps
    ∷ bare (combined_shape false true)
    ∷ orbiting (combined_shape true false)
    ∷ orbiting (combined_shape true true)
    ∷ bare clock_shape
    ∷ bare code_shape
    ∷ bare phase_shape
    ∷ bare (λ _. packet_shape)
    ∷ bare (bias_shape false false)
    ∷ bare (bias_shape false true)
    ∷ bare (bias_shape true false)
    ∷ bare (bias_shape true true)
    ∷ bare accuracy_shape
    ∷ []

unfoldable pub listed : ℕ → Listed
listed i = get_or shapes i gaps

unfoldable pub shape_at : ℕ → ℕ → List Column
shape_at i system = (listed i).columns system

-- as the code has it for a system
unfoldable pub shape_in : ℕ → ℕ → Shape
shape_in i system = shape_with (listed i).iode (shape_at i system)

-- and for most
abbrev pub shape_for : ℕ → Shape
shape_for i = shape_in i 0
