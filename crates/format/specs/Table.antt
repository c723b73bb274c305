-- The table of sub types, and a message by it: read one way, spelled the other.
use Rattle.std.specs.Prelude.{Bool, List, [], ◌∷◌, ◌++◌, ℕ, eqb, ℤ, pos, negsuc, get_or}
use Rattle.bits.specs.BitLists.{spell}
use Rattle.format.specs.declared.Head.{Head}
use Rattle.format.specs.declared.Refusal.TheVariants.{Number, SubType, NoMask, OtherIssue}
use Rattle.format.specs.Masks.{Mask, Held, nothing, mask, Sky, sky_of}
use Rattle.format.specs.Messages.{Content, Heading, bodied, Common, common, Adopted, mask_message, rows_alone, over_satellites, over_cells, Keys, by_satellite, by_cell, orbit_shape, clock_shape, code_shape, phase_shape, bias_shape, accuracy_shape, combined_shape, flagged, packet}
use Rattle.format.specs.Programs.{Program, done, refuse, ◌>>=◌, ◌>>◌, numbered, require}
use Rattle.format.specs.Rows.{Column, Line}
use Rattle.format.specs.Spelling.{put, put_common, put_rows, put_flagged, put_packet, put_mask}

-- a message, with what is held after it
pub record Message : Type 0 where
  pub content : Content
  pub after : Held

-- A message free of the holding, one read under the mask of its issue, after the common head, and a mask to be adopted: each with its program, of the
-- first two up to the body, and its spelling.
pub record FreeKind : Type 0 where
  pub program : Program Heading
  pub spelling : Head → List (List ℤ) → List Bool

pub record MaskedKind : Type 0 where
  pub program : Sky → Common → Program Heading
  pub spelling : Sky → Head → List (List ℤ) → List Bool

pub record AdoptedKind : Type 0 where
  pub program : Program Adopted
  pub spelling : Mask → Head → List Bool

-- what a sub type is: none of ours, or one of these
pub data Kind : Type 0 where
  other : Kind
  free : FreeKind → Kind
  masked : MaskedKind → Kind
  adopts : AdoptedKind → Kind

-- rows alone after the common head
unfoldable pub alone : ℕ → (Sky → List Line) → Kind
alone subType over = masked (record { program = rows_alone subType over; spelling = put_rows over })

-- rows behind flags
unfoldable pub with_flags : ℕ → Keys → (Bool → Bool → ℕ → List Column) → Kind
with_flags subType keys shape = masked (record { program = flagged subType keys shape; spelling = put_flagged keys shape })

unfoldable pub kinds : List Kind
kinds =
    other
    ∷ adopts (record { program = mask_message; spelling = put_mask })
    ∷ alone 2 (over_satellites orbit_shape)
    ∷ alone 3 (over_satellites clock_shape)
    ∷ alone 4 (over_cells code_shape)
    ∷ alone 5 (over_cells phase_shape)
    ∷ with_flags 6 by_cell bias_shape
    ∷ alone 7 (over_satellites accuracy_shape)
    ∷ other ∷ other
    ∷ free (record { program = packet; spelling = put_packet })
    ∷ with_flags 11 by_satellite combined_shape
    ∷ []

unfoldable pub table : ℕ → Kind
table subType = get_or kinds subType other

-- ---- reading by a table

-- the gate after IOD SSR: 6, then 7
unfoldable pub gate : Held → ℕ → Program Mask
gate nothing iod = refuse NoMask
gate (mask m) iod = require (eqb iod m.iod) OtherIssue >> done m

unfoldable pub under_mask : MaskedKind → Held → Program Heading
under_mask k held = do
  h ← common 12
  m ← gate held h.iod
  k.program (sky_of m) h

-- a message that leaves the holding as it is
unfoldable pub keeping : Held → Program Heading → Program Message
keeping held heading = bodied heading >>= (λ c. done (record { content = c; after = held }))

unfoldable pub by_kind : Kind → Held → Program Message
by_kind other held = refuse SubType
by_kind (free k) held = keeping held k.program
by_kind (masked k) held = keeping held (under_mask k held)
by_kind (adopts k) held = k.program >>= (λ d. done (record { content = record { head = d.head; rows = [] }; after = mask d.made }))

-- every message opens with its number and its sub type
unfoldable pub opening : Program ℕ
opening = do
  number ← numbered 12
  require (eqb number 4073) Number
  subType ← numbered 4
  done subType

unfoldable pub message_by : (ℕ → Kind) → Held → Program Message
message_by t held = opening >>= (λ subType. by_kind (t subType) held)

abbrev pub message : Held → Program Message
message held = message_by table held

-- ---- spelling by a table

unfoldable pub kind_of : (ℕ → Kind) → ℤ → Kind
kind_of t (pos n) = t n
kind_of t (negsuc n) = other

unfoldable pub spell_kind : Kind → Held → Head → List (List ℤ) → List Bool
spell_kind other held h rows = []
spell_kind (free k) held h rows = k.spelling h rows
spell_kind (masked k) nothing h rows = []
spell_kind (masked k) (mask m) h rows = put_common 12 h ++ k.spelling (sky_of m) h rows
spell_kind (adopts k) nothing h rows = []
spell_kind (adopts k) (mask m) h rows = k.spelling m h

unfoldable pub spelled_by : (ℕ → Kind) → Held → Head → List (List ℤ) → List Bool
spelled_by t held h rows = spell 12 4073 ++ (put 4 h.subtype ++ spell_kind (kind_of t h.subtype) held h rows)

unfoldable pub spelled : Held → Head → List (List ℤ) → List Bool
spelled = spelled_by table
