-- What stands before selection and body of a message, as fields from a head's numbers: document 01, "Message layouts".
use Rattle.std.specs.Prelude.{cond, List, [], ◌∷◌, ◌++◌, ℕ, ◌+◌, ◌*◌, ℤ}
use Rattle.format.specs.declared.Head.{Head}
use Rattle.format.specs.Rows.{absent}
use Rattle.format.specs.Same.{sameℤ}
use Rattle.pens.specs.declared.pen.Field.{Field}
use Rattle.pens.specs.declared.pen.Pen.{Pen}
use Rattle.pens.specs.Numbers.{word_of}

-- nothing is gathered yet
abbrev pub pen_at : ℕ → Pen
pen_at start = record { place = start; width = 0; gathered = 0 }

-- a number of a head
abbrev pub field : ℕ → ℤ → Field
field w v = record { width = w; value = word_of v }

-- message number and sub type
unfoldable pub opening_field : Head → Field
opening_field h = record { width = 16; value = 4073 * 16 + word_of h.subtype }

-- interval, indicator and IOD SSR, behind the epoch
unfoldable pub last_field : Head → Field
last_field h = record { width = 9; value = (word_of h.interval * 2 + word_of h.indicator) * 16 + word_of h.iod }

unfoldable pub front_fields : ℕ → Head → List Field
front_fields epochWidth h = opening_field h ∷ field epochWidth h.epoch ∷ last_field h ∷ []

-- 11: three flags, of which the last says whether a network follows
unfoldable pub flag_fields : Head → List Field
flag_fields h =
    let flags = (word_of h.a * 2 + word_of h.b) * 2 in
    cond (sameℤ h.c absent) (record { width = 3; value = flags } ∷ []) (record { width = 8; value = (flags + 1) * 32 + word_of h.c } ∷ [])

-- 10: indicator, counter and data size
unfoldable pub packet_fields : Head → List Field
packet_fields h = opening_field h ∷ record { width = 6; value = (word_of h.indicator * 8 + word_of h.a) * 4 + word_of h.b } ∷ []

-- 1: the number of systems
unfoldable pub mask_front : Head → List Field
mask_front h = front_fields 20 h ++ (field 4 h.a ∷ [])
