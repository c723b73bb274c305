-- A pen over lent bytes: fields are gathered, and 64 bits are set at once as soon as they are there. What it comes to for any fields, one after another.
use Rattle.std.specs.Prelude.{◌≡◌, Bool, cond, List, [], ◌∷◌, ◌++◌, ℕ, ◌+◌, ◌-◌, ◌*◌, ◌/◌, ◌%◌, ◌^◌, ◌≤◌, ◌<◌, ltb, length}
use Rattle.bits.specs.BitLists.{spell, set_field}
use Rattle.bits.specs.Places.{field}
use Rattle.pens.specs.declared.pen.Field.{Field}
use Rattle.pens.specs.declared.pen.Pen.{Pen}

-- ---- one field

-- as many bits as one setting takes
abbrev pub most : ℕ
most = 64

-- a field joins what is gathered where both are fewer
unfoldable pub joins : Pen → Field → Bool
joins p f = ltb (p.width + f.width) most

-- otherwise so many of its bits are left over
abbrev pub rest_of : Pen → Field → ℕ
rest_of p f = p.width + f.width - most

-- and the others are set behind what is gathered
unfoldable pub full_word : Pen → Field → ℕ
full_word p f = p.gathered * 2 ^ (most - p.width) % 2 ^ most + f.value / 2 ^ rest_of p f

-- what is gathered are the low bits of a word: those above them are shifted out in time, and mean nothing
unfoldable pub pushed : Pen → Field → Pen
pushed p f =
    cond (joins p f)
    (record { place = p.place; width = p.width + f.width; gathered = p.gathered * 2 ^ f.width % 2 ^ most + f.value })
    (record { place = p.place + most; width = rest_of p f; gathered = f.value })

-- what is gathered, set
unfoldable pub set_by : Pen → List ℕ → List ℕ
set_by p bytes = set_field bytes p.place p.width p.gathered

-- and by one field more: only where that does not join it
unfoldable pub inked_by : Pen → Field → List ℕ → List ℕ
inked_by p f bytes = cond (joins p f) bytes (set_field bytes p.place most (full_word p f))

-- ---- any fields

unfoldable pub pen_after : Pen → List Field → Pen
pen_after p [] = p
pen_after p (f ∷ fs) = pen_after (pushed p f) fs

unfoldable pub ink_after : Pen → List Field → List ℕ → List ℕ
ink_after p [] bytes = bytes
ink_after p (f ∷ fs) bytes = ink_after (pushed p f) fs (inked_by p f bytes)

-- their bits
unfoldable pub spell_fields : List Field → List Bool
spell_fields [] = []
spell_fields (f ∷ fs) = spell f.width f.value ++ spell_fields fs

-- ---- from a whole byte on

-- a pen at any place, as one at the byte in which that lies: the bits before it there come first, as they are
unfoldable pub begun_by : List ℕ → Pen → Pen
begun_by bytes p =
    let skip = p.place % 8 in
    record { place = p.place - skip; width = skip + p.width; gathered = field bytes (p.place - skip) skip * 2 ^ p.width + p.gathered }

-- ---- what is asked of them

-- a number of so many bits, no more than a field has
pub record Fine (width value : ℕ) : Type 0 where
  pub narrow : width ≤ 56
  pub small : value < 2 ^ width

pub data Fines : List Field → Type 0 where
  none : Fines []
  more : {f : Field} {fs : List Field} → Fine f.width f.value → Fines fs → Fines (f ∷ fs)

-- the low bits of a word, fewer than one setting takes
pub record Gathers (width gathered : ℕ) : Type 0 where
  pub narrow : width < most
  pub word : gathered < 2 ^ most

-- a pen from a whole byte on, and the bytes have room for all bits
pub record Ready (p : Pen) (fs : List Field) (bytes : List ℕ) : Type 0 where
  pub pen : Gathers p.width p.gathered
  pub whole : p.place % 8 ≡ 0
  pub fields : Fines fs
  pub room : p.place + p.width + length (spell_fields fs) ≤ 8 * length bytes
  pub near : p.place + p.width + length (spell_fields fs) < 2 ^ 32

-- a pen at any place that begins so
pub record Begins (p : Pen) (fs : List Field) (bytes : List ℕ) : Type 0 where
  pub pen : Fine p.width p.gathered
  pub fields : Fines fs
  pub room : p.place + p.width + length (spell_fields fs) ≤ 8 * length bytes
  pub near : p.place + p.width + length (spell_fields fs) < 2 ^ 32
