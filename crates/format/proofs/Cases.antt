-- The bench cases that document 01 marks P, with 8 and 9 and two of the ways in which trainees break it, and those of document 02's Asks 1, 2 and 7, as one
-- table: walks over bits, each with what it must say.
-- Assumes nothing.
use mathlib.Core.Path.{◌≡◌, refl}
use mathlib.Core.Bool.{Bool, true}
use mathlib.Core.List.{List, [], ◌∷◌, ◌++◌, map, flat_map, flatten}
use Prim.Native.Nat.{ℕ, ◌+◌, ◌-◌, ◌/◌}
use Prim.Native.String.{String}
use lib.IntN.{ℤ, pos, neg_ℤ}
use lib.ListN.{length, replicate}
use Rattle.bits.specs.BitLists.{number, spell, bits, bytes}
use Rattle.bits.specs.Signed.{signed}
use Rattle.format.specs.Answers.{Said, stop, number_of, said_at}
use Rattle.format.specs.Assigned as Assigned
use Rattle.format.specs.Good as Good
use Rattle.format.specs.Listing as Listing
use Rattle.format.specs.Listing.{Listed, listing}
use Rattle.format.specs.Masks as Masks
use Rattle.format.specs.Masks.{nothing, lent, held_in}
use Rattle.format.specs.Messages as Messages
use Rattle.format.specs.Programs as Programs
use Rattle.format.specs.Reading as Reading
use Rattle.format.specs.Reading.{answer_of, lent_after}
use Rattle.format.specs.Rows as Rows
use Rattle.format.specs.Rows.{absent}
use Rattle.format.specs.Same.{same_list, sameℤ}
use Rattle.format.specs.Saved.{cell_text, flag_text, system_text, held_text, line_of}
use Rattle.format.specs.Steady as Steady
use Rattle.format.specs.Table as Table
use Rattle.format.specs.Tests as Tests
use Rattle.format.specs.Text.{text, digit_char, char_digit, digits_from, decimal, decimal_value, hex, hex_bits, fields_from}
use Rattle.format.specs.Walking as Walking
use Rattle.format.specs.Walking.{HandedOut, Walk, walk, messages, row_count}

-- ---- bits, field by field

pub record Field : Type 0 where
  pub width : ℕ
  pub value : ℕ

infix 80 ◌∶◌
unfoldable pub ◌∶◌ : ℕ → ℕ → Field
w ∶ n = record { width = w; value = n }

unfoldable pub spell_all : List Field → List Bool
spell_all [] = []
spell_all (f ∷ fs) = spell f.width f.value ++ spell_all fs

-- the last byte's spare bits are ones: nothing looks at them
unfoldable pub bytes_of : List Field → List ℕ
bytes_of fs =
    let l = spell_all fs in
    bytes ((length l + 7) / 8) (l ++ replicate 7 true)

-- ---- what a walk says: how and where it stops after so many messages and rows, each message with its rows, and the line that saves what is then held

pub record Report : Type 0 where
  pub stopped : Said
  pub messages : ℕ
  pub rows : ℕ
  pub handed : List (List ℤ)

infix 40 ◌at◌after◌and◌says◌
unfoldable pub ◌at◌after◌and◌says◌ : ℕ → ℕ → ℕ → ℕ → List (List ℤ) → Report
k at place after messages and rows says handed = record { stopped = stop k place 0; messages = messages; rows = rows; handed = handed }

-- 3, where so many bits are missing
infix 40 ◌missing◌at◌after◌and◌says◌
unfoldable pub ◌missing◌at◌after◌and◌says◌ : ℕ → ℕ → ℕ → ℕ → ℕ → List (List ℤ) → Report
k missing m at place after messages and rows says handed = record { stopped = stop k place m; messages = messages; rows = rows; handed = handed }

-- a message's place and length, its head and its row count; then its rows
unfoldable pub said : List HandedOut → List (List ℤ)
said [] = []
said (d ∷ ds) =
    let h = d.content.head in
    let head = h.subtype ∷ h.epoch ∷ h.interval ∷ h.indicator ∷ h.iod ∷ h.a ∷ h.b ∷ h.c ∷ [] in
    (pos d.place ∷ pos (d.next - d.place) ∷ (head ++ (pos (length d.content.rows) ∷ []))) ∷ (d.content.rows ++ said ds)

unfoldable pub report : Walk → Report
report w = record { stopped = said_at w.place (answer_of w.stop); messages = messages w; rows = row_count w.handed; handed = said w.handed }

-- ---- messages

unfoldable pub n : ℕ → ℤ
n k = pos k

unfoldable pub ∅ : ℤ
∅ = absent

-- number, sub type; a mask's head under an issue with so many systems; the head of a masked sub type
unfoldable pub opening : ℕ → List Field
opening subType = 12 ∶ 4073 ∷ 4 ∶ subType ∷ []

unfoldable pub mask_head : ℕ → ℕ → List Field
mask_head issue systems = opening 1 ++ (20 ∶ 100 ∷ 4 ∶ 5 ∷ 1 ∶ 0 ∷ 4 ∶ issue ∷ 4 ∶ systems ∷ [])

unfoldable pub head : ℕ → ℕ → List Field
head subType issue = opening subType ++ (12 ∶ 100 ∷ 4 ∶ 2 ∷ 1 ∶ 0 ∷ 4 ∶ issue ∷ [])

unfoldable pub system : ℕ → ℕ → ℕ → List Field
system id sats signals = 4 ∶ id ∷ 40 ∶ sats ∷ 16 ∶ signals ∷ 1 ∶ 0 ∷ []

-- the worked example's mask and clock
example_mask : List Field
example_mask = mask_head 3 1 ++ (4 ∶ 0 ∷ 40 ∶ 0xA000000000 ∷ 16 ∶ 0x8100 ∷ 1 ∶ 1 ∷ 4 ∶ 0xB ∷ [])

-- the same with the cells 0011: satellite 1 has none
bare_mask : List Field
bare_mask = mask_head 3 1 ++ (4 ∶ 0 ∷ 40 ∶ 0xA000000000 ∷ 16 ∶ 0x8100 ∷ 1 ∶ 1 ∷ 4 ∶ 0x3 ∷ [])

unfoldable pub clock : ℕ → List Field
clock issue = head 3 issue ++ (15 ∶ 5 ∷ 15 ∶ 16384 ∷ [])

-- what they say: a mask of so many bits that opens a stretch; a message at a place, of so many bits and rows
unfoldable pub said_mask : ℕ → ℕ → ℕ → List ℤ
said_mask long issue systems = n 0 ∷ n long ∷ n 1 ∷ n 100 ∷ n 5 ∷ n 0 ∷ n issue ∷ n systems ∷ ∅ ∷ ∅ ∷ n 0 ∷ []

unfoldable pub said_head : ℕ → ℕ → ℕ → ℕ → ℕ → List ℤ
said_head place long subType issue rows = n place ∷ n long ∷ n subType ∷ n 100 ∷ n 2 ∷ n 0 ∷ n issue ∷ ∅ ∷ ∅ ∷ ∅ ∷ n rows ∷ []

-- two systems with one satellite each, in an order
two_systems : ℕ → ℕ → List Field
two_systems first then = mask_head 3 2 ++ (system first 0x8000000000 0x8000 ++ system then 0x8000000000 0x8000)

-- a mask of one system at a place
said_again : ℕ → ℕ → ℕ → List ℤ
said_again place long issue = n place ∷ n long ∷ n 1 ∷ n 100 ∷ n 5 ∷ n 0 ∷ n issue ∷ n 1 ∷ ∅ ∷ ∅ ∷ n 0 ∷ []

-- ---- the table

-- a stretch of so many bits, what a walk over it says, and the saved line after it
record Case : Type 0 where
  bytes : List ℕ
  end : ℕ
  answer : Report
  line : List ℕ

infix 30 ◌gives◌keeps◌
◌gives◌keeps◌ : List Field → Report → String → Case
fs gives r keeps line = record { bytes = bytes_of fs; end = length (spell_all fs); answer = r; line = text line }

-- the same of bits that are given in hex
infix 30 ◌of◌gives◌keeps◌
◌of◌gives◌keeps◌ : ℕ → String → Report → String → Case
k of digits gives r keeps line = record { bytes = bytes ((k + 7) / 8) (hex_bits (text digits)); end = k; answer = r; line = text line }

unsaid : String
unsaid = "S\t-\n"

example_line : String
example_line = "S\t3\t0\tA000000000\t8100\t1\tB\n"

bare_line : String
bare_line = "S\t3\t0\tA000000000\t8100\t1\t3\n"

-- a head of sub type 6 behind that mask: of so many bits, with these a, b, c, and so many rows
said_biases : ℕ → ℤ → ℤ → ℤ → ℕ → List ℤ
said_biases long a b c rows = n 114 ∷ n long ∷ n 6 ∷ n 100 ∷ n 2 ∷ n 0 ∷ n 3 ∷ a ∷ b ∷ c ∷ n rows ∷ []

said_clock : List (List ℤ)
said_clock = said_head 114 67 3 3 2 ∷ (n 0 ∷ n 1 ∷ ∅ ∷ n 5 ∷ ∅ ∷ ∅ ∷ ∅ ∷ ∅ ∷ []) ∷ (n 0 ∷ n 3 ∷ ∅ ∷ neg_ℤ (n 16384) ∷ ∅ ∷ ∅ ∷ ∅ ∷ ∅ ∷ []) ∷ []

cases : List Case
cases =
    -- 1: the listing's stretch, as the customer gives it, and field by field. The clock's second row is satellite 3
    (181 of "FE91000645188500000000040806FFA4C1908600160000" gives 0 at 181 after 2 and 2 says (said_mask 114 3 1 ∷ said_clock) keeps example_line)
    ∷ ((example_mask ++ clock 3) gives 0 at 181 after 2 and 2 says (said_mask 114 3 1 ∷ said_clock) keeps example_line)
    -- 2: its first 180 bits
    ∷ ((example_mask ++ (head 3 3 ++ (15 ∶ 5 ∷ 14 ∶ 8192 ∷ []))) gives 3 missing 1 at 114 after 1 and 0 says (said_mask 114 3 1 ∷ []) keeps example_line)
    -- 3: its last 67 bits alone
    ∷ (clock 3 gives 6 at 0 after 0 and 0 says [] keeps unsaid)
    -- 4: its clock with IOD 4, whole, and its head alone: the issue comes before the body
    ∷ ((example_mask ++ clock 4) gives 7 at 114 after 1 and 0 says (said_mask 114 3 1 ∷ []) keeps example_line)
    ∷ ((example_mask ++ head 3 4) gives 7 at 114 after 1 and 0 says (said_mask 114 3 1 ∷ []) keeps example_line)
    -- 5: a mask of 0 systems is 49 bits; a clock under it is 37 with no rows
    ∷ ((mask_head 3 0 ++ head 3 3) gives 0 at 86 after 2 and 0 says (said_mask 49 3 0 ∷ said_head 49 37 3 3 0 ∷ []) keeps "S\t3\n")
    -- 6: QZSS place 9 good, 10 gives 9; of satellites and of signals
    ∷ ((mask_head 3 1 ++ system 4 0x0040000000 0x0040) gives 0 at 110 after 1 and 0 says (said_mask 110 3 1 ∷ []) keeps "S\t3\t4\t0040000000\t0040\t0\t-\n")
    ∷ ((mask_head 3 1 ++ system 4 0x0020000000 0x0040) gives 9 at 0 after 0 and 0 says [] keeps unsaid)
    ∷ ((mask_head 3 1 ++ system 4 0x0040000000 0x0020) gives 9 at 0 after 0 and 0 says [] keeps unsaid)
    -- 7: ID 5, or GPS twice
    ∷ ((mask_head 3 1 ++ system 5 0 0) gives 8 at 0 after 0 and 0 says [] keeps unsaid)
    ∷ ((mask_head 3 2 ++ (system 0 0 0 ++ system 0 0 0)) gives 8 at 0 after 0 and 0 says [] keeps unsaid)
    -- 8: 40 GPS and 24 BeiDou good; 25 gives 10
    ∷ ((mask_head 3 2 ++ (system 0 0xFFFFFFFFFF 0 ++ system 3 0xFFFFFF0000 0)) gives 0 at 171 after 1 and 0 says (said_mask 171 3 2 ∷ [])
    keeps "S\t3\t0\tFFFFFFFFFF\t0000\t0\t-\t3\tFFFFFF0000\t0000\t0\t-\n")
    ∷ ((mask_head 3 2 ++ (system 0 0xFFFFFFFFFF 0 ++ system 3 0xFFFFFF8000 0)) gives 10 at 0 after 0 and 0 says [] keeps unsaid)
    -- 9: 32 GPS by 8 signals, flag 0, good; by 9 gives 10
    ∷ ((mask_head 3 1 ++ system 0 0xFFFFFFFF00 0xFF00) gives 0 at 110 after 1 and 0 says (said_mask 110 3 1 ∷ []) keeps "S\t3\t0\tFFFFFFFF00\tFF00\t0\t-\n")
    ∷ ((mask_head 3 1 ++ system 0 0xFFFFFFFF00 0xFF80) gives 10 at 0 after 0 and 0 says [] keeps unsaid)
    -- 10: 11 zero bits idle; 11 bits with a one: 3; 12 bits of 4072: 4
    ∷ ((11 ∶ 0 ∷ []) gives 0 at 0 after 0 and 0 says [] keeps unsaid)
    ∷ ((11 ∶ 1 ∷ []) gives 3 missing 1 at 0 after 0 and 0 says [] keeps unsaid)
    ∷ ((12 ∶ 4072 ∷ []) gives 4 at 0 after 0 and 0 says [] keeps unsaid)
    -- 11: network 0 gives 11, 31 is good: here with the second satellite alone, and no field of it
    ∷ ((example_mask ++ (head 11 3 ++ (3 ∶ 1 ∷ 5 ∶ 0 ∷ 2 ∶ 1 ∷ []))) gives 11 at 114 after 1 and 0 says (said_mask 114 3 1 ∷ []) keeps example_line)
    ∷ ((example_mask ++ (head 11 3 ++ (3 ∶ 1 ∷ 5 ∶ 31 ∷ 2 ∶ 1 ∷ []))) gives 0 at 161 after 2 and 1 says
    (said_mask 114 3 1 ∷ (n 114 ∷ n 47 ∷ n 11 ∷ n 100 ∷ n 2 ∷ n 0 ∷ n 3 ∷ n 0 ∷ n 0 ∷ n 31 ∷ n 1 ∷ []) ∷ (n 0 ∷ n 3 ∷ ∅ ∷ ∅ ∷ ∅ ∷ ∅ ∷ ∅ ∷ ∅ ∷ []) ∷ [])
    keeps example_line)
    -- 12: one satellite's orbit is 86 bits for GPS, 88 for Galileo
    ∷ ((mask_head 3 1 ++ (system 0 0x8000000000 0 ++ (head 2 3 ++ (8 ∶ 255 ∷ 15 ∶ 1 ∷ 13 ∶ 2 ∷ 13 ∶ 4096 ∷ [])))) gives 0 at 196 after 2 and 1 says
    (said_mask 110 3 1 ∷ said_head 110 86 2 3 1 ∷ (n 0 ∷ n 1 ∷ ∅ ∷ n 255 ∷ n 1 ∷ n 2 ∷ neg_ℤ (n 4096) ∷ ∅ ∷ []) ∷ [])
    keeps "S\t3\t0\t8000000000\t0000\t0\t-\n")
    ∷ ((mask_head 3 1 ++ (system 2 0x8000000000 0 ++ (head 2 3 ++ (10 ∶ 1023 ∷ 15 ∶ 1 ∷ 13 ∶ 2 ∷ 13 ∶ 4096 ∷ [])))) gives 0 at 198 after 2 and 1 says
    (said_mask 110 3 1 ∷ said_head 110 88 2 3 1 ∷ (n 2 ∷ n 1 ∷ ∅ ∷ n 1023 ∷ n 1 ∷ n 2 ∷ neg_ℤ (n 4096) ∷ ∅ ∷ []) ∷ [])
    keeps "S\t3\t2\t8000000000\t0000\t0\t-\n")
    -- 13: sub type 10 is 62 bits at size 0, 182 at size 3
    ∷ ((opening 10 ++ (1 ∶ 1 ∷ 3 ∶ 5 ∷ 2 ∶ 0 ∷ 40 ∶ 0x0102030405 ∷ [])) gives 0 at 62 after 1 and 1 says
    ((n 0 ∷ n 62 ∷ n 10 ∷ ∅ ∷ ∅ ∷ n 1 ∷ ∅ ∷ n 5 ∷ n 0 ∷ ∅ ∷ n 1 ∷ []) ∷ (∅ ∷ ∅ ∷ n 1 ∷ n 1 ∷ n 2 ∷ n 3 ∷ n 4 ∷ n 5 ∷ []) ∷ [])
    keeps unsaid)
    ∷ ((opening 10 ++ (1 ∶ 0 ∷ 3 ∶ 6 ∷ 2 ∶ 3 ∷ 40 ∶ 1 ∷ 40 ∶ 2 ∷ 40 ∶ 3 ∷ 40 ∶ 0xFF00000000 ∷ [])) gives 0 at 182 after 1 and 4 says
    ((n 0 ∷ n 182 ∷ n 10 ∷ ∅ ∷ ∅ ∷ n 0 ∷ ∅ ∷ n 6 ∷ n 3 ∷ ∅ ∷ n 4 ∷ [])
    ∷ (∅ ∷ ∅ ∷ n 1 ∷ n 0 ∷ n 0 ∷ n 0 ∷ n 0 ∷ n 1 ∷ []) ∷ (∅ ∷ ∅ ∷ n 2 ∷ n 0 ∷ n 0 ∷ n 0 ∷ n 0 ∷ n 2 ∷ [])
    ∷ (∅ ∷ ∅ ∷ n 3 ∷ n 0 ∷ n 0 ∷ n 0 ∷ n 0 ∷ n 3 ∷ []) ∷ (∅ ∷ ∅ ∷ n 4 ∷ n 255 ∷ n 0 ∷ n 0 ∷ n 0 ∷ n 0 ∷ []) ∷ [])
    keeps unsaid)
    -- 14: sub type 12
    ∷ (opening 12 gives 5 at 0 after 0 and 0 says [] keeps unsaid)
    -- the cells 1011 give satellite 1 place 0, satellite 3 places 0 and 7
    ∷ ((example_mask ++ (head 4 3 ++ (11 ∶ 1 ∷ 11 ∶ 2 ∷ 11 ∶ 1024 ∷ []))) gives 0 at 184 after 2 and 3 says
    (said_mask 114 3 1 ∷ said_head 114 70 4 3 3 ∷ (n 0 ∷ n 1 ∷ n 0 ∷ n 1 ∷ ∅ ∷ ∅ ∷ ∅ ∷ ∅ ∷ []) ∷ (n 0 ∷ n 3 ∷ n 0 ∷ n 2 ∷ ∅ ∷ ∅ ∷ ∅ ∷ ∅ ∷ [])
    ∷ (n 0 ∷ n 3 ∷ n 7 ∷ neg_ℤ (n 1024) ∷ ∅ ∷ ∅ ∷ ∅ ∷ ∅ ∷ []) ∷ [])
    keeps example_line)
    -- with flag 0 every signal counts for every satellite
    ∷ ((mask_head 3 1 ++ (system 4 0x4000000000 0xC000 ++ (head 5 3 ++ (15 ∶ 7 ∷ 2 ∶ 3 ∷ 15 ∶ 8 ∷ 2 ∶ 1 ∷ [])))) gives 0 at 181 after 2 and 2 says
    (said_mask 110 3 1 ∷ said_head 110 71 5 3 2 ∷ (n 4 ∷ n 2 ∷ n 0 ∷ n 7 ∷ n 3 ∷ ∅ ∷ ∅ ∷ ∅ ∷ []) ∷ (n 4 ∷ n 2 ∷ n 1 ∷ n 8 ∷ n 1 ∷ ∅ ∷ ∅ ∷ ∅ ∷ []) ∷ [])
    keeps "S\t3\t4\t4000000000\tC000\t0\t-\n")
    -- document 02, Ask 1, by the source's Tables 4.1.2-19, -20 and -22. Sub type 6 behind the example's mask, both flags, no network, three cells:
    -- 111111101001 0110 000001100100 0010 0 0011, 1 1 0, then code bias, phase bias and indicator of each cell: 00000000101 111111111111111 10,
    -- 10000000000 000000000000011 00, 01111111111 100000000000000 11
    ∷ ((example_mask ++ (head 6 3 ++ (3 ∶ 6 ∷ 11 ∶ 5 ∷ 15 ∶ 32767 ∷ 2 ∶ 2 ∷ 11 ∶ 1024 ∷ 15 ∶ 3 ∷ 2 ∶ 0 ∷ 11 ∶ 1023 ∷ 15 ∶ 16384 ∷ 2 ∶ 3 ∷ []))) gives 0 at 238 after 2 and 3 says
    (said_mask 114 3 1 ∷ said_biases 124 (n 1) (n 1) ∅ 3 ∷ (n 0 ∷ n 1 ∷ n 0 ∷ n 5 ∷ neg_ℤ (n 1) ∷ n 2 ∷ ∅ ∷ ∅ ∷ []) ∷ (n 0 ∷ n 3 ∷ n 0 ∷ neg_ℤ (n 1024) ∷ n 3 ∷ n 0 ∷ ∅ ∷ ∅ ∷ [])
    ∷ (n 0 ∷ n 3 ∷ n 7 ∷ n 1023 ∷ neg_ℤ (n 16384) ∷ n 3 ∷ ∅ ∷ ∅ ∷ []) ∷ [])
    keeps example_line)
    -- phase alone, network 7, whose selection 01 is of satellite 3: the same head, 0 1 1, 00111, 01, then phase bias and indicator of its two cells:
    -- 000000000000111 01, 111111111111000 10
    ∷ ((example_mask ++ (head 6 3 ++ (3 ∶ 3 ∷ 5 ∶ 7 ∷ 2 ∶ 1 ∷ 15 ∶ 7 ∷ 2 ∶ 1 ∷ 15 ∶ 32760 ∷ 2 ∶ 2 ∷ []))) gives 0 at 195 after 2 and 2 says
    (said_mask 114 3 1 ∷ said_biases 81 (n 0) (n 1) (n 7) 2 ∷ (n 0 ∷ n 3 ∷ n 0 ∷ ∅ ∷ n 7 ∷ n 1 ∷ ∅ ∷ ∅ ∷ []) ∷ (n 0 ∷ n 3 ∷ n 7 ∷ ∅ ∷ neg_ℤ (n 8) ∷ n 2 ∷ ∅ ∷ ∅ ∷ []) ∷ [])
    keeps example_line)
    -- sub type 7: 111111101001 0111 000001100100 0010 0 0011, then SSR URA of each satellite: 000000, 111111
    ∷ ((example_mask ++ (head 7 3 ++ (6 ∶ 0 ∷ 6 ∶ 63 ∷ []))) gives 0 at 163 after 2 and 2 says
    (said_mask 114 3 1 ∷ said_head 114 49 7 3 2 ∷ (n 0 ∷ n 1 ∷ ∅ ∷ n 0 ∷ ∅ ∷ ∅ ∷ ∅ ∷ ∅ ∷ []) ∷ (n 0 ∷ n 3 ∷ ∅ ∷ n 63 ∷ ∅ ∷ ∅ ∷ ∅ ∷ ∅ ∷ []) ∷ [])
    keeps example_line)
    -- sub type 6 where satellite 1 has no cell: without a network it has no row, and the others have, also with both flags 0; a selection that names it is
    -- refused with 11, and so where nothing follows, before the body's 3; network 0 before the selection's 3
    ∷ ((bare_mask ++ (head 6 3 ++ (3 ∶ 0 ∷ []))) gives 0 at 154 after 2 and 2 says
    (said_mask 114 3 1 ∷ said_biases 40 (n 0) (n 0) ∅ 2 ∷ (n 0 ∷ n 3 ∷ n 0 ∷ ∅ ∷ ∅ ∷ ∅ ∷ ∅ ∷ ∅ ∷ []) ∷ (n 0 ∷ n 3 ∷ n 7 ∷ ∅ ∷ ∅ ∷ ∅ ∷ ∅ ∷ ∅ ∷ []) ∷ [])
    keeps bare_line)
    ∷ ((bare_mask ++ (head 6 3 ++ (3 ∶ 5 ∷ 5 ∶ 7 ∷ 2 ∶ 1 ∷ 11 ∶ 1 ∷ 11 ∶ 2 ∷ []))) gives 0 at 183 after 2 and 2 says
    (said_mask 114 3 1 ∷ said_biases 69 (n 1) (n 0) (n 7) 2 ∷ (n 0 ∷ n 3 ∷ n 0 ∷ n 1 ∷ ∅ ∷ ∅ ∷ ∅ ∷ ∅ ∷ []) ∷ (n 0 ∷ n 3 ∷ n 7 ∷ n 2 ∷ ∅ ∷ ∅ ∷ ∅ ∷ ∅ ∷ []) ∷ [])
    keeps bare_line)
    ∷ ((bare_mask ++ (head 6 3 ++ (3 ∶ 5 ∷ 5 ∶ 7 ∷ 2 ∶ 3 ∷ 11 ∶ 1 ∷ 11 ∶ 2 ∷ []))) gives 11 at 114 after 1 and 0 says (said_mask 114 3 1 ∷ []) keeps bare_line)
    ∷ ((bare_mask ++ (head 6 3 ++ (3 ∶ 5 ∷ 5 ∶ 7 ∷ 2 ∶ 2 ∷ []))) gives 11 at 114 after 1 and 0 says (said_mask 114 3 1 ∷ []) keeps bare_line)
    ∷ ((bare_mask ++ (head 6 3 ++ (3 ∶ 5 ∷ 5 ∶ 0 ∷ []))) gives 11 at 114 after 1 and 0 says (said_mask 114 3 1 ∷ []) keeps bare_line)
    ∷ ((bare_mask ++ (head 6 3 ++ (3 ∶ 5 ∷ 5 ∶ 7 ∷ 2 ∶ 1 ∷ 11 ∶ 1 ∷ []))) gives 3 missing 11 at 114 after 1 and 0 says (said_mask 114 3 1 ∷ []) keeps bare_line)
    -- how many bits of the field that is short are missing, or of the body (document 02, Ask 7): of the number; of a cell mask of four bits, which is one field;
    -- of a clock's body of 30; of the last flag of three, each of which is a field; of a selection of two bits; of a packet's body of 160
    ∷ ((1 ∶ 1 ∷ []) gives 3 missing 11 at 0 after 0 and 0 says [] keeps unsaid)
    ∷ ((mask_head 3 1 ++ (4 ∶ 0 ∷ 40 ∶ 0xA000000000 ∷ 16 ∶ 0x8100 ∷ 1 ∶ 1 ∷ 1 ∶ 1 ∷ [])) gives 3 missing 3 at 0 after 0 and 0 says [] keeps unsaid)
    ∷ ((example_mask ++ head 3 3) gives 3 missing 30 at 114 after 1 and 0 says (said_mask 114 3 1 ∷ []) keeps example_line)
    ∷ ((example_mask ++ (head 11 3 ++ (2 ∶ 3 ∷ []))) gives 3 missing 1 at 114 after 1 and 0 says (said_mask 114 3 1 ∷ []) keeps example_line)
    ∷ ((example_mask ++ (head 11 3 ++ (3 ∶ 1 ∷ 5 ∶ 31 ∷ []))) gives 3 missing 2 at 114 after 1 and 0 says (said_mask 114 3 1 ∷ []) keeps example_line)
    ∷ ((opening 10 ++ (1 ∶ 1 ∷ 3 ∶ 5 ∷ 2 ∶ 3 ∷ 40 ∶ 0x0102030405 ∷ [])) gives 3 missing 120 at 0 after 0 and 0 says [] keeps unsaid)
    -- document 02, Ask 2: another mask under the held number is 13, and nothing is held then: another satellite, one cell fewer, no systems
    ∷ ((example_mask ++ (mask_head 3 1 ++ system 0 0x9000000000 0x8100)) gives 13 at 114 after 1 and 0 says (said_mask 114 3 1 ∷ []) keeps unsaid)
    ∷ ((example_mask ++ bare_mask) gives 13 at 114 after 1 and 0 says (said_mask 114 3 1 ∷ []) keeps unsaid)
    ∷ ((example_mask ++ mask_head 3 0) gives 13 at 114 after 1 and 0 says (said_mask 114 3 1 ∷ []) keeps unsaid)
    -- two systems the other way round
    ∷ ((two_systems 0 4 ++ two_systems 4 0) gives 13 at 171 after 1 and 0 says (said_mask 171 3 2 ∷ []) keeps unsaid)
    -- flag 0, then flag 1 with all ones: the same cells; and the flag alone, where there are no signals and so no cells
    ∷ ((mask_head 3 1 ++ (system 4 0x4000000000 0xC000 ++ (mask_head 3 1 ++ (4 ∶ 4 ∷ 40 ∶ 0x4000000000 ∷ 16 ∶ 0xC000 ∷ 1 ∶ 1 ∷ 2 ∶ 3 ∷ []))))
    gives 13 at 110 after 1 and 0 says (said_mask 110 3 1 ∷ []) keeps unsaid)
    ∷ ((mask_head 3 1 ++ (system 0 0x8000000000 0 ++ (mask_head 3 1 ++ (4 ∶ 0 ∷ 40 ∶ 0x8000000000 ∷ 16 ∶ 0 ∷ 1 ∶ 1 ∷ []))))
    gives 13 at 110 after 1 and 0 says (said_mask 110 3 1 ∷ []) keeps unsaid)
    -- the same mask again, or another one under another number, is adopted
    ∷ ((example_mask ++ example_mask) gives 0 at 228 after 2 and 0 says (said_mask 114 3 1 ∷ said_again 114 114 3 ∷ []) keeps example_line)
    ∷ ((example_mask ++ (mask_head 4 1 ++ system 0 0x9000000000 0)) gives 0 at 224 after 2 and 0 says (said_mask 114 3 1 ∷ said_again 114 110 4 ∷ [])
    keeps "S\t4\t0\t9000000000\t0000\t0\t-\n")
    -- it comes last: 10 for 40 satellites of 7 signals, 3 for a cell mask that is cut short, and what is held stays
    ∷ ((example_mask ++ (mask_head 3 1 ++ system 0 0xFFFFFFFFFF 0xFE00)) gives 10 at 114 after 1 and 0 says (said_mask 114 3 1 ∷ []) keeps example_line)
    ∷ ((example_mask ++ (mask_head 3 1 ++ (4 ∶ 0 ∷ 40 ∶ 0x9000000000 ∷ 16 ∶ 0x8100 ∷ 1 ∶ 1 ∷ 3 ∶ 7 ∷ []))) gives 3 missing 1 at 114 after 1 and 0 says (said_mask 114 3 1 ∷ [])
    keeps example_line)
    ∷ []

-- what a reading computes with
unfoldable pub computing : Unit {0}
unfolding ◌∶◌ spell_all bytes_of ◌at◌after◌and◌says◌ ◌missing◌at◌after◌and◌says◌ said report n ∅ opening mask_head head system clock said_mask said_head spell bits bytes number signed flat_map flatten said_at number_of Walking.messages Walking.row_count Walking.walk_on Walking.walk_from Walking.go_on Walking.hand Reading.reading_by Reading.lent_tests Tests.verdict Reading.placed Reading.read_from Reading.bits_from Reading.ended_at Reading.rows_after Reading.over Programs.run Programs.◌>>=◌ Programs.◌>>◌ Programs.later Programs.unless_short Programs.numbered Programs.taking Programs.require Table.opening Table.message_by Table.table Table.kinds Table.alone Table.with_flags Table.by_kind Table.keeping Table.under_mask Table.gate Messages.bodied Messages.over_satellites Messages.over_cells Messages.common Messages.head_of Messages.rows_alone Messages.body Messages.satellite_lines Messages.cell_lines Messages.iode_width Messages.orbit_shape Messages.clock_shape Messages.code_shape Messages.phase_shape Messages.bias_shape Messages.accuracy_shape Messages.combined_shape Messages.packet_shape Messages.lines_of Messages.celled Messages.nameable Messages.selection Messages.flagged Messages.packet_lines Messages.packet Messages.packet_heading Messages.mask_message Messages.systems Messages.system Messages.system_id Messages.system_masks Messages.system_signals Messages.system_with Messages.system_cells Messages.flagged_cells Messages.few_cells Messages.named Assigned.known Assigned.blank Assigned.assigned Assigned.satellite_places Assigned.signal_places Masks.places_from Masks.pick Masks.satellites_of Masks.pairs_of Masks.cells_of Masks.satellites Masks.cells Masks.same_satellite Masks.cells_on Masks.sky_of Masks.held_in Rows.width_of Rows.value_of Rows.shape_width Rows.values_of Rows.body_width Rows.rows_of Good.is_holding Good.good Good.good_systems Good.good_system Reading.lent_after answer_of Steady.same_line Steady.steady hex digit_char digits_from decimal cell_text flag_text system_text held_text line_of same_list
computing = tt

-- and what a text and a saved line compute with
texts : Unit {0}
unfolding text hex_bits char_digit decimal_value fields_from lent_after held_in sameℤ
texts = tt

-- from the empty holding
walked : Case → Walk
walked c = walk (lent nothing) c.bytes c.end (replicate 2048 (pos 0))

cases_hold :
    map (λ c. report (walked c)) cases ≡ map (λ c. c.answer) cases
    × (map (λ c. line_of (held_in (lent_after (walked c).stop))) cases ≡ map (λ c. c.line) cases)
unfolding computing walked example_mask bare_mask two_systems said_again said_biases said_clock unsaid example_line bare_line ◌gives◌keeps◌ ◌of◌gives◌keeps◌ cases texts
cases_hold = (refl, refl)

-- ---- the worked example, whole: what is listed of the customer's line, and the saved mask after it

example : Listed
example = listing nothing (text "181\tFE91000645188500000000040806FFA4C1908600160000\n")

example_listed :
    (example.text ≡ text "M\t0\t114\t1\t100\t5\t0\t3\t1\t-\t-\t0\nM\t114\t67\t3\t100\t2\t0\t3\t-\t-\t-\t2\nR\t0\t1\t-\t5\t-\t-\t-\t-\nR\t0\t3\t-\t-16384\t-\t-\t-\t-\nE\t0\t181\t2\t2\t-\n")
    × (line_of example.held ≡ text example_line)
unfolding computing example example_line texts Listing.stretch_line Listing.bits_said Listing.line_says Listing.bytes_said Listing.value_text Listing.record_text Listing.head_values Listing.message_text Listing.missing_value Listing.stop_values Listing.walk_text Listing.bad_text Listing.walk_said Listing.list_line Listing.lines_from Listing.list_lines listing
example_listed = (refl, refl)
