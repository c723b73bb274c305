-- A line compared with a holding's own, piece by piece. Assumes nothing.
use mathlib.Core.Path.{◌≡◌, refl, sym, ap, ◌∙◌}
use mathlib.Core.Bool.{Bool, true, false, ◌&&◌, and-true, and_assoc}
use mathlib.Core.List.{List, [], ◌∷◌, ◌++◌, append_assoc}
use Prim.Native.Nat.{ℕ, suc, ◌+◌, ◌≤◌, ◌<◌}
use native.Mathlib.Nat.{add-zero}
use native.Mathlib.Numerals.{add-one}
use native.Mathlib.Omega.{arith}
use lib.Count.{ones}
use lib.Dec.{eqb}
use lib.ListN.{length, get_or, take, drop, length-append, drop_of_length-le}
use lib.Seq.{drop-cons, take_at}
use borrow.Author.Tests.{eqb-true}
use Rattle.format.proofs.Sames.{same_list_sound}
use Rattle.format.specs.Same.{same_list}
use Rattle.format.specs.Saved.{system_text, line_of}
use Rattle.format.specs.Text.{line_feed}
use Rattle.holding.specs.declared.Holding.{Holding}
use Rattle.holding.specs.Pictures.{mask_of}
use Rattle.holding.proofs.Names.{turned}
use Rattle.text.proofs.Stores.{Wrote}
use Rattle.saved.specs.declared.systems.Slot.{Slot}
use Rattle.saved.specs.Lines.{text_from, stands_at}
use Rattle.saved.specs.Slots.{slot_at, system_in, systems_from}
use Rattle.saved.proofs.SavedLines.{text_over}
use Rattle.saved.proofs.SlotsLeft.{SlotsLeft, read_passed, read_text, no_text}

-- ---- any text

-- one behind another
stands_append : (line : List ℕ) (at : ℕ) (text more : List ℕ) → stands_at line at (text ++ more) ≡ (stands_at line at text && stands_at line (at + length text) more)
unfolding stands_at
stands_append line at [] more = rw (add-zero at)
stands_append line at (c ∷ text) more =
    let there : at + 1 + length text ≡ at + suc (length text) = omega arith in
    rw (stands_append line (at + 1) text more, there) (sym (and_assoc (eqb c (get_or line at 0)) _ _))

-- as long as what is left of a line, it is all that is left
stands_whole : (line : List ℕ) (at : ℕ) (text : List ℕ) → at + length text ≡ length line → stands_at line at text ≡ same_list eqb text (drop at line)
unfolding same_list stands_at
stands_whole line at [] long =
    let out : length line ≤ at = omega arith in
    rw (drop_of_length-le line out)
stands_whole line at (c ∷ text) long =
    rw (drop-cons line at 0 (omega arith), ← (add-one at)) (ap (λ (b : Bool). eqb c (get_or line at 0) && b) (stands_whole line (at + 1) text (omega arith)))

-- texts of different lengths differ
pub lengths_differ : (a b : List ℕ) → (length a ≡ length b → ⊥) → same_list eqb a b ≡ false
lengths_differ a b other = go (same_list eqb a b) refl
  where
    go : (same : Bool) → same_list eqb a b ≡ same → same_list eqb a b ≡ false
    go true e = absurd (other (ap length (same_list_sound eqb eqb-true a b e)))
    go false e = e

-- a text of which the front stands: it does so whole just where the rest stands from a place on
pub record StandsLeft (line : List ℕ) (start : ℕ) (all : List ℕ) (place : ℕ) (rest : List ℕ) : Type 0 where
  pub same : stands_at line start all ≡ stands_at line place rest
  pub ends : start + length all ≡ place + length rest

pub all_stands : (line : List ℕ) (start : ℕ) (all : List ℕ) → StandsLeft line start all start all
all_stands line start all = record { same = refl; ends = refl }

module _ {line : List ℕ} {start : ℕ} {all : List ℕ} {place : ℕ} {rest : List ℕ} (l : StandsLeft line start all place rest) where
  module _ (text more : List ℕ) (is : rest ≡ text ++ more) where
    parts : stands_at line start all ≡ (stands_at line place text && stands_at line (place + length text) more)
    parts = l.same ∙ ap (stands_at line place) is ∙ stands_append line place text more

    pub part_stands : stands_at line place text ≡ true → {end : ℕ} → end ≡ place + length text → StandsLeft line start all end more
    part_stands on {end} there = rw there (record { same = parts ∙ rw on; ends = omega (arith, l.ends, ap length is ∙ length-append text more) })

    pub part_differs : stands_at line place text ≡ false → stands_at line start all ≡ false
    part_differs off = parts ∙ rw off

  pub all_stood : rest ≡ [] → stands_at line start all ≡ true
  unfolding stands_at
  all_stood none = l.same ∙ rw none

-- ---- a line, piece by piece

-- it is the same as another just where what is left of that stands from a place on
pub record LineLeft (own line : List ℕ) (place : ℕ) (rest : List ℕ) : Type 0 where
  pub long : length own ≡ length line
  pub text : StandsLeft line 0 own place rest

pub line_left : (own line : List ℕ) → length own ≡ length line → LineLeft own line 0 own
line_left own line long = record { long = long; text = all_stands line 0 own }

same_stands : {own line : List ℕ} {place : ℕ} {rest : List ℕ} → LineLeft own line place rest → same_list eqb own line ≡ stands_at line 0 own
same_stands {own} {line} l = sym (stands_whole line 0 own (omega (arith, l.long)))

-- the next piece, which stands at the front of a buffer
pub record Piece (own line : List ℕ) (place : ℕ) (more buffer : List ℕ) (end : ℕ) : Type 0 where
  pub text : List ℕ
  pub left : LineLeft own line place (text ++ more)
  pub read : take end buffer ≡ text
  pub ends : end ≡ length text

pub piece : {own line : List ℕ} {place : ℕ} {rest : List ℕ} → LineLeft own line place rest → {text more : List ℕ} → rest ≡ text ++ more
    → {before buffer : List ℕ} {end : ℕ} → Wrote before 0 text buffer end → length text ≤ length before → Piece own line place more buffer end
piece l {text} is {before} {end = end} w room =
    record {
      text = text;
      left = rw is at l;
      read = ap (take end) (w.same ∙ text_over text before room) ∙ take_at text _ end (omega (arith, w.place));
      ends = omega (arith, w.place);
    }

module _ {own line : List ℕ} {place : ℕ} {more buffer : List ℕ} {end : ℕ} (p : Piece own line place more buffer end) where
  pub piece_long : end ≡ length (take end buffer)
  piece_long = p.ends ∙ sym (ap length p.read)

  pub piece_room : place + length (take end buffer) ≤ length line
  piece_room = omega (arith, ap length p.read, p.left.long, p.left.text.ends, length-append p.text more)

  -- it stands in the line, or not
  module _ {found : Bool} (tested : found ≡ stands_at line place (take end buffer)) where
    is_found : stands_at line place p.text ≡ found
    is_found = sym (tested ∙ ap (stands_at line place) p.read)

    pub piece_stands : found ≡ true → {next : ℕ} → next ≡ place + end → LineLeft own line next more
    piece_stands on there = record { long = p.left.long; text = part_stands p.left.text p.text more refl (is_found ∙ on) (omega (arith, p.ends)) }

    pub piece_differs : found ≡ false → same_list eqb own line ≡ false
    piece_differs off = same_stands p.left ∙ part_differs p.left.text p.text more refl (is_found ∙ off)

-- ---- a line and a sound holding's own

-- of which the systems in the slots from i on are left
pub record Compared (h : Holding) (line : List ℕ) (place n i : ℕ) : Type 0 where
  pub slots : SlotsLeft h i n
  pub text : LineLeft (line_of (mask_of h)) line place (text_from (systems_from h i n))

module _ {h : Holding} {line : List ℕ} {place n i : ℕ} (c : Compared h line place n i) where
  -- the next, by the slot that was read
  module _ (more : i < h.count) {s : Slot} (is : s ≡ slot_at h i) where
    abbrev text : List ℕ
    text = system_text (system_in s (drop n h.strips))

    abbrev pub behind : List ℕ
    behind = text_from (systems_from h (i + 1) (n + ones s.satellites))

    next : text_from (systems_from h i n) ≡ text ++ behind
    next = ap (λ (l : List ℕ). l ++ (line_feed ∷ [])) (read_text c.slots more is refl) ∙ append_assoc text _ (line_feed ∷ [])

    pub one_piece : {before buffer : List ℕ} {end : ℕ} → Wrote before 0 text buffer end → length text ≤ length before → Piece (line_of (mask_of h)) line place behind buffer end
    one_piece w room = piece c.text next w room

    pub one_compared : {next : ℕ} → LineLeft (line_of (mask_of h)) line next behind → {k : ℕ} → k ≡ ones s.satellites → Compared h line next (n + k) (i + 1)
    one_compared l count = record { slots = read_passed c.slots more is count; text = rw count l }

  -- the line feed is left
  module _ (all : h.count ≤ i) where
    last : text_from (systems_from h i n) ≡ line_feed ∷ []
    last = ap (λ (l : List ℕ). l ++ (line_feed ∷ [])) (no_text c.slots all)

    pub last_room : place < length line
    last_room = omega (arith, c.text.long, c.text.text.ends, ap length last)

    pub last_same : same_list eqb (line_of (mask_of h)) line ≡ eqb (get_or line place 0) line_feed
    unfolding stands_at
    last_same =
        same_stands c.text
        ∙ c.text.text.same
        ∙ ap (stands_at line place) last
        ∙ and-true (eqb line_feed (get_or line place 0))
        ∙ turned line_feed (get_or line place 0)
