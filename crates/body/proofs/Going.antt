-- A loop that writes rows into a lent part: what the part shall hold at the end is its first numbers as they are, then the rows that are left, then its
-- old numbers. Assumes nothing.
use Rattle.bits.proofs.Words.{◌≡◌, refl, sym, ap, ap₂, ◌∙◌, subst, List, [], ◌∷◌, ◌++◌, ℕ, ◌+◌, ◌-◌, ◌*◌, ◌^◌, ◌≤◌, ◌<◌, arith, length, take, drop, ℤ}
use mathlib.Core.List.{append_assoc, append-nil, flatten}
use lib.ListN.{length-append, length-take, length-drop, take-append-drop, drop_of_length-le}
use lib.Seq.{take_all, drop-drop, take-append_seam, drop-append_seam, take-append-add, drop-append-add, length-take-le}
use Rattle.body.specs.declared.End.{End}
use Rattle.rows.specs.At.{values_at, rows_at}
use Rattle.body.specs.Written.{numbers_at, Room, Wrote}
use Rattle.rows.proofs.RowsAt.{width_append, rows_at_append, values_length}
use Rattle.format.specs.Reading.{over}
use Rattle.format.specs.Rows.{Line, shape_width, body_width}

-- ---- parts of a list

module _ (j : ℕ) (old new more : List ℤ) (room : j + length new ≤ length old) where
  short : length (take j old) ≡ j
  short = length-take-le j old (omega arith)

  -- new numbers from the j-th on, and more of them after those
  pub over_more : take j old ++ over (new ++ more) (drop j old)
      ≡ take (j + length new) (take j old ++ over new (drop j old)) ++ over more (drop (j + length new) (take j old ++ over new (drop j old)))
  unfolding over
  over_more =
      let rest : List ℤ = drop (length new) (drop j old) in
      let front : take (j + length new) (take j old ++ (new ++ rest)) ≡ take j old ++ new =
      ap (λ (k : ℕ). take (k + length new) (take j old ++ (new ++ rest))) (sym short)
      ∙ take-append-add (take j old) (new ++ rest) (length new)
      ∙ ap (λ (l : List ℤ). take j old ++ l) (take-append_seam new rest) in
      let back : drop (j + length new) (take j old ++ (new ++ rest)) ≡ rest =
      ap (λ (k : ℕ). drop (k + length new) (take j old ++ (new ++ rest))) (sym short)
      ∙ drop-append-add (take j old) (new ++ rest) (length new)
      ∙ drop-append_seam new rest in
      let gone : drop (length (new ++ more)) (drop j old) ≡ drop (length more) rest =
      ap (λ (k : ℕ). drop k (drop j old)) (length-append new more) ∙ sym (drop-drop (length more) (length new) (drop j old)) in
      rw (front, back, gone) (simp append_assoc)

  pub over_length : length (take j old ++ over new (drop j old)) ≡ length old
  unfolding over
  over_length = simp (length-append, length-drop) (omega (arith, short))

-- the part from the j-th entry on, as it is lent
pub lent : {A : Type 0} (j : ℕ) (l : List A) → take (length l - j) (drop j l) ≡ drop j l
lent j l = take_all (length l - j) (drop j l) (omega (arith, length-drop j l))

pub flatten_append : {A : Type 0} (xs ys : List (List A)) → flatten (xs ++ ys) ≡ flatten xs ++ flatten ys
unfolding flatten
flatten_append [] ys = refl
flatten_append {A} (x ∷ xs) ys = ap (λ (l : List A). x ++ l) (flatten_append xs ys) ∙ sym (append_assoc x (flatten xs) (flatten ys))

-- the numbers of some lines and of more after them
pub numbers_append : (ls ms : List Line) (bs : List ℕ) (at : ℕ) → numbers_at (ls ++ ms) bs at ≡ numbers_at ls bs at ++ numbers_at ms bs (at + body_width ls)
numbers_append ls ms bs at = ap flatten (rows_at_append ls ms bs at) ∙ flatten_append (rows_at ls bs at) (rows_at ms bs (at + body_width ls))

-- ---- the loop

-- of all lines' rows, which are to stand in a part that held the old numbers, those of the lines that are left are still to come: from the j-th number on,
-- from a place on
pub record Going (bs : List ℕ) (all : List Line) (from : ℕ) (old : List ℤ) (left : List Line) (j at : ℕ) (buffer : List ℤ) : Type 0 where
  pub ends : take j buffer ++ over (numbers_at left bs at) (drop j buffer) ≡ over (numbers_at all bs from) old
  pub room : j + length (numbers_at left bs at) ≤ length buffer
  pub count : j + length (numbers_at left bs at) ≡ length (numbers_at all bs from)
  pub place : at + body_width left ≡ from + body_width all
  pub few : length (numbers_at all bs from) < 2 ^ 32
  pub near : from + body_width all < 2 ^ 32
  pub whole : from + body_width all + 120 ≤ 8 * length bs
  pub same : length buffer ≡ length old

pub going_start : {bs : List ℕ} {all : List Line} {from : ℕ} {old : List ℤ} → Room all bs from old → Going bs all from old all 0 from old
going_start r = record { ends = refl; room = omega (arith, r.room); count = omega arith; place = refl; few = r.few; near = r.near; whole = r.whole; same = refl }

-- the rows of some lines are written
going_part : {bs : List ℕ} {all : List Line} {from : ℕ} {old : List ℤ} (some more : List Line) (j at : ℕ) (buffer : List ℤ)
    → Going bs all from old (some ++ more) j at buffer
    → Going bs all from old more (j + length (numbers_at some bs at)) (at + body_width some) (take j buffer ++ over (numbers_at some bs at) (drop j buffer))
going_part {bs} some more j at buffer g =
    let new : List ℤ = numbers_at some bs at in
    let rest : List ℤ = numbers_at more bs (at + body_width some) in
    let both : numbers_at (some ++ more) bs at ≡ new ++ rest = numbers_append some more bs at in
    let long : length (numbers_at (some ++ more) bs at) ≡ length new + length rest = ap length both ∙ length-append new rest in
    let room : j + length new ≤ length buffer = omega (arith, g.room) in
    record {
      ends = sym (over_more j buffer new rest room) ∙ ap (λ (l : List ℤ). take j buffer ++ over l (drop j buffer)) (sym both) ∙ g.ends;
      room = rw (over_length j buffer new rest room) (omega (arith, g.room));
      count = omega (arith, g.count);
      place = omega (arith, g.place, width_append some more);
      few = g.few;
      near = g.near;
      whole = g.whole;
      same = over_length j buffer new rest room ∙ g.same;
    }

-- ---- one row

-- the first line's row has room in the eight numbers from the j-th on, and once it stands there those behind it are left
pub record Row (bs : List ℕ) (all : List Line) (from : ℕ) (old : List ℤ) (n : Line) (more : List Line) (j at : ℕ) (buffer : List ℤ) : Type 0 where
  pub room : j + 8 ≤ length buffer
  pub near : at + shape_width n.shape < 2 ^ 32
  pub whole : at + shape_width n.shape + 120 ≤ 8 * length bs
  pub part : length (take (j + 8 - j) (drop j buffer)) ≡ 8
  pub written : (w : ℕ) (new : List ℤ) → w ≡ shape_width n.shape → new ≡ n.keys ++ values_at n.shape bs at
      → Going bs all from old more (j + 8) (at + w) (take j buffer ++ (new ++ drop (j + 8 - j) (drop j buffer)))

module _ {bs : List ℕ} {all : List Line} {from : ℕ} {old : List ℤ} (n : Line) (more : List Line) {j at : ℕ} {buffer : List ℤ}
    (keys : length n.keys ≡ 3) (columns : length n.shape ≡ 5) (g : Going bs all from old (n ∷ more) j at buffer) where
  abbrev row : List ℤ
  row = n.keys ++ values_at n.shape bs at

  eight : length row ≡ 8
  eight = length-append n.keys (values_at n.shape bs at) ∙ omega (arith, values_length n.shape bs at)

  room : j + 8 ≤ length buffer
  unfolding rows_at flatten
  room = omega (arith, g.room, length-append row (numbers_at more bs (at + shape_width n.shape)), eight)

  written : (w : ℕ) (new : List ℤ) → w ≡ shape_width n.shape → new ≡ n.keys ++ values_at n.shape bs at
      → Going bs all from old more (j + 8) (at + w) (take j buffer ++ (new ++ drop (j + 8 - j) (drop j buffer)))
  unfolding over rows_at flatten body_width
  written w new width e =
      let one : numbers_at (n ∷ []) bs at ≡ new = append-nil row ∙ sym e in
      let long : length (numbers_at (n ∷ []) bs at) ≡ 8 = ap length (append-nil row) ∙ eight in
      let wide : body_width (n ∷ []) ≡ w = omega (arith, width) in
      let back : j + 8 - j ≡ 8 = omega arith in
      let whole : take j buffer ++ over (numbers_at (n ∷ []) bs at) (drop j buffer) ≡ take j buffer ++ (new ++ drop (j + 8 - j) (drop j buffer)) =
      ap₂ (λ (l : List ℤ) (k : ℕ). take j buffer ++ (l ++ drop k (drop j buffer))) one (long ∙ sym back) in
      subst (λ (l : List ℤ). Going bs all from old more (j + 8) (at + w) l) whole
      (subst (λ (k : ℕ). Going bs all from old more (j + 8) (at + k) (take j buffer ++ over (numbers_at (n ∷ []) bs at) (drop j buffer))) wide
      (subst (λ (k : ℕ). Going bs all from old more (j + k) (at + body_width (n ∷ [])) (take j buffer ++ over (numbers_at (n ∷ []) bs at) (drop j buffer))) long
      (going_part (n ∷ []) more j at buffer g)))

  pub going_row : Row bs all from old n more j at buffer
  unfolding body_width
  going_row =
      record {
        room = room;
        near = omega (arith, g.place, g.near);
        whole = omega (arith, g.place, g.whole);
        part = simp length-take (omega (arith, room, length-drop j buffer));
        written = written;
      }

-- ---- a call that is lent the part from the j-th number on

pub record Part (bs : List ℕ) (all : List Line) (from : ℕ) (old : List ℤ) (some more : List Line) (j at : ℕ) (buffer : List ℤ) : Type 0 where
  pub start : j ≤ length buffer
  pub room : Room some bs at (take (length buffer - j) (drop j buffer))
  pub written : (new : List ℤ) (end : End) → Wrote some bs at (take (length buffer - j) (drop j buffer)) new end
      → Going bs all from old more (j + end.filled) end.at (take j buffer ++ (new ++ drop (length buffer - j) (drop j buffer)))

pub going_call : {bs : List ℕ} {all : List Line} {from : ℕ} {old : List ℤ} (some more : List Line) {j at : ℕ} {buffer : List ℤ}
    → Going bs all from old (some ++ more) j at buffer → Part bs all from old some more j at buffer
going_call {bs} some more {j} {at} {buffer} g =
    let long : length (numbers_at (some ++ more) bs at) ≡ length (numbers_at some bs at) + length (numbers_at more bs (at + body_width some)) =
    ap length (numbers_append some more bs at) ∙ length-append (numbers_at some bs at) (numbers_at more bs (at + body_width some)) in
    let none : drop (length buffer - j) (drop j buffer) ≡ [] = drop_of_length-le (drop j buffer) {i = length buffer - j} (omega (arith, length-drop j buffer)) in
    record {
      start = omega (arith, g.room);
      room =
          rw (lent j buffer)
          (record {
            room = omega (arith, long, g.room, length-drop j buffer);
            few = omega (arith, long, g.count, g.few);
            near = omega (arith, width_append some more, g.place, g.near);
            whole = omega (arith, width_append some more, g.place, g.whole);
          });
      written =
          λ new end w.
          let same : new ++ drop (length buffer - j) (drop j buffer) ≡ over (numbers_at some bs at) (drop j buffer) =
          ap (λ (l : List ℤ). new ++ l) none ∙ append-nil new ∙ w.numbers ∙ ap (over (numbers_at some bs at)) (lent j buffer) in
          rw (same, w.filled, w.place) (going_part some more j at buffer g);
    }

-- ---- no line is left

pub going_end : {bs : List ℕ} {all : List Line} {from : ℕ} {old : List ℤ} {left : List Line} {j at : ℕ} {buffer : List ℤ} → left ≡ []
    → Going bs all from old left j at buffer → Wrote all bs from old buffer (record { filled = j; at = at })
unfolding over rows_at flatten body_width
going_end {j = j} {at} {buffer} none g =
    let h : Going _ _ _ _ [] j at buffer = rw none at g in
    record {
      numbers = sym (take-append-drop j buffer) ∙ h.ends;
      filled = omega (arith, h.count);
      place = omega (arith, h.place);
    }
