-- A body whose keys are written first, as rows of gaps, and whose values come last: its rows in the end. Assumes nothing.
use Rattle.bits.proofs.Words.{◌≡◌, refl, sym, ap, ◌∙◌, Bool, true, false, cond, List, [], ◌∷◌, ◌++◌, map, ℕ, zero, suc, ◌+◌, ◌*◌, ◌≤◌, arith, length, take, drop, ℤ, pos}
use mathlib.Core.List.{append_assoc, flatten}
use lib.Seq.{take-append_seam, drop-append_seam, take-append-add, drop-append-add, length-take-le}
use lib.Signed.{mag}
use Rattle.format.proofs.Lengths.{packet_width}
use Rattle.format.specs.Masks.{Satellite, Cell, pick}
use Rattle.format.specs.Messages.{satellite_lines, cell_lines, packet_lines, combined_shape, packet_shape}
use Rattle.format.specs.Reading.{over}
use Rattle.format.specs.Rows.{Column, Line, absent, width_of, shape_width, body_width}
use Rattle.bits.specs.BitLists.{spell}
use Rattle.holding.specs.Held.{View, strip_cells}
use Rattle.rows.proofs.RowsAt.{values_length}
use Rattle.rows.proofs.Table.{columns_in_lem, five_at, laid, narrows}
use Rattle.rows.specs.At.{values_at, rows_at, columns_on, valued_at}
use Rattle.rows.specs.declared.shape.Shape.{Shape}
use Rattle.rows.specs.Shapes.{columns_in}
use Rattle.rows.specs.Table.{shapes, listed, shape_at, shape_for}
use Rattle.table.specs.Bodies.{lines_over, lines_in, FitsKeys}
use Rattle.table.specs.declared.Keys.{Keys}
use Rattle.table.specs.declared.Keys.TheVariants.{Satellites, Cells, Parts}
use Rattle.body.specs.declared.Placed.{Placed}
use Rattle.body.specs.Asking.{Fills, Kinded, Writes}
use Rattle.body.specs.Lent.{view_by}
use Rattle.body.specs.Near.{named, valued}
use Rattle.body.specs.Written.{numbers_at}
use Rattle.body.proofs.Bodies.{few_in, numbers_long}

-- ---- lines with the same keys, those of the first as wide as a shape has them

pub data Keyed (s : Shape) : List Line → List Line → Type 0 where
  none : Keyed s [] []
  more : {x y z : ℤ} {cs ds : List Column} {ls ms : List Line} → columns_in s (mag x) ≡ cs → length ds ≡ 5 → Keyed s ls ms
      → Keyed s (record { keys = x ∷ y ∷ z ∷ []; shape = cs } ∷ ls) (record { keys = x ∷ y ∷ z ∷ []; shape = ds } ∷ ms)

keyed_count : {s : Shape} {ls ms : List Line} → Keyed s ls ms → length ls ≡ length ms
keyed_count none = refl
keyed_count (more columns five rest) = ap suc (keyed_count rest)

module _ (s : Shape) (bs zs : List ℕ) where
  -- one row with its values, and those behind it
  valued_row : (n at : ℕ) (row behind : List ℤ) → length row ≡ 8
      → valued s bs (suc n) at (row ++ behind) ≡ valued_at s bs at row ++ valued s bs n (at + shape_width (columns_on s row)) behind
  unfolding valued
  valued_row n at row behind eight =
      let first : take 8 (row ++ behind) ≡ row = ap (λ (k : ℕ). take k (row ++ behind)) (sym eight) ∙ take-append_seam row behind in
      let last : drop 8 (row ++ behind) ≡ behind = ap (λ (k : ℕ). drop k (row ++ behind)) (sym eight) ∙ drop-append_seam row behind in
      λ i. valued_at s bs at (first i) ++ valued s bs n (at + shape_width (columns_on s (first i))) (last i)

  valued_keyed : {ls ms : List Line} → Keyed s ls ms → (at p : ℕ) (rest : List ℤ) → valued s bs (length ls) at (numbers_at ms zs p ++ rest) ≡ numbers_at ls bs at ++ rest
  unfolding valued valued_at rows_at flatten
  valued_keyed none at p rest = refl
  valued_keyed (more {x} {y} {z} {cs} {ds} {ls} {ms} columns five keyed) at p rest =
      let row : List ℤ = x ∷ y ∷ z ∷ values_at ds zs p in
      let new : List ℤ = x ∷ y ∷ z ∷ values_at cs bs at in
      let behind : List ℤ = numbers_at ms zs (p + shape_width ds) in
      let eight : length row ≡ 8 = ap (λ (n : ℕ). suc (suc (suc n))) (values_length ds zs p ∙ five) in
      let made : valued_at s bs at row ≡ new = ap (λ (l : List Column). x ∷ y ∷ z ∷ values_at l bs at) columns in
      ap (valued s bs (suc (length ls)) at) (append_assoc row behind rest)
      ∙ valued_row (length ls) at row (behind ++ rest) eight
      ∙ (λ i. made i ++ valued s bs (length ls) (at + shape_width (columns i)) (behind ++ rest))
      ∙ ap (λ (l : List ℤ). new ++ l) (valued_keyed keyed (at + shape_width cs) (p + shape_width ds) rest)
      ∙ sym (append_assoc new (numbers_at ls bs (at + shape_width cs)) rest)

  -- of the rows from the k-th number on the first got its values
  pub valued_step : (k m at d place : ℕ) (rows new : List ℤ) → d ≡ 8 → k + 8 ≤ length rows → length new ≡ 8 → new ≡ valued_at s bs at (take d (drop k rows))
      → place ≡ at + shape_width (columns_on s (take d (drop k rows)))
      → let after = take k rows ++ (new ++ drop d (drop k rows)) in take (k + 8) after ++ valued s bs m place (drop (k + 8) after) ≡ take k rows ++ valued s bs (suc m) at (drop k rows)
  unfolding valued
  valued_step k m at d place rows new eight room long made behind =
      let front : List ℤ = take k rows in
      let rest : List ℤ = drop d (drop k rows) in
      let some : length front ≡ k = length-take-le k rows (omega arith) in
      let kept : take (k + 8) (front ++ (new ++ rest)) ≡ front ++ new =
      (λ i. take (sym some i + sym long i) (front ++ (new ++ rest))) ∙ take-append-add front (new ++ rest) (length new) ∙ ap (λ (l : List ℤ). front ++ l) (take-append_seam new rest) in
      let left : drop (k + 8) (front ++ (new ++ rest)) ≡ rest =
      (λ i. drop (sym some i + sym long i) (front ++ (new ++ rest))) ∙ drop-append-add front (new ++ rest) (length new) ∙ drop-append_seam new rest in
      (λ i. kept i ++ valued s bs m (behind i) (left i))
      ∙ append_assoc front new (valued s bs m (at + shape_width (columns_on s (take d (drop k rows)))) rest)
      ∙ (λ i. front ++ (made i ++ valued s bs m (at + shape_width (columns_on s (take d (drop k rows)))) rest))
      ∙ ap (λ (n : ℕ). front ++ (valued_at s bs at (take n (drop k rows)) ++ valued s bs m (at + shape_width (columns_on s (take n (drop k rows)))) (drop n (drop k rows)))) eight

-- ---- those of a body

module _ (s : Shape) where
  keyed_map : {A : Type 0} (x y z : A → ℤ) (cs ds : A → List Column) (l : List A) → ((a : A) → columns_in s (mag (x a)) ≡ cs a) → ((a : A) → length (ds a) ≡ 5)
      → Keyed s (map (λ a. record { keys = x a ∷ y a ∷ z a ∷ []; shape = cs a }) l) (map (λ a. record { keys = x a ∷ y a ∷ z a ∷ []; shape = ds a }) l)
  keyed_map x y z cs ds [] columns five = none
  keyed_map x y z cs ds (a ∷ l) columns five = more (columns a) (five a) (keyed_map x y z cs ds l columns five)

keyed_packet : (k n : ℕ) → Keyed (shape_for 7) (packet_lines k n) (packet_lines k n)
unfolding packet_lines packet_shape shapes listed shape_at
keyed_packet k zero = none
keyed_packet k (suc n) = more (columns_in_lem 32767 7) refl (keyed_packet (suc k) n)

-- gaps have no bits
no_bits : {A : Type 0} (keys : A → List ℤ) (system : A → ℕ) (l : List A) → body_width (map (λ a. record { keys = keys a; shape = shape_at 0 (system a) }) l) ≡ 0
unfolding body_width shape_width width_of shapes listed shape_at combined_shape
no_bits keys system [] = refl
no_bits keys system (a ∷ l) = omega (arith, no_bits keys system l)

-- the body for its keys alone: it can be written over a short string of zeros
record Named (v : View) (keys : Keys) (shape : ℕ) : Type 0 where
  fitted : Kinded keys shape
  kind : Kinded keys 0
  few : body_width (lines_over v keys 0) ≤ 160
  keyed : Keyed (shape_for shape) (lines_over v keys shape) (lines_over v keys 0)

by_keys : (v : View) (keys : Keys) (shape : ℕ) → FitsKeys keys shape → Named v keys shape
unfolding FitsKeys Kinded lines_over satellite_lines cell_lines
by_keys v (Satellites chosen) shape fits =
    let sats : List Satellite = pick (spell 64 chosen) v.satellites in
    record {
      fitted = fits;
      kind = laid 0 (omega arith);
      few = omega (arith, no_bits (λ (a : Satellite). pos a.system ∷ pos a.number ∷ absent ∷ []) (λ a. a.system) sats);
      keyed = keyed_map (shape_for shape) (λ (a : Satellite). pos a.system) (λ a. pos a.number) (λ _. absent) (λ a. shape_at shape a.system) (λ a. shape_at 0 a.system) sats
          (λ a. columns_in_lem a.system shape) (λ a. five_at a.system 0);
    }
by_keys v (Cells chosen) shape fits =
    let cells : List Cell = strip_cells (pick (spell 64 chosen) v.satellites) (pick (spell 64 chosen) v.strips) in
    record {
      fitted = fits.0;
      kind = narrows.0;
      few = omega (arith, no_bits (λ (a : Cell). pos a.satellite.system ∷ pos a.satellite.number ∷ pos a.signal ∷ []) (λ a. a.satellite.system) cells);
      keyed = keyed_map (shape_for shape) (λ (a : Cell). pos a.satellite.system) (λ a. pos a.satellite.number) (λ a. pos a.signal) (λ a. shape_at shape a.satellite.system)
          (λ a. shape_at 0 a.satellite.system) cells (λ a. columns_in_lem a.satellite.system shape) (λ a. five_at a.satellite.system 0);
    }
by_keys v (Parts n) shape fits = record { fitted = tt; kind = tt; few = omega (arith, fits.0, packet_width 1 n); keyed = rw fits.1 (keyed_packet 1 n) }

-- ---- what is written over the zeros, and then

module _ {ids masks strips : List ℕ} {placed : Placed} {rows : List ℤ} (f : Fills ids masks strips placed rows) where
  abbrev view : View
  view = view_by ids masks strips

  abbrev lines : List Line
  lines = lines_in view placed.body

  abbrev gaps : List Line
  gaps = lines_in view (named placed).body

  it : Named view placed.body.keys placed.body.shape
  it = by_keys view placed.body.keys placed.body.shape f.fits

  keyed : Keyed (shape_for placed.body.shape) lines gaps
  unfolding lines_in named
  keyed = it.keyed

  -- the body where windows are there, else for its keys alone
  pub first_writes : (near : Bool) (bytes zeros : List ℕ) → length zeros ≡ 35 → (near ≡ false → placed.at + placed.bits + 120 ≤ 8 * length bytes)
      → Writes ids masks strips (cond near (named placed) placed) (cond near zeros bytes) rows
  unfolding lines_in named
  first_writes true bytes zeros thirty-five far =
      let long = numbers_long view (named placed).body zeros 0 in
      let few = (few_in f.lent placed.body f.fits).rows in
      let same = keyed_count keyed in
      record { lent = f.lent; kind = it.kind; room = record { room = omega (arith, long, same, f.room); few = omega (arith, long, same, few); near = omega (arith, it.few); whole = omega (arith, it.few) } }
  first_writes false bytes zeros thirty-five far =
      let long = numbers_long view placed.body bytes placed.at in
      let few = (few_in f.lent placed.body f.fits).rows in
      let whole = far refl in
      record { lent = f.lent; kind = it.fitted; room = record { room = omega (arith, long, f.room); few = omega (arith, long, few); near = omega (arith, f.near, f.bits); whole = omega (arith, f.bits) } }

  -- with the values the rows are the body's
  pub filled_in : (bytes zeros : List ℕ) {new : List ℤ} → new ≡ over (numbers_at gaps zeros (named placed).at) rows
      → valued (shape_for placed.body.shape) bytes placed.rows placed.at new ≡ over (numbers_at lines bytes placed.at) rows
  unfolding over
  filled_in bytes zeros {new} written =
      let s = shape_for placed.body.shape in
      let old : List ℤ = numbers_at gaps zeros (named placed).at in
      let same : length old ≡ length (numbers_at lines bytes placed.at) =
      numbers_long view (named placed).body zeros _ ∙ ap (λ (n : ℕ). 8 * n) (sym (keyed_count keyed)) ∙ sym (numbers_long view placed.body bytes _) in
      (λ i. valued s bytes (f.count i) placed.at (written i))
      ∙ valued_keyed s bytes zeros keyed placed.at (named placed).at (drop (length old) rows)
      ∙ ap (λ (n : ℕ). numbers_at lines bytes placed.at ++ drop n rows) same
