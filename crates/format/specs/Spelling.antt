-- The same messages the other way: the bits that head, rows and mask spell after the sub type.
use Rattle.std.specs.Prelude.{Bool, true, false, cond, ◌&&◌, ℕ, ltb, ℤ, pos, length, take, drop}
use mathlib.Core.List.{List, [], ◌∷◌, ◌++◌, flat_map}
use Rattle.bits.specs.BitLists.{spell}
use Rattle.bits.specs.Signed.{unsigned}
use Rattle.format.specs.declared.Head.{Head}
use Rattle.format.specs.Masks.{System, Mask, Sky, Satellite, pick, cells_on}
use Rattle.format.specs.Messages.{Keys, by_satellite, by_cell, lines_of, packet_lines}
use Rattle.format.specs.Rows.{Column, Line, absent, spell_rows}
use Rattle.format.specs.Same.{sameℤ, same_list}

-- a number in w bits
unfoldable pub put : ℕ → ℤ → List Bool
put w z = spell w (unsigned w z)

unfoldable pub put_common : ℕ → Head → List Bool
put_common epochWidth h = put epochWidth h.epoch ++ (put 4 h.interval ++ (put 1 h.indicator ++ put 4 h.iod))

-- 2, 3, 4, 5 and 7
unfoldable pub put_rows : (Sky → List Line) → Sky → Head → List (List ℤ) → List Bool
put_rows over sky h rows = spell_rows (over sky) rows

-- 6 and 11: how many rows a satellite has that is selected
unfoldable pub rows_for : Keys → Sky → Satellite → ℕ
rows_for by_satellite sky s = 1
rows_for by_cell sky s = length (cells_on sky.cells s)

-- which satellites have rows, the rows standing in their order
unfoldable pub marks : (Satellite → ℕ) → List Satellite → List (List ℤ) → List Bool
marks own [] rows = []
marks own (s ∷ ss) [] = false ∷ marks own ss []
marks own (s ∷ ss) (r ∷ rs) =
    let here = ltb 0 (own s) && same_list sameℤ (take 2 r) (pos s.system ∷ pos s.number ∷ []) in
    here ∷ cond here (marks own ss (drop (own s) (r ∷ rs))) (marks own ss (r ∷ rs))

-- the network flag, and if it is set the network and its selection
unfoldable pub put_selection : (Satellite → ℕ) → List Satellite → ℤ → List (List ℤ) → List Bool
put_selection own sats network rows = cond (sameℤ network absent) (false ∷ []) (true ∷ (put 5 network ++ marks own sats rows))

unfoldable pub chosen_by : (Satellite → ℕ) → List Satellite → ℤ → List (List ℤ) → List Satellite
chosen_by own sats network rows = cond (sameℤ network absent) sats (pick (marks own sats rows) sats)

unfoldable pub put_flagged : Keys → (Bool → Bool → ℕ → List Column) → Sky → Head → List (List ℤ) → List Bool
put_flagged keys shape sky h rows =
    let sats = sky.satellites in
    let own = rows_for keys sky in
    put 1 h.a ++ (put 1 h.b ++ (put_selection own sats h.c rows
    ++ spell_rows (lines_of keys (shape (sameℤ h.a (pos 1)) (sameℤ h.b (pos 1))) sky (chosen_by own sats h.c rows)) rows))

-- 10
unfoldable pub put_packet : Head → List (List ℤ) → List Bool
put_packet h rows = put 1 h.indicator ++ (put 3 h.a ++ (put 2 h.b ++ spell_rows (packet_lines 1 (length rows)) rows))

-- 1
unfoldable pub put_system : System → List Bool
put_system s = spell 4 s.id ++ (s.satellites ++ (s.signals ++ (s.flag ∷ s.cells)))

unfoldable pub put_mask : Mask → Head → List Bool
put_mask m h = put_common 20 h ++ (put 4 h.a ++ flat_map put_system m.systems)
