-- Which head and rows a message can carry under a mask, sub type by sub type: document 01, "What is handed out", and refusal 12.
-- Nothing is spelled or read here.
use Rattle.std.specs.Prelude.{Bool, true, false, ◌&&◌, List, [], ◌∷◌, ℕ, zero, suc, ◌^◌, ltb, ℤ, pos, negsuc, length, get_or}
use Rattle.format.specs.declared.Head.{Head}
use Rattle.format.specs.Masks.{Mask, Held, nothing, mask, Sky, sky_of}
use Rattle.format.specs.Messages.{Keys, by_satellite, by_cell, lines_of, packet_lines, over_satellites, over_cells, orbit_shape, clock_shape, code_shape, phase_shape, bias_shape, accuracy_shape, combined_shape}
use Rattle.format.specs.Rows.{absent, Column, Line}
use Rattle.format.specs.Same.{sameℤ}
use Rattle.format.specs.Spelling.{rows_for, chosen_by}
use Rattle.fitting.specs.Fits.{rows_fit}

-- a number of w bits
unfoldable pub number_fits : ℕ → ℤ → Bool
number_fits w (pos n) = ltb n (2 ^ w)
number_fits w (negsuc n) = false

-- epoch, interval, indicator and IOD SSR
unfoldable pub common_fits : ℕ → Head → Bool
common_fits epochWidth h = number_fits epochWidth h.epoch && (number_fits 4 h.interval && (number_fits 1 h.indicator && number_fits 4 h.iod))

-- ---- behind it: 2, 3, 4, 5 and 7

unfoldable pub alone_fits : (Sky → List Line) → Sky → Head → List (List ℤ) → Bool
alone_fits over sky h rows = sameℤ h.a absent && (sameℤ h.b absent && (sameℤ h.c absent && rows_fit (over sky) rows))

-- ---- 6 and 11

-- no network, or one from 1 to 31
unfoldable pub network_fits : ℤ → Bool
network_fits (pos zero) = false
network_fits (pos (suc n)) = ltb (suc n) 32
network_fits (negsuc n) = sameℤ (negsuc n) absent

unfoldable pub flagged_fits : Keys → (Bool → Bool → ℕ → List Column) → Sky → Head → List (List ℤ) → Bool
flagged_fits keys shape sky h rows =
    number_fits 1 h.a && (number_fits 1 h.b && (network_fits h.c
    && rows_fit (lines_of keys (shape (sameℤ h.a (pos 1)) (sameℤ h.b (pos 1))) sky (chosen_by (rows_for keys sky) sky.satellites h.c rows)) rows))

-- ---- 10

-- a data size of 2 bits, and a row more than it says
unfoldable pub parts_fit : ℤ → List (List ℤ) → Bool
parts_fit (pos size) rows = ltb size 4 && rows_fit (packet_lines 1 (suc size)) rows
parts_fit (negsuc n) rows = false

unfoldable pub packet_fits : Head → List (List ℤ) → Bool
packet_fits h rows =
    sameℤ h.epoch absent && (sameℤ h.interval absent && (sameℤ h.iod absent && (sameℤ h.c absent
    && (number_fits 1 h.indicator && (number_fits 3 h.a && parts_fit h.b rows)))))

-- ---- 1

unfoldable pub rowless : List (List ℤ) → Bool
rowless [] = true
rowless (r ∷ rs) = false

unfoldable pub mask_fits : Mask → Head → List (List ℤ) → Bool
mask_fits m h rows = sameℤ h.a (pos (length m.systems)) && (sameℤ h.b absent && (sameℤ h.c absent && rowless rows))

-- ---- the table of sub types

-- what a sub type asks: none of ours; free of the holding; behind the common head, under the mask of its issue; behind a mask's head, of the mask itself
pub data Asks : Type 0 where
  never : Asks
  freely : (Head → List (List ℤ) → Bool) → Asks
  under_issue : (Sky → Head → List (List ℤ) → Bool) → Asks
  of_mask : (Mask → Head → List (List ℤ) → Bool) → Asks

unfoldable pub asked : List Asks
asked =
    never
    ∷ of_mask mask_fits
    ∷ under_issue (alone_fits (over_satellites orbit_shape))
    ∷ under_issue (alone_fits (over_satellites clock_shape))
    ∷ under_issue (alone_fits (over_cells code_shape))
    ∷ under_issue (alone_fits (over_cells phase_shape))
    ∷ under_issue (flagged_fits by_cell bias_shape)
    ∷ under_issue (alone_fits (over_satellites accuracy_shape))
    ∷ never ∷ never
    ∷ freely packet_fits
    ∷ under_issue (flagged_fits by_satellite combined_shape)
    ∷ []

unfoldable pub asked_by : ℤ → Asks
asked_by (pos n) = get_or asked n never
asked_by (negsuc n) = never

unfoldable pub fits_as : Asks → Held → Head → List (List ℤ) → Bool
fits_as never held h rows = false
fits_as (freely test) held h rows = test h rows
fits_as (under_issue test) nothing h rows = false
fits_as (under_issue test) (mask m) h rows = common_fits 12 h && (sameℤ h.iod (pos m.iod) && test (sky_of m) h rows)
fits_as (of_mask test) nothing h rows = false
fits_as (of_mask test) (mask m) h rows = common_fits 20 h && (sameℤ h.iod (pos m.iod) && test m h rows)

-- a message of this head and these rows is to be had under this mask, and for sub type 1 of this mask
unfoldable pub fits : Held → Head → List (List ℤ) → Bool
fits held h rows = fits_as (asked_by h.subtype) held h rows
