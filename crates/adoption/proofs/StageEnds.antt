-- Where the parts of a system end, by the fields that the code took and by their tests. Assumes nothing.
use Rattle.bits.proofs.Words.{◌≡◌, refl, sym, ◌∙◌, subst, Bool, cond, ◌&&◌, not, List, ℕ, ◌+◌, ◌-◌, ◌*◌, ◌^◌, ◌≤◌, ◌<◌, arith, eqb, leb, length}
use native.Mathlib.Nat.{add-zero}
use lib.Count.{ones}
use Rattle.adoption.specs.declared.cells.Masks.{Masks}
use Rattle.adoption.specs.declared.cells.System as cells
use Rattle.adoption.specs.declared.cells.System.TheVariants.{Fine, Refused}
use Rattle.adoption.specs.Stages.{masks_by, with_cells, cell_bits, system_at, HasMasks, FitsSystem}
use Rattle.format.proofs.Ends.{done_end, test_end, bits_there, bits_cut, number_whole, bits_whole, after_field, fits}
use Rattle.format.proofs.Makes.{flag_width}
use Rattle.format.specs.Ends.{Within, end_from}
use Rattle.bits.specs.BitLists.{spell}
use Rattle.bits.specs.declared.read.Short.{Short}
use Rattle.std.specs.Prelude.{Result, Ok}
use Rattle.bits.specs.Short.{taken_at}
use Rattle.format.specs.Assigned.{satellite_places, signal_places, known, assigned}
use Rattle.format.specs.declared.Refusal.TheVariants as Refusal
use Rattle.format.specs.Masks.{System, places_from}
use Rattle.format.specs.Messages.{named, system_id, system_masks, system_signals, system_with}
use Rattle.format.specs.Programs.{Program, well, badly}
use Rattle.heads.specs.declared.Front.{Front}
use Rattle.heads.specs.Fronts.{front_at, Opens}
use Rattle.holding.proofs.Places.{ones_places}

-- the front that was taken at a place
pub opens_at : {bs : List ℕ} {end place : ℕ} → Within bs end place → {f : Front} → f ≡ front_at bs end place → Opens bs f
opens_at {bs} at is = subst (Opens bs) (sym is) (record { within = at; bits = refl })

-- the first bits of a front, as they were taken
pub first_taken : {bs : List ℕ} {f : Front} {r t : Result ℕ Short} → Opens bs f → (w : ℕ) → ((cs : List ℕ) → Opens cs f → r ≡ taken_at cs f.end (f.start + 0) w) → r ≡ t → taken_at bs f.end f.start w ≡ t
first_taken {bs} opens w is e = (rw add-zero at (sym (is bs opens))) ∙ e

-- the same of a known result
pub first_there : {bs : List ℕ} {f : Front} {t : Result ℕ Short} → Opens bs f → (w : ℕ) → ((cs : List ℕ) → Opens cs f → t ≡ taken_at cs f.end (f.start + 0) w) → taken_at bs f.end f.start w ≡ t
first_there {bs} opens w is = rw add-zero at (sym (is bs opens))

module _ {bs : List ℕ} {end place : ℕ} (at : Within bs end place) {n : ℕ} where
  pub id_end : (ids : List ℕ) → taken_at bs end place 4 ≡ Ok n
      → end_from (system_id ids) bs end place ≡ cond (known n && not (named n ids)) (well n (place + 4)) (badly Refusal.System 0)
  unfolding system_id
  id_end ids e = number_whole at 4 e _ ∙ rw (test_end, done_end)

  pub satellites_end : (k id : ℕ) → taken_at bs end place 40 ≡ Ok n
      → end_from (system_masks k id) bs end place
      ≡ cond (assigned satellite_places id (spell 40 n)) (cond (leb (k + ones n) 64) (end_from (system_signals id (spell 40 n)) bs end (place + 40)) (badly Refusal.Size 0)) (badly Refusal.Reserved 0)
  unfolding system_masks system_signals
  satellites_end k id e =
      bits_whole at 40 e _ ∙ rw (test_end, test_end, ← (ones_places 40 n 0 (fits at 40 e)))

  pub signals_end : (id : ℕ) (sats : List Bool) → taken_at bs end place 16 ≡ Ok n
      → end_from (system_signals id sats) bs end place
      ≡ cond (assigned signal_places id (spell 16 n)) (well (record { satellites = sats; signals = spell 16 n }) (place + 16)) (badly Refusal.Reserved 0)
  unfolding system_signals
  signals_end id sats e = bits_whole at 16 e _ ∙ rw (test_end, done_end)

  -- the flag, and whether the bits of the cell mask are there
  module _ (m : Masks) (whole : m.satellites < 2 ^ 40) (long : m.signals < 2 ^ 16) (e : taken_at bs end place 1 ≡ Ok n) {flag : Bool} (is : eqb n 1 ≡ flag) where
    abbrev program : Program System
    program = with_cells m.id (masks_by m.satellites m.signals)

    width_is : n * (length (places_from 0 (spell 40 m.satellites)) * length (places_from 0 (spell 16 m.signals))) ≡ cell_bits m flag
    width_is = rw (← (ones_places 40 m.satellites 0 whole), ← (ones_places 16 m.signals 0 long)) (flag_width n _ (fits at 1 e) ∙ rw is)

    pub cells_cut : end - (place + 1) < cell_bits m flag → end_from program bs end place ≡ badly Refusal.Short (cell_bits m flag - (end - (place + 1)))
    unfolding with_cells
    cells_cut short = number_whole at 1 e _ ∙ rw width_is (bits_cut (after_field at 1 e) (cell_bits m flag) _ short)

    pub cells_there : cell_bits m flag ≤ end - (place + 1) → end_from program bs end place ≡ well (system_at bs m flag (place + 1)) (place + 1 + cell_bits m flag)
    unfolding with_cells system_with system_at
    cells_there room = number_whole at 1 e _ ∙ rw (width_is, is) (bits_there (after_field at 1 e) (cell_bits m flag) _ (omega (arith, (after_field at 1 e).room)) ∙ done_end bs end _ _)

-- a system with masks that fit
pub masks_fit_lem : (m : Masks) (nsat : ℕ) (r : cells.System) → HasMasks m r → m.satellites < 2 ^ 40 → nsat + ones m.satellites ≤ 64 → FitsSystem nsat r
unfolding HasMasks FitsSystem
masks_fit_lem m nsat (Fine k flag place) same whole few = rw same (whole, few)
masks_fit_lem m nsat (Refused r missing) same whole few = tt
