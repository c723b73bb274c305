-- Document 01, "Lengths": the sum that a message's head and the masks fix, by sub type.
use Rattle.std.specs.Prelude.{cond, List, [], ◌∷◌, ℕ, suc, ◌+◌, ◌*◌, eqb, ℤ, pos, nat_abs, length, get_or}
use Rattle.format.specs.Masks.{Mask, Held, nothing, mask, satellites, cells}
use Rattle.format.specs.Messages.{Content}
use Rattle.format.specs.Rows.{absent}
use Rattle.format.specs.Same.{sameℤ}

unfoldable pub total : {A : Type 0} → (A → ℕ) → List A → ℕ
total size [] = 0
total size (x ∷ xs) = size x + total size xs

-- 49 per satellite, 51 for Galileo
unfoldable pub orbit_bits : ℕ → ℕ
orbit_bits system = cond (eqb system 2) 51 49

-- the selected fields of sub type 11, satellite by satellite as the rows name them
unfoldable pub combined_bits : ℤ → ℤ → List ℤ → ℕ
combined_bits orbit clock row = cond (sameℤ orbit (pos 1)) (orbit_bits (nat_abs (get_or row 0 absent))) 0 + cond (sameℤ clock (pos 1)) 15 0

-- and of sub type 6, the same for each selected cell
unfoldable pub bias_bits : ℤ → ℤ → ℕ
bias_bits code phase = cond (sameℤ code (pos 1)) 11 0 + cond (sameℤ phase (pos 1)) 17 0

-- before these: 40, and 5 + Nsat with a network
unfoldable pub flagged_bits : ℤ → ℕ → ℕ
flagged_bits network sats = 40 + cond (sameℤ network absent) 0 (5 + sats)

-- 49 plus 61 and the cell bits per system; 37 + 49 per satellite (51 for Galileo); 37 + 15 Nsat; 37 + 11 cells; 37 + 17 cells; 22 + 40(size + 1);
-- for 11, 40 + (5 + Nsat with a network) + the selected fields. Document 02, Ask 1: for 6 the same with its own fields; 37 + 6 Nsat
unfoldable pub lengths : Mask → Content → List ℕ
lengths m c =
    let sats = satellites m.systems in
    let h = c.head in
    0
    ∷ (49 + total (λ s. 61 + length s.cells) m.systems)
    ∷ (37 + total (λ s. orbit_bits s.system) sats)
    ∷ (37 + 15 * length sats)
    ∷ (37 + 11 * length (cells m.systems))
    ∷ (37 + 17 * length (cells m.systems))
    ∷ (flagged_bits h.c (length sats) + bias_bits h.a h.b * length c.rows)
    ∷ (37 + 6 * length sats)
    ∷ 0 ∷ 0
    ∷ (22 + 40 * suc (nat_abs h.b))
    ∷ (flagged_bits h.c (length sats) + total (combined_bits h.a h.b) c.rows)
    ∷ []

-- the mask is the one held after the message; sub type 10 needs none
unfoldable pub mask_or : Held → Mask
mask_or nothing = record { iod = 0; systems = [] }
mask_or (mask m) = m

unfoldable pub length_of : Held → Content → ℕ
length_of held c = get_or (lengths (mask_or held) c) (nat_abs c.head.subtype) 0
