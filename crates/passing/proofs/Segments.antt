-- The bytes of a holding in three segments: the start, what stands by system, the strips. Assumes nothing.
use Rattle.bits.proofs.Words.{◌≡◌, refl, List, ◌∷◌, ◌++◌, map, ℕ, arith, length}
use mathlib.Core.List.{append_assoc}
use lib.ListN.{length-append, length-map}
use Rattle.bits.specs.BitLists.{digit}
use Rattle.holding.specs.declared.Holding.{Holding}
use Rattle.passing.specs.Bytes.{parts, parts_of}
use Rattle.passing.specs.Passing.{bytes_of}
use Rattle.passing.proofs.Parts.{length_parts_of}
use Rattle.holding.proofs.Sounds.{Shaped}

abbrev pub start_of : Holding → List ℕ
start_of h = digit h.held ∷ h.iod ∷ h.count ∷ h.nsat ∷ parts 2 h.ncell

abbrev pub systems_in : Holding → List ℕ
systems_in h = h.ids ++ (map digit h.flags ++ (parts_of 2 h.signals ++ parts_of 8 h.satellites))

abbrev pub strips_in : Holding → List ℕ
strips_in h = parts_of 2 h.strips

pub start_length : (h : Holding) → length (start_of h) ≡ 6
unfolding parts
start_length h = refl

pub systems_length : (h : Holding) → Shaped h → length (systems_in h) ≡ 60
systems_length h sizes =
    let signals = length_parts_of 2 h.signals in
    let satellites = length_parts_of 8 h.satellites in
    simp (length-append, length-map) (omega (arith, signals, satellites, sizes.ids, sizes.flags, sizes.signals, sizes.satellites))

pub strips_length : (h : Holding) → Shaped h → length (strips_in h) ≡ 128
strips_length h sizes = omega (arith, length_parts_of 2 h.strips, sizes.strips)

pub three_segments : (h : Holding) → start_of h ++ (systems_in h ++ strips_in h) ≡ bytes_of h
unfolding bytes_of
three_segments h = rw (append_assoc, append_assoc, append_assoc)
