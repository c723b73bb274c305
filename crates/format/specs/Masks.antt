-- Masks, and the satellites and cells that they name, in order.
use Rattle.std.specs.Prelude.{Bool, true, false, cond, ◌&&◌, ℕ, suc, eqb}
use mathlib.Core.List.{List, [], ◌∷◌, map, flat_map}

-- one system of a mask message: the cell mask is empty where the cell flag is 0
pub record System : Type 0 where
  pub id : ℕ
  pub satellites : List Bool
  pub signals : List Bool
  pub flag : Bool
  pub cells : List Bool

-- systems stand in the order sent
pub record Mask : Type 0 where
  pub iod : ℕ
  pub systems : List System

-- a fresh receiver holds nothing, not even an issue number
pub data Held : Type 0 where
  nothing : Held
  mask : Mask → Held

-- What is lent as a holding: bytes or a struct that say none, or what they hold. Document 01's 12 is for the first, and for a mask that no good mask message makes.
pub data Lent : Type 0 where
  stray : Lent
  lent : Held → Lent

-- what it holds: nothing where it is no holding
unfoldable pub held_in : Lent → Held
held_in stray = nothing
held_in (lent held) = held

-- a satellite, by its system and its number, and a cell, a satellite with a signal that counts for it
pub record Satellite : Type 0 where
  pub system : ℕ
  pub number : ℕ

pub record Cell : Type 0 where
  pub satellite : Satellite
  pub signal : ℕ

-- the places that are set, the first bit's being k
unfoldable pub places_from : ℕ → List Bool → List ℕ
places_from k [] = []
places_from k (true ∷ l) = k ∷ places_from (suc k) l
places_from k (false ∷ l) = places_from (suc k) l

-- those of a list that the bits select
unfoldable pub pick : {A : Type 0} → List Bool → List A → List A
pick [] xs = []
pick (b ∷ bs) [] = []
pick (true ∷ bs) (x ∷ xs) = x ∷ pick bs xs
pick (false ∷ bs) (x ∷ xs) = pick bs xs

-- satellite number is place + 1
unfoldable pub satellites_of : System → List Satellite
satellites_of s = map (λ place. record { system = s.id; number = suc place }) (places_from 0 s.satellites)

-- satellite by satellite, each with every signal
unfoldable pub pairs_of : System → List Cell
pairs_of s = flat_map (λ sat. map (λ place. record { satellite = sat; signal = place }) (places_from 0 s.signals)) (satellites_of s)

-- with flag 0 every signal counts for every satellite; a zero bit of the cell mask is no cell
unfoldable pub cells_of : System → List Cell
cells_of s = cond s.flag (pick s.cells (pairs_of s)) (pairs_of s)

unfoldable pub satellites : List System → List Satellite
satellites systems = flat_map satellites_of systems

unfoldable pub cells : List System → List Cell
cells systems = flat_map cells_of systems

-- of some cells those of one satellite
unfoldable pub same_satellite : Satellite → Satellite → Bool
same_satellite s t = eqb s.system t.system && eqb s.number t.number

unfoldable pub cells_on : List Cell → Satellite → List Cell
cells_on [] s = []
cells_on (c ∷ cs) s = cond (same_satellite c.satellite s) (c ∷ cells_on cs s) (cells_on cs s)

-- what a mask names, in order: a message's rows go over these
pub record Sky : Type 0 where
  pub satellites : List Satellite
  pub cells : List Cell

unfoldable pub sky_of : Mask → Sky
sky_of m = record { satellites = satellites m.systems; cells = cells m.systems }
