-- A row's key as the code makes it of an unsigned number. Assumes nothing.
use Rattle.bits.proofs.Words.{◌≡◌, ap, ◌∙◌, List, ◌∷◌, ℕ, ◌^◌, ◌<◌, ℤ, pos}
use mir.Facts.{to_z_pos}
use mir.Syntax.{w32}
use mir.Val.{to_z}

pub key : (n m : ℕ) → n < 2 ^ 31 → n ≡ m → to_z w32 n ≡ pos m
key n m small e = to_z_pos w32 {n = n} small ∙ ap pos e

-- a row with its keys so made
pub keyed : {a b c x y z : ℤ} (values : List ℤ) → a ≡ x → b ≡ y → c ≡ z → a ∷ b ∷ c ∷ values ≡ x ∷ y ∷ z ∷ values
keyed values p q r = λ i. p i ∷ q i ∷ r i ∷ values
