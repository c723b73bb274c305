-- Document 02, Ask 7: at which of a program's fields a run is short, and what it says that so many bits are missing.
use Rattle.std.specs.Prelude.{◌≡◌, Bool, true, cond, List, ◌++◌, ◌⊎◌, ℕ, suc, ◌-◌, ◌≤◌, ◌<◌, leb, length, take, drop}
use Rattle.bits.specs.BitLists.{bits}
use Rattle.format.specs.declared.Refusal.{Refusal}
use Rattle.format.specs.declared.Refusal.TheVariants.{Short}
use Rattle.format.specs.Answers.{number_of}
use Rattle.format.specs.Programs.{Program, done, refuse, field, badly, run}
use Rattle.format.specs.Reading.{placed}

-- how many fields are there whole before a run ends: where it is short, it is short at the next one
unfoldable pub whole_fields : {A : Type 0} → Program A → List Bool → ℕ
whole_fields (done a) l = 0
whole_fields (refuse r) l = 0
whole_fields (field w next) l = cond (leb w (length l)) (suc (whole_fields (next (take w l)) (drop w l))) 0

-- so many bits are missing of the field at which these bits are short: "the needed bits less those left, always 1 or more"
pub record Lacks {A : Type 0} (p : Program A) (l : List Bool) (missing : ℕ) : Type 0 where
  pub some : 0 < missing
  -- with fewer bits more behind them, whatever they are, it is short at the same field still, by that many less
  pub fewer : (more : List Bool) → length more < missing → run p (l ++ more) ≡ badly Short (missing - length more)
  pub still : (more : List Bool) → length more < missing → whole_fields p (l ++ more) ≡ whole_fields p l
  -- with that many or more, whatever they are, that field is there
  pub enough : (more : List Bool) → missing ≤ length more → whole_fields p l < whole_fields p (l ++ more)

-- a refusal says 3 and some bits, or another number and none
abbrev pub Reason : Refusal → ℕ → Type 0
Reason r missing = ((r ≡ Short) × (0 < missing)) ⊎ (¬ (number_of r ≡ number_of Short) × (missing ≡ 0))

-- the same stretch with more bits behind its end
pub record LongerBy (more : List Bool) (bytes : List ℕ) (end : ℕ) (others : List ℕ) (far : ℕ) : Type 0 where
  pub is : placed others far 0 ≡ true
  pub bits : take far (bits others) ≡ take end (bits bytes) ++ more
