-- A program that runs over the bits of a string from a place on, and the place where it ends.
use Rattle.std.specs.Prelude.{List, ℕ, ◌*◌, ◌^◌, ◌≤◌, ◌<◌, length}
use Rattle.format.specs.Programs.{Program, Ended, later, run}
use Rattle.format.specs.Reading.{bits_from}

-- a place of a string whose bits end within it
pub record Within (bytes : List ℕ) (end place : ℕ) : Type 0 where
  pub inside : end ≤ 8 * length bytes
  pub short : end < 2 ^ 32
  pub room : place ≤ end

unfoldable pub end_from : {A : Type 0} → Program A → List ℕ → ℕ → ℕ → Ended A
end_from p bytes end place = later place (run p (bits_from bytes end place))
