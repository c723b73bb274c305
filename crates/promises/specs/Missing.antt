-- Document 02, Ask 7: what the number of missing bits says that a stop has.
use Rattle.std.specs.Prelude.{◌≡◌, List, ◌⊎◌, ℕ}
use Rattle.format.specs.declared.Refusal.TheVariants.{Short}
use Rattle.format.specs.Answers.{number_of}
use Rattle.format.specs.Masks.{Held}
use Rattle.format.specs.Missing.{Lacks}
use Rattle.format.specs.Reading.{bits_from}
use Rattle.format.specs.Table.{message}

-- at a place of a stretch, by what is held there: 3, and so many bits are missing of the field at which the message is short that begins there; or another
-- number, and none are missing
abbrev pub Tells : Held → List ℕ → ℕ → ℕ → ℕ → ℕ → Type 0
Tells held bytes end place number missing =
    ((number ≡ number_of Short) × Lacks (message held) (bits_from bytes end place) missing) ⊎ (¬ (number ≡ number_of Short) × (missing ≡ 0))
