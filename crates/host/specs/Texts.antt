-- What the host is handed of lines of text: docs/HOST.md, `hundurzek_save`, `hundurzek_load` and `hundurzek_line`.
use Rattle.std.specs.Prelude.{Bool, true, false, List, [], ◌∷◌, ℕ, Result, Ok, Err, ◌+◌, ◌/◌, leb, length}
use Rattle.format.specs.declared.Refusal.{Refusal}
use Rattle.format.specs.declared.Refusal.TheVariants.{Room, Value}
use Rattle.format.specs.Answers as Answers
use Rattle.format.specs.Answers.{done, undone, undone_at, number_of}
use Rattle.format.specs.Listing.{Line, says, bad, bytes_said}
use Rattle.format.specs.Masks.{nothing}
use Rattle.format.specs.Reading.{over}
use Rattle.format.specs.Saved as Saved
use Rattle.format.specs.Saved.{loaded, unloaded}
use Rattle.format.specs.Tests.{verdict}
use Rattle.holding.specs.Pictures.{picture_of}
use Rattle.host.specs.declared.texts.Done.{Done}
use Rattle.host.specs.declared.texts.Loaded.{Loaded}
use Rattle.passing.specs.Passing.{bytes_of}

-- the answer to what is done
abbrev pub done_number : ℕ
done_number = 255

-- beside it the start, and how long a line is; beside a refusal the start asked for, and 0
unfoldable pub done_handed : Answers.Done → Done
done_handed (done n) = record { answer = done_number; place = 0; count = n }
done_handed (undone number place) = record { answer = number; place = place; count = 0 }

-- ---- a holding as a line

-- the number of the answer to loading
unfoldable pub answer_loaded : Result (Unit {0}) Refusal → ℕ
answer_loaded (Ok _) = done_number
answer_loaded (Err r) = number_of r

-- and the bytes of what a line says, those of the empty holding beside a refusal
unfoldable pub loaded_to : Saved.Loaded → Loaded
loaded_to (loaded held) = record { answer = done_number; holding = bytes_of (picture_of held) }
loaded_to (unloaded r) = record { answer = number_of r; holding = bytes_of (picture_of nothing) }

-- ---- a line of the listing's input

-- How taking a line's stretch ends: with its bits, or refused.
pub data Taken : Type 0 where
  taken : List Bool → Taken
  untaken : Refusal → Taken

unfoldable pub is_stretch : Line → Bool
is_stretch (says l) = true
is_stretch bad = false

unfoldable pub stretch_in : Line → List Bool
stretch_in (says l) = l
stretch_in bad = []

-- into a lent buffer: 12 comes before 1
unfoldable pub taking : Line → List ℕ → Taken
taking line buffer =
    let l = stretch_in line in
    verdict untaken (taken l)
    (record { holds = is_stretch line; else = Value }
    ∷ record { holds = leb ((length l + 7) / 8) (length buffer); else = Room }
    ∷ [])

-- what it answers: how long the stretch is, or the refusal's number at 0
unfoldable pub done_taking : Taken → Answers.Done
done_taking (taken l) = done (length l)
done_taking (untaken r) = undone_at 0 r

-- later bytes stay
unfoldable pub stretch_after : Taken → List ℕ → List ℕ
stretch_after (taken l) buffer = over (bytes_said l) buffer
stretch_after (untaken r) buffer = buffer
