-- How loading ends, in code, and what that says on paper.
use Rattle.std.specs.Prelude.{List, ℕ, Result, Ok, Err, length}
use Rattle.format.specs.declared.Refusal.{Refusal}
use Rattle.format.specs.Answers.{Done, done, undone_at}
use Rattle.format.specs.Masks.{nothing}
use Rattle.format.specs.Saved.{Loaded, loaded, unloaded}
use Rattle.holding.specs.Outlines.{whole_of}
use Rattle.holding.specs.Pictures.{picture_of}
use Rattle.saved.specs.declared.Loading.{Loading}
use Rattle.saved.specs.declared.LoadingParts.{LoadingParts}

-- the answer with the holding in parts, together again
abbrev pub loading_of : LoadingParts → List ℕ → List ℕ → Loading
loading_of r satellites strips = record { answer = r.answer; holding = whole_of r.outline satellites strips }

-- the holding that is handed back, the empty one beside a refusal
unfoldable pub loading_by : Loaded → Loading
loading_by (loaded held) = record { answer = Ok tt; holding = picture_of held }
loading_by (unloaded r) = record { answer = Err r; holding = picture_of nothing }

-- how long the line is, or the refusal's number at 0
unfoldable pub done_loaded : List ℕ → Result (Unit {0}) Refusal → Done
done_loaded line (Ok _) = done (length line)
done_loaded line (Err r) = undone_at 0 r
