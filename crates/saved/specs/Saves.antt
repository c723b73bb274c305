-- How saving ends, in code, and what that says on paper.
use Rattle.std.specs.Prelude.{ℕ, Result, Ok, Err}
use Rattle.format.specs.declared.Refusal.{Refusal}
use Rattle.format.specs.Answers.{Done, done, undone_at}
use Rattle.format.specs.Saved.{Saved, saved, unsaved}

unfoldable pub saving_by : Saved → Result ℕ Refusal
saving_by (saved n) = Ok n
saving_by (unsaved r) = Err r

-- the line's length, or the refusal's number at 0
unfoldable pub done_by : Result ℕ Refusal → Done
done_by (Ok n) = done n
done_by (Err r) = undone_at 0 r
