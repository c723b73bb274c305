-- A body that is there, and one that is short. Assumes nothing.
use Rattle.bits.proofs.Words.{◌≡◌, refl, ap, List, [], ◌∷◌, ℕ, suc, ◌+◌, ◌-◌, ◌*◌, ◌≤◌, ◌<◌, arith, length}
use native.Mathlib.Nat.{suc-pred-eq_of_pos}
use Rattle.format.specs.declared.Answer.TheVariants as Answers
use Rattle.format.specs.declared.Head.{Head}
use Rattle.format.specs.declared.Refusal.TheVariants.{Short}
use Rattle.format.specs.Masks.{Held, lent}
use Rattle.format.specs.Programs.{well}
use Rattle.format.specs.Reading.{Outcome, accepted, refused, answer_of}
use Rattle.format.specs.Rows.{Line, shape_width, body_width}
use Rattle.format.specs.Table.{Message}
use Rattle.heads.specs.Sorting.{bodied_by, headed_at}
use Rattle.rows.specs.At.{rows_at}
use Rattle.rows.proofs.RowsAt.{rows_at_lem}

-- a row for each line
pub count_at : (lines : List Line) (bs : List ℕ) (at : ℕ) → length (rows_at lines bs at) ≡ length lines
unfolding rows_at
count_at [] bs at = refl
count_at (n ∷ ns) bs at = ap suc (count_at ns bs (at + shape_width n.shape))

-- the message that it makes
abbrev pub body_of : Held → List ℕ → Head → List Line → ℕ → Message
body_of held bs head ls at = record { content = record { head = head; rows = rows_at ls bs at }; after = held }

module _ (held : Held) (bs : List ℕ) (end : ℕ) (head : Head) (ls : List Line) (at : ℕ) where
  abbrev headed : Outcome
  headed = headed_at held bs end (well (record { head = head; lines = ls }) at)

  pub headed_there : at + body_width ls ≤ end → end ≤ 8 * length bs → headed ≡ accepted (body_of held bs head ls at) (at + body_width ls)
  unfolding headed_at bodied_by
  headed_there room inside =
      let none : body_width ls - (end - at) ≡ 0 = omega arith in
      rw (none, rows_at_lem ls bs end at room inside)

  -- its answer, of its extent in bits and rows
  pub body_said : (bits rows : ℕ) → bits ≡ body_width ls → rows ≡ length ls → Answers.Message head (at + bits) rows ≡ answer_of (accepted (body_of held bs head ls at) (at + body_width ls))
  unfolding answer_of
  body_said bits rows e f = rw (e, f, count_at ls bs at)

  pub headed_short : end - at < body_width ls → headed ≡ refused Short (body_width ls - (end - at)) (lent held)
  unfolding headed_at bodied_by
  headed_short over =
      let some : 0 < body_width ls - (end - at) = omega arith in
      rw (← (suc-pred-eq_of_pos some))

-- of no lines none
pub none_at : (lines : List Line) (bs : List ℕ) (at : ℕ) → length lines ≡ 0 → rows_at lines bs at ≡ []
unfolding rows_at
none_at [] bs at e = refl
none_at (n ∷ ns) bs at e = absurd (omega arith)
