-- The walk: single readings from place 0 on, each going on where the one before ended, until idle or a refusal.
use Rattle.std.specs.Prelude.{List, [], ◌∷◌, ℕ, zero, suc, ◌+◌, ◌-◌, ℤ, length}
use Rattle.format.specs.Masks.{Lent, lent}
use Rattle.format.specs.Messages.{Content}
use Rattle.format.specs.Table.{Kind, Message, table}
use Rattle.format.specs.Reading.{Outcome, accepted, idle, refused, reading_by, rows_after}

-- an accepted answer: where its message begins, the place after it, what it says
pub record HandedOut : Type 0 where
  pub place : ℕ
  pub next : ℕ
  pub content : Content

abbrev pub handed_at : ℕ → Message → ℕ → HandedOut
handed_at place m next = record { place = place; next = next; content = m.content }

-- what a receiver hands out, in order; how and where it stops; what the row buffer then holds
pub record Walk : Type 0 where
  pub handed : List HandedOut
  pub stop : Outcome
  pub place : ℕ
  pub rows : List ℤ

unfoldable pub hand : HandedOut → Walk → Walk
hand d w = record { handed = d ∷ w.handed; stop = w.stop; place = w.place; rows = w.rows }

-- goes on with an accepted answer only
unfoldable pub go_on : Outcome → ℕ → List ℤ → (Message → ℕ → Walk) → Walk
go_on (accepted m next) place rows more = hand (handed_at place m next) (more m next)
go_on (idle holding) place rows more = record { handed = []; stop = idle holding; place = place; rows = rows }
go_on (refused r missing holding) place rows more = record { handed = []; stop = refused r missing holding; place = place; rows = rows }

-- by fuel, of which one more than the bits left suffices (proofs/Walks.antt): each message takes some
unfoldable pub walk_from : (ℕ → Kind) → ℕ → Lent → List ℕ → ℕ → ℕ → List ℤ → Walk
walk_from t zero holding bytes end place rows = record { handed = []; stop = idle holding; place = place; rows = rows }
walk_from t (suc fuel) holding bytes end place rows =
    go_on (reading_by t holding bytes end place rows) place rows
    (λ m next. walk_from t fuel (lent m.after) bytes end next (rows_after (accepted m next) rows))

-- from a place on
unfoldable pub walk_on : (ℕ → Kind) → Lent → List ℕ → ℕ → ℕ → List ℤ → Walk
walk_on t holding bytes end place rows = walk_from t (suc (end - place)) holding bytes end place rows

abbrev pub walk : Lent → List ℕ → ℕ → List ℤ → Walk
walk holding bytes end rows = walk_on table holding bytes end 0 rows

-- ---- what the walk answers

unfoldable pub messages : Walk → ℕ
messages w = length w.handed

unfoldable pub row_count : List HandedOut → ℕ
row_count [] = 0
row_count (d ∷ ds) = length d.content.rows + row_count ds
