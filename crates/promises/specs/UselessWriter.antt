-- Document 01, "How far the promises go": the useless builds of a writer, over its promise. As those of a reader, whatever its code.
use Rattle.std.specs.Prelude.{◌≡◌, Bool, true, ◌&&◌, List, ℕ, ◌*◌, eqb, leb, ℤ, length}
use Rattle.format.specs.Answers.{Done, done}
use Rattle.format.specs.Reading.{row_room, stretch_limit}
use Rattle.holding.specs.Bounds.{below}
use Rattle.host_write.proofs as host_write
use Rattle.host_write.specs.Writes.{head_in}
use Rattle.passing.specs.Passing.{size, holding_in}
use Rattle.promises.specs.RoundTrips.{done_by, done_in}
use Rattle.promises.specs.Useless.{words, Sight, lent_as, shown_as}
use Rattle.writer.proofs as writer

-- ---- a call

-- what code can ask: 194 bytes as a holding, a head of eight numbers, rows within a row buffer, a place of lent bytes
unfoldable pub askable : List ℕ → List ℤ → List ℤ → ℕ → List ℕ → ℕ → Bool
askable holding head rows count bytes start =
    (eqb (length holding) size && below 256 holding)
    && ((eqb (length head) 8 && words head)
    && ((leb (length rows) row_room && (words rows && leb count 256))
    && (leb (length bytes) stretch_limit && (below 256 bytes && leb start (8 * length bytes)))))

pub record Asked : Type 0 where
  pub holding : List ℕ
  pub head : List ℤ
  pub rows : List ℤ
  pub count : ℕ
  pub bytes : List ℕ
  pub start : ℕ
  pub real : askable holding head rows count bytes start ≡ true

-- two that lend the same holding and the same bytes at one start
pub record Beside (c d : Asked) : Type 0 where
  pub holding : c.holding ≡ d.holding
  pub bytes : c.bytes ≡ d.bytes
  pub start : c.start ≡ d.start

-- what is seen of one when it is over: what was said, and the bytes
pub record Left : Type 0 where
  pub said : Done
  pub bytes : List ℕ

-- ---- a writer

-- a part that is the same at any two calls beside each other that are alike
unfoldable pub Fixed : {A : Type 0} → (Asked → Asked → Left → Left → Type 0) → (Left → A) → (Asked → Left) → Type 0
Fixed Alike part f = (c d : Asked) → Beside c d → Alike c d (f c) (f d) → part (f c) ≡ part (f d)

-- both written, of one sub type
unfoldable pub BothDone : Asked → Asked → Left → Left → Type 0
BothDone c d s t = ((m : ℕ) × (s.said ≡ done m)) × (((n : ℕ) × (t.said ≡ done n)) × ((head_in c.head).subtype ≡ (head_in d.head).subtype))

-- of which the same is said
unfoldable pub SaysTheSame : Asked → Asked → Left → Left → Type 0
SaysTheSame c d s t = s.said ≡ t.said

-- asked for one head, or for the same rows
unfoldable pub OneHead : Asked → Asked → Left → Left → Type 0
OneHead c d s t = (c.head ≡ d.head) × (c.count ≡ d.count)

unfoldable pub OneBody : Asked → Asked → Left → Left → Type 0
OneBody c d s t = (c.rows ≡ d.rows) × (c.count ≡ d.count)

pub data UselessWriter (f : Asked → Left) : Type 0 where
  -- "one that refuses everything"
  refuses_everything : ((c : Asked) (next : ℕ) → (f c).said ≡ done next → ⊥) → UselessWriter f
  -- "one with a fixed answer": whatever is asked; or one place after all messages of a sub type
  fixed_answer : Fixed (λ c d s t. Unit {0}) (λ s. s.said) f → UselessWriter f
  fixed_place : Fixed BothDone (λ s. s.said) f → UselessWriter f
  -- fixed bits: wherever it says the same; whatever the rows are, under one head; whatever the head is, with the same rows
  fixed_bits : Fixed SaysTheSame (λ s. s.bytes) f → UselessWriter f
  ignores_rows : Fixed OneHead (λ s. s.bytes) f → UselessWriter f
  ignores_head : Fixed OneBody (λ s. s.bytes) f → UselessWriter f
  -- "one that does nothing": leaves the bytes, though it says that it wrote
  writes_nothing : ((c : Asked) (next : ℕ) → (f c).said ≡ done next → (f c).bytes ≡ c.bytes) → UselessWriter f

-- ---- the two functions that write

unfoldable pub writes : Sight writer.write.Kinds.ps writer.write.Kinds.r Asked Left
writes =
    record {
      args = λ κs c. (holding_in c.holding, (head_in c.head, (shown_as 1 c.rows, (c.count, (lent_as 2 c.bytes, (c.start, tt))))));
      seen = λ κs c x v. record { said = done_by c.start x; bytes = v.1.1.1.1.0 };
    }

unfoldable pub host_writes : Sight host_write.hundurzek_write.Kinds.ps host_write.hundurzek_write.Kinds.r Asked Left
host_writes =
    record {
      args = λ κs c. (shown_as 0 c.holding, (shown_as 1 c.head, (shown_as 2 c.rows, (c.count, (lent_as 3 c.bytes, (c.start, tt))))));
      seen = λ κs c x v. record { said = done_in x; bytes = v.1.1.1.1.0 };
    }
