-- The last tests, 12 and 1, one way or the other. Assumes nothing.
use Rattle.bits.proofs.Words.{◌≡◌, ap, ◌∙◌, Bool, true, false, List, ℕ, ◌+◌, ◌≤◌, ◌<◌, length}
use borrow.Author.Tests.{le-leb, lt-leb}
use Rattle.format.specs.declared.Refusal.TheVariants.{Room, Value}
use Rattle.format.specs.Tests.{verdict}
use Rattle.format.specs.Writing.{wrote, refused, limit}
use Rattle.writer.specs.Stages.{last_tests, behind}

module _ (bits : List Bool) (bytes : List ℕ) (start : ℕ) where
  -- 12
  pub unfit : {right : Bool} → right ≡ false → behind right bits bytes start ≡ refused Value
  unfolding behind last_tests verdict
  unfit wrong = ap (λ (b : Bool). behind b bits bytes start) wrong

  -- 1
  pub roomless : {right : Bool} → right ≡ true → limit bytes < start + length bits → behind right bits bytes start ≡ refused Room
  unfolding behind last_tests verdict
  roomless fine past = ap (λ (b : Bool). behind b bits bytes start) fine ∙ rw (lt-leb (start + length bits) (limit bytes) past)

  -- neither
  pub done : {right : Bool} → right ≡ true → start + length bits ≤ limit bytes → behind right bits bytes start ≡ wrote bits
  unfolding behind last_tests verdict
  done fine inside = ap (λ (b : Bool). behind b bits bytes start) fine ∙ rw (le-leb (start + length bits) (limit bytes) inside)
