-- The part of a byte string that holds a range of its bits, from the byte with the first to the byte with the last.
use Rattle.std.specs.Prelude.{◌≡◌, cond, List, ℕ, ◌+◌, ◌-◌, ◌/◌, ltb, take, drop}
use Rattle.std.specs.Borrow.{Bor}

-- the byte at which the part begins; 0 for an empty range
unfoldable pub start_of : ℕ → ℕ → ℕ
start_of from to = cond (ltb from to) (from / 8) 0

-- how many bytes it has; none for an empty range
unfoldable pub count_of : ℕ → ℕ → ℕ
count_of from to = cond (ltb from to) ((to - 1) / 8 + 1 - from / 8) 0

unfoldable pub part_of : List ℕ → ℕ → ℕ → List ℕ
part_of bs from to = take (count_of from to) (drop (start_of from to) bs)

-- A slice that is that part of another: its bytes, and where it lies, in the same memory from that byte on.
pub record IsPart (whole part : Bor (List ℕ)) (from to : ℕ) : Type 0 where
  pub bytes : part.now ≡ part_of whole.now from to
  pub memory : part.ref_ptr.0 ≡ whole.ref_ptr.0
  pub offset : part.ref_ptr.1 ≡ whole.ref_ptr.1 + start_of from to
