-- The rows from the i-th on are still to get their values.
use Rattle.bits.proofs.Words.{◌≡◌, ◌++◌, ◌+◌, ◌-◌, ◌*◌, ◌≤◌, length, take, drop}
use Rattle.body.specs.Near.{valued}
use Rattle.body.proofs.near.values.Given as goal

abbrev pub invariant-loop-i : goal.invariant-loop-i
invariant-loop-i l =
    let n = l.fn.placed.rows in
    (length l.rows ≡ length l.initial.rows) × (l.place ≤ l.fn.placed.at + 71 * l.i)
    × (take (8 * l.i) l.rows ++ valued l.s l.bytes (n - l.i) l.place (drop (8 * l.i) l.rows) ≡ valued l.s l.bytes n l.fn.placed.at l.initial.rows)
