-- `bits::window::fewer` meets its contract. The loop's invariant: the sum is the number in the bytes passed.
-- Assumes nothing.
use Rattle.bits.proofs.Words.{◌≡◌, sym, ap, ◌∙◌, List, ℕ, ◌+◌, ◌-◌, ◌*◌, ◌%◌, ◌^◌, ◌≤◌, ◌<◌, arith, length, get_or}
use lib.Pow.{pow_mono}
use Rattle.bits.specs.Places.{field}
use Rattle.bits.proofs.Fields.{field_lt, field_past}
use Rattle.bits.proofs.Windows.{grow, moved_up}
use Rattle.bits.proofs.window.fewer.Statement.{statement}
use Rattle.bits.proofs.window.fewer.Tie as tie

abbrev invariant-loop-at : tie.invariant-loop-at
invariant-loop-at bytes i sum₀ at₀ sum at = (i ≤ at) × (at ≤ length bytes) × (sum ≡ field bytes (8 * i) (8 * (at - i)))

abbrev decreases-loop-at : tie.decreases-loop-at
decreases-loop-at bytes i sum₀ at₀ sum at = length bytes - at

-- six bytes at most were passed
small : (c : tie.In-loop-at invariant-loop-at decreases-loop-at) → c.loop-at.sum < 2 ^ 48
small c =
    let x = c.args in
    let few : 8 * (c.loop-at.at - x.i) ≤ 48 = omega arith in
    omega (arith, field_lt x.bytes.now (8 * x.i) (8 * (c.loop-at.at - x.i)), pow_mono few)

loop-again : tie.Need-loop-at-preserved invariant-loop-at decreases-loop-at
loop-again c =
    let x = c.args in
    let bs : List ℕ = x.bytes.now in
    let at : ℕ = c.loop-at.at in
    let more : 8 * (at + 1 - x.i) ≡ 8 * (at - x.i) + 8 = omega arith in
    let here : x.i + (at - x.i) ≡ at = omega arith in (
      omega arith,
      omega arith,
      omega (arith, grow bs (λ k. (c.shared_slice_known-1.given k).fits) x.i (at - x.i), ap (field bs (8 * x.i)) more, ap (λ (k : ℕ). get_or bs k 0) here),
    )

returns : tie.Need-returns invariant-loop-at decreases-loop-at
returns c =
    let x = c.args in
    let bs : List ℕ = x.bytes.now in
    let n : ℕ = length bs - x.i in
    let all : c.loop-at.at - x.i ≡ n = omega arith in
    ap (λ (y : ℕ). y * 2 ^ (64 - 8 * n) % 2 ^ 64) (c.loop-at.invariant.2 ∙ ap (λ (k : ℕ). field bs (8 * x.i) (8 * k)) all)
    ∙ moved_up bs x.i n (64 - 8 * n) (omega arith) (omega arith)

pub fewer_spec : {M : Type 1} → statement M
unfolding field
fewer_spec =
    tie.close
    (tie.spec invariant-loop-at decreases-loop-at (λ c. sym (field_past c.args.bytes.now (8 * c.args.i) 64 (omega arith)))
    (λ c. let x = c.args in let none : 8 * (x.i - x.i) ≡ 0 = omega arith in (omega arith, omega arith, rw none)) (λ c. omega (arith, small c))
    (λ c. omega arith) (λ c. omega (arith, c.shared_slice_known-1.given c.loop-at.at))
    (λ c. omega (arith, small c.before, c.shared_slice_known-1.given c.loop-at.at)) (λ c. omega arith) (λ c. omega arith) loop-again
    (λ c. omega arith) (λ c. omega arith) (λ c. omega arith) (λ c. omega arith) returns)
