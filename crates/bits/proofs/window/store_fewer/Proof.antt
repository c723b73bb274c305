-- `bits::window::store_fewer` meets its contract. The loop's invariant: as many of the window's bytes are set as were passed.
-- Assumes nothing.
use Rattle.bits.proofs.Words.{◌≡◌, refl, ap, ◌∙◌, List, ℕ, ◌-◌, ◌≤◌, add-one, arith, rules, length, get_or, take}
use native.Mathlib.Nat.{zero-add}
use lib.ListN.{set, length-set}
use lib.Seq.{sets}
use Rattle.bits.specs.BitLists.{spell}
use Rattle.bits.proofs.BitLists.{length_bytes}
use Rattle.bits.proofs.Stores.{stored, sets_suc, sets_all}
use Rattle.bits.proofs.window.store_fewer.Statement.{statement}
use Rattle.bits.proofs.window.store_fewer.Tie as tie

abbrev invariant-loop-i : tie.invariant-loop-i
invariant-loop-i bytes₀ window new i₀ bytes i =
    (i ≤ length bytes₀) × (length bytes ≡ length bytes₀) × (bytes ≡ sets bytes₀ 0 (take i new))

abbrev decreases-loop-i : tie.decreases-loop-i
decreases-loop-i bytes₀ window new i₀ bytes i = length bytes₀ - i

loop-again : tie.Need-loop-i-preserved invariant-loop-i decreases-loop-i
loop-again c =
    let s : List ℕ = c.args.bytes.now in
    let new : List ℕ = c.split-new.result in
    let i : ℕ = c.loop-i.i in
    let eight : length new ≡ 8 = ap length c.split-new.ensures ∙ length_bytes 8 (spell 64 c.args.window) in (
      omega arith,
      simp length-set (omega arith),
      rw (add-one i, sets_suc s new 0 i (omega arith), zero-add i) (ap (λ (l : List ℕ). set l i (get_or new i 0)) c.loop-i.invariant.2),
    )

returns : tie.Need-returns invariant-loop-i decreases-loop-i
returns c =
    let x = c.args in
    let s : List ℕ = x.bytes.now in
    let all : c.loop-i.i ≡ length s = omega arith in
    c.loop-i.invariant.2 ∙ ap (λ (k : ℕ). sets s 0 (take k c.split-new.result)) all ∙ sets_all s c.split-new.result
    ∙ ap (sets s 0) c.split-new.ensures ∙ stored s x.window (λ k. (c.slice_known-1.given k).fits)

pub store_fewer_spec : {M : Type 1} → statement M
store_fewer_spec =
    tie.close
    (tie.spec
    invariant-loop-i
    decreases-loop-i
    (λ c κs. search rules)
    (λ c. (omega arith, refl, refl))
    (λ c. omega arith)
    (λ c. omega arith)
    (λ c. omega arith)
    (λ c. omega arith)
    loop-again
    (λ c. omega arith)
    returns)
