-- A selection moved up by one for each satellite passed. Assumes nothing.
use Rattle.bits.proofs.Words.{◌≡◌, sym, ap, ◌∙◌, ℕ, suc, ◌-◌, ◌*◌, ◌%◌, ◌^◌, ◌≤◌, ◌<◌, arith}
use native.Mathlib.Nat.{pow-suc, mul_assoc, mul-one, mod-eq_of_lt, sub-zero}

-- of all satellites some are left, and the selection was moved up by the others
pub record Moved (chosen all left marks : ℕ) : Type 0 where
  pub marked : marks ≡ chosen * 2 ^ (all - left) % 2 ^ 64
  pub some : left ≤ all

twice : (n : ℕ) → n % 2 ^ 64 * 2 ^ 1 % 2 ^ 64 ≡ n * 2 % 2 ^ 64
twice n = omega arith

pub moved_start : (chosen all : ℕ) → chosen < 2 ^ 64 → Moved chosen all all chosen
moved_start chosen all small =
    let none : all - all ≡ 0 = omega arith in
    record { marked = rw none (sym (ap (λ (n : ℕ). n % 2 ^ 64) (mul-one chosen) ∙ mod-eq_of_lt small)); some = omega arith }

pub moved_next : {chosen all left marks : ℕ} (rest : ℕ) → left ≡ suc rest → Moved chosen all left marks → Moved chosen all rest (marks * 2 ^ 1 % 2 ^ 64)
moved_next {chosen} {all} {left} rest e m =
    let n : ℕ = all - left in
    let more : all - rest ≡ suc n = omega (arith, m.some) in
    record {
      marked =
          ap (λ (x : ℕ). x * 2 ^ 1 % 2 ^ 64) m.marked ∙ twice (chosen * 2 ^ n)
          ∙ ap (λ (x : ℕ). x % 2 ^ 64) (mul_assoc chosen (2 ^ n) 2 ∙ ap (λ (x : ℕ). chosen * x) (sym (pow-suc 2 n)))
          ∙ ap (λ (k : ℕ). chosen * 2 ^ k % 2 ^ 64) (sym more);
      some = omega (arith, m.some);
    }

pub moved_end : {chosen all left marks : ℕ} → left ≡ 0 → Moved chosen all left marks → marks ≡ chosen * 2 ^ all % 2 ^ 64
moved_end {chosen} {all} none m = m.marked ∙ rw (none, sub-zero all)
