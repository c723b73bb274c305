-- `bits::write::replaced` meets its contract. Assumes nothing.
use Rattle.bits.proofs.Words.{◌≡◌, ap, ◌∙◌, ℕ, ◌-◌, ◌*◌, ◌/◌, ◌%◌, ◌^◌, arith, rules}
use native.Mathlib.Nat.{mod-eq_of_lt, lt_of_le_of_lt}
use lib.Pow.{shl_exact}
use Rattle.bits.proofs.Stores.{field_le, replaced_lt}
use Rattle.bits.proofs.write.replaced.Statement.{statement}
use Rattle.bits.proofs.write.replaced.Tie as tie

module _ (c : tie.After-cut-old) where
  abbrev y : ℕ
  y = c.args.window

  abbrev w : ℕ
  w = c.args.w

  abbrev t : ℕ
  t = 64 - c.args.skip - w

  abbrev n : ℕ
  n = c.args.value

  -- the shifts lose nothing
  old_exact : c.cut-old.result * 2 ^ t % 2 ^ 64 ≡ y / 2 ^ t % 2 ^ w * 2 ^ t
  old_exact = ap (λ (x : ℕ). x * 2 ^ t % 2 ^ 64) c.cut-old.ensures ∙ mod-eq_of_lt (lt_of_le_of_lt (field_le y w t) c.ranges.window.fits)

  new_exact : n * 2 ^ t % 2 ^ 64 ≡ n * 2 ^ t
  new_exact = shl_exact w t 64 c.requires.2 (omega arith)

pub replaced_spec : {M : Type 1} → statement M
replaced_spec =
    tie.close
    (tie.spec (λ c. search rules) (λ c. search rules) (λ c κs. search rules) (λ c. search rules) (λ c. rw (old_exact c) (field_le (y c) (w c) (t c)))
    (λ c. search rules)
    (λ c. record { fits = rw (old_exact c, new_exact c) (replaced_lt (y c) c.args.skip (w c) (t c) (n c) (omega arith) c.ranges.window.fits c.requires.2) })
    (λ c. rw (old_exact c, new_exact c)))
