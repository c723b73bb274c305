-- `bits::write::write_field` meets its contract. Assumes nothing.
use Rattle.bits.proofs.Words.{sym, ap, ◌∙◌, ℕ, arith, rules}
use Rattle.bits.specs.BitLists.{set_field}
use Rattle.bits.proofs.Setting.{set_field_none}
use Rattle.bits.proofs.Stores.{set_in_window}
use Rattle.bits.proofs.write.write_field.Statement.{statement}
use Rattle.bits.proofs.write.write_field.Tie as tie

returns-then-w-eq0 : tie.Need-returns-then-w-eq0
returns-then-w-eq0 c =
    let x = c.args in
    sym
    (ap (λ (k : ℕ). set_field x.part.now x.skip k x.value) c.if-w-eq0.true
    ∙ set_field_none x.part.now x.skip x.value (λ k. (c.slice_known-1.given k).fits))

returns-then-part-ge8 : tie.Need-returns-then-part-ge8
returns-then-part-ge8 c =
    let x = c.args in
    cc (set_in_window x.part.now x.skip x.w x.value (omega arith) (omega arith) (omega arith))

returns : tie.Need-returns
returns c =
    let x = c.args in
    cc (set_in_window x.part.now x.skip x.w x.value (omega arith) (omega arith) (omega arith))

pub write_field_spec : {M : Type 1} → statement M
write_field_spec =
    tie.close
    (tie.spec returns-then-w-eq0 (λ c κs. search rules) (λ c κs. search rules) (λ c κs. search rules) (λ c. search rules) returns-then-part-ge8 (λ c κs. search rules) (λ c κs. search rules) (λ c κs. search rules) (λ c. search rules) returns)
