-- A reading by what opens its message: number and sub type, and then its kind; or refused before that, or idle. Assumes nothing.
use Rattle.bits.proofs.Words.{◌≡◌, sym, ◌∙◌, cond, List, ℕ, ◌+◌, ◌-◌, ◌<◌, arith, eqb}
use native.Mathlib.Nat.{le_refl}
use borrow.Author.Tests.{ne_eqb, eqb-true}
use Rattle.bits.specs.Places.{field}
use Rattle.bits.proofs.Fields.{field_lt, zero_part}
use Rattle.format.specs.declared.Refusal.{Refusal}
use Rattle.format.specs.Masks.{Held, lent}
use Rattle.format.specs.declared.Refusal.TheVariants.{Number}
use Rattle.format.specs.Ends.{Within, end_from}
use Rattle.format.specs.Programs.{done, well, badly, run}
use Rattle.format.specs.Reading.{idle, refused, ended_at, read_from, bits_from}
use Rattle.format.specs.Table.{table, by_kind, opening, message_by}
use Rattle.format.proofs.Ends.{done_end, test_began, onward, number_began, then_well, then_badly}
use Rattle.format.proofs.Placed.{blank_from}
use Rattle.heads.proofs.Sorted.{ended_by, ended_from}
use Rattle.table.specs.Kinds.{kind_for, kind_by}
use Rattle.table.proofs.Tabled.{table_means}

module _ {bs : List ℕ} {end place : ℕ} (at : Within bs end place) where
  -- number and sub type were read
  pub record TypeTaken (n next : ℕ) : Type 0 where
    pub ends : next ≡ place + 16
    pub after : Within bs end (place + 16)
    pub ours : field bs place 12 ≡ 4073
    pub small : n < 16

  pub type_taken : {n next : ℕ} → end_from opening bs end place ≡ well n next → TypeTaken n next
  unfolding opening
  type_taken {n} {next} e =
      let number = number_began at 12 _ e in
      let ours = test_began bs end (place + 12) (eqb (field bs place 12) 4073) Number _ number.1 in
      let behind = number_began (onward at number.0) 4 done ours.1 in
      let it = sym (done_end bs end (place + 12 + 4) (field bs (place + 12) 4)) ∙ behind.1 in
      let same : field bs (place + 12) 4 ≡ n = cc in
      let stop : place + 12 + 4 ≡ next = cc in
      record { ends = omega arith; after = onward at (omega (arith, behind.0)); ours = eqb-true (field bs place 12) 4073 ours.0; small = omega (arith, field_lt bs (place + 12) 4) }

  module _ (held : Held) where
    -- some bit is set, then, and its kind says the rest
    pub read_opened : {n next : ℕ} → end_from opening bs end place ≡ well n next
        → read_from table held place (bits_from bs end place) ≡ ended_at held (place + 16) (run (by_kind (kind_by n (kind_for n)) held) (bits_from bs end (place + 16)))
    unfolding read_from message_by end_from
    read_opened {n} e =
        let o = type_taken e in
        let some = ne_eqb (field bs place (end - place)) 0 (λ none. omega (arith, o.ours, zero_part bs place end place 12 (le_refl place) (omega (arith, o.after)) none)) in
        rw (blank_from bs end place at.inside at.room, some, ended_from held place, then_well at opening (λ s. by_kind (table s) held) e, o.ends, table_means n) (sym (ended_from held (place + 16) _))

    pub read_unopened : {r : Refusal} {missing : ℕ} → end_from opening bs end place ≡ badly r missing
        → read_from table held place (bits_from bs end place) ≡ cond (eqb (field bs place (end - place)) 0) (idle (lent held)) (refused r missing (lent held))
    unfolding read_from message_by end_from ended_by
    read_unopened e = rw (blank_from bs end place at.inside at.room, ended_from, then_badly at opening (λ s. by_kind (table s) held) e)
