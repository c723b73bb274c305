-- `adoption::head_at` meets its contract. Assumes nothing.
use Rattle.bits.proofs.Words.{◌≡◌, ap, ◌∙◌, ℕ, ◌+◌, ◌/◌, ◌%◌, ◌^◌, ◌<◌, arith, rules, ℤ}
use native.Mathlib.Nat.{add-zero}
use lib.IntN.{pos}
use mir.Facts.{to_z_pos}
use mir.Syntax.{w32}
use Rattle.adoption.specs.Adoptions.{head_at}
use Rattle.bits.proofs.Fields.{field_lt}
use Rattle.bits.proofs.Windows.{in_field}
use Rattle.bits.specs.Places.{field}
use Rattle.format.specs.Messages.{mask_type}
use Rattle.format.specs.Rows.{absent}
use Rattle.heads.specs.declared.CommonHead.{CommonHead}
use Rattle.heads.specs.Headings.{head_with}
use Rattle.heads.specs.Heads.{Small, head_from}
use Rattle.adoption.proofs.head_at.Statement.{statement}
use Rattle.adoption.proofs.head_at.Tie as tie

-- the fields of a common head of 29 bits
small : (n : ℕ) → n < 2 ^ 29 → Small (head_from n)
unfolding head_from
small n fit = record { epoch = omega arith; interval = omega arith; indicator = omega arith; iod = omega arith }

-- both parts are fields of the string
module _ (c : tie.After-cut-n) where
  abbrev q : tie.After-parted-h
  q = c.before

  abbrev s : tie.Start
  s = q.before.before.before.before

  abbrev first : ℕ
  first = field s.args.bytes.now s.args.place 29

  abbrev count : ℕ
  count = field s.args.bytes.now (s.args.place + 29) 4

  head_is : q.parted-h.result ≡ head_from first
  head_is =
      q.parted-h.ensures
      ∙ ap head_from
      (q.cut.ensures ∙ ap (λ (b : ℕ). b / 2 ^ 27 % 2 ^ 29) q.read_field-front.ensures ∙ in_field _ s.args.place 56 0 29 27 (omega arith) ∙ ap (λ (p : ℕ). field s.args.bytes.now p 29) (add-zero _))

  count_is : c.cut-n.result ≡ count
  count_is = c.cut-n.ensures ∙ ap (λ (b : ℕ). b / 2 ^ 23 % 2 ^ 4) q.read_field-front.ensures ∙ in_field _ s.args.place 56 29 4 23 (omega arith)

  few : c.cut-n.result < 16
  few = omega (arith, count_is, field_lt s.args.bytes.now (s.args.place + 29) 4)

returns : tie.Need-returns
unfolding head_at
returns c =
    let k = c.before in
    c.head.ensures
    ∙ ap (λ (z : ℤ). head_with mask_type (q k).parted-h.result z absent absent) (to_z_pos w32 {n = k.cut-n.result} (omega (arith, few k)) ∙ ap pos (count_is k))
    ∙ ap (λ (h : CommonHead). head_with mask_type h (pos (count k)) absent absent) (head_is k)

pub head_at_spec : {M : Type 1} → statement M
head_at_spec =
    tie.close
    (tie.spec (λ c κs. search rules) (λ c κs. search rules) (λ c κs. search rules) (λ c. search rules) (λ c κs. search rules) (λ c. record { sfits = omega (arith, few c) })
    (λ c κs. (omega arith, rw (head_is c) (small (first c) (field_lt (s c).args.bytes.now (s c).args.place 29)))) returns)
