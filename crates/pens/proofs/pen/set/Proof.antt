-- `pens::pen::set` meets its contract. Assumes nothing.
use Rattle.bits.proofs.Words.{◌≡◌, ap, ◌∙◌, List, ℕ, ◌*◌, ◌%◌, ◌^◌, arith, rules}
use native.Mathlib.Nat.{mod-lt}
use lib.Pow.{pow_pos}
use Rattle.bits.proofs.BitLists.{spell_mod}
use Rattle.bits.proofs.Windows.{one_shifted}
use Rattle.bits.specs.BitLists.{set_field, set_bytes}
use Rattle.pens.specs.Pens.{set_by}
use Rattle.pens.proofs.Pens.{set_part}
use Rattle.pens.proofs.pen.set.Statement.{statement}
use Rattle.pens.proofs.pen.set.Tie as tie

module _ (s : tie.Start) where
  abbrev width : ℕ
  width = s.args.width

  abbrev gathered : ℕ
  gathered = s.args.gathered

  -- as many numbers as there are of its bits
  all : 1 * 2 ^ width % 2 ^ 64 ≡ 2 ^ width
  all = one_shifted width s.requires.pen.narrow

  -- its low bits are what is set anyway
  low_set : (part : List ℕ) → set_field part 0 width (gathered % (1 * 2 ^ width % 2 ^ 64)) ≡ set_field part 0 width gathered
  unfolding set_field
  low_set part = rw all (ap (set_bytes part 0) (spell_mod width gathered))

returns : tie.Need-returns
unfolding set_by
returns c =
    let f = c.before.before in
    let x = f.before.before in
    let s = x.before in
    set_part s.args.bytes.now s.args.place (width s) (gathered s) (λ k. (x.slice_known-1.given k).fits) s.requires.whole (omega (arith, s.requires.room)) _ (f.write_field.ensures ∙ low_set s _)

pub set_spec : {M : Type 1} → statement M
set_spec =
    tie.close
    (tie.spec (λ c. search rules) (λ c. let s = c.before in omega (arith, all s, pow_pos (width s))) (λ c. search rules) (λ c. search rules) (λ c. search rules)
    (λ c κs. let s = c.before.before in (omega (arith, s.requires.pen.narrow), search rules, rw (all s) (mod-lt (gathered s) (pow_pos (width s))))) (λ c. search rules) returns)
