-- A pen at any place, begun from the byte in which that lies: what is set comes to the same. Assumes nothing.
use Rattle.bits.proofs.Words.{◌≡◌, sym, ap, ◌∙◌, Bool, List, [], ◌++◌, ℕ, ◌+◌, ◌-◌, ◌*◌, ◌/◌, ◌%◌, ◌^◌, ◌<◌, arith, get_or}
use mathlib.Core.List.{append_assoc}
use native.Mathlib.Nat.{lt_of_lt_of_le}
use lib.Arith.{digits_lt}
use lib.Pow.{pow-add, pow_mono, shl_exact}
use Rattle.bits.proofs.BitLists.{spell_append}
use Rattle.bits.proofs.Fields.{field_lt, top}
use Rattle.bits.proofs.Setting.{set_behind}
use Rattle.bits.proofs.Windows.{Bytes}
use Rattle.bits.specs.BitLists.{spell, set_bytes}
use Rattle.bits.specs.Places.{field}
use Rattle.pens.specs.declared.pen.Field.{Field}
use Rattle.pens.specs.declared.pen.Pen.{Pen}
use Rattle.pens.specs.Pens.{begun_by, spell_fields, none, Ready, Begins}

module _ {p : Pen} {fs : List Field} {bytes : List ℕ} (b : Begins p fs bytes) where
  abbrev skip : ℕ
  skip = p.place % 8

  abbrev first : ℕ
  first = p.place - skip

  abbrev before : ℕ
  before = field bytes first skip

  both_small : before * 2 ^ p.width + p.gathered < 2 ^ (skip + p.width)
  both_small = rw (pow-add 2 skip p.width) (digits_lt (field_lt bytes first skip) b.pen.small)

  pub begun_fits : before * 2 ^ p.width + p.gathered < 2 ^ 64
  begun_fits = lt_of_lt_of_le both_small (pow_mono {j = 64} (omega (arith, b.pen.narrow)))

  pub begun_exact : before * 2 ^ p.width % 2 ^ 64 ≡ before * 2 ^ p.width
  begun_exact = shl_exact skip p.width 64 (field_lt bytes first skip) (omega (arith, b.pen.narrow))

  pub ready_begun : Ready (begun_by bytes p) fs bytes
  unfolding begun_by
  ready_begun =
      record {
        pen = record { narrow = omega (arith, b.pen.narrow); word = begun_fits };
        whole = omega arith;
        fields = b.fields;
        room = omega (arith, b.room);
        near = omega (arith, b.near);
      }

  -- what is gathered alone
  pub begins_alone : Begins p [] bytes
  unfolding spell_fields
  begins_alone = record { pen = b.pen; fields = none; room = omega (arith, b.room); near = omega (arith, b.near) }

  -- the bits before the place are set to what they are
  pub begun_set : Bytes bytes → (new : List Bool)
      → let q = begun_by bytes p in set_bytes bytes q.place (spell q.width q.gathered ++ new) ≡ set_bytes bytes p.place (spell p.width p.gathered ++ new)
  unfolding begun_by
  begun_set small new =
      let back : first + skip ≡ p.place = omega arith in
      ap (λ (l : List Bool). set_bytes bytes first (l ++ new)) (spell_append skip p.width before p.gathered b.pen.small)
      ∙ ap (set_bytes bytes first) (append_assoc (spell skip before) (spell p.width p.gathered) new)
      ∙ set_behind bytes first skip (spell p.width p.gathered ++ new) small (omega (arith, b.room))
      ∙ ap (λ (n : ℕ). set_bytes bytes n (spell p.width p.gathered ++ new)) back

-- ---- as code begins it

pub none_before : (p : Pen) (bytes : List ℕ) → p.place % 8 ≡ 0 → p ≡ begun_by bytes p
unfolding begun_by field
none_before p bytes whole = rw whole (λ i. record { place = place i; width = width i; gathered = gathered i })
  where
    place : p.place ≡ p.place - 0
    place = omega arith

    width : p.width ≡ 0 + p.width
    width = omega arith

    gathered : p.gathered ≡ 0 * 2 ^ p.width + p.gathered
    gathered = omega arith

pub byte_before : (bytes : List ℕ) (place : ℕ) → Bytes bytes → get_or bytes (place / 8) 0 / 2 ^ (8 - place % 8) ≡ field bytes (place - place % 8) (place % 8)
byte_before bytes place small =
    let back : 8 * (place / 8) ≡ place - place % 8 = omega arith in
    rw (← back) (sym (top bytes (place / 8) (place % 8) (8 - place % 8) (small (place / 8)) (omega arith)))
