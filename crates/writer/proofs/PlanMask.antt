-- What a mask message comes to: whether its head fits, and its bits. Assumes nothing.
use Rattle.bits.proofs.Words.{◌≡◌, refl, sym, ap, ◌∙◌, Bool, true, ◌&&◌, List, [], ◌∷◌, ◌++◌, ℕ, arith, ℤ, pos}
use mathlib.Core.List.{append_assoc, append-nil, flat_map}
use Rattle.bits.specs.BitLists.{spell}
use Rattle.format.specs.declared.Head.{Head}
use Rattle.format.specs.Masks.{Mask, mask}
use Rattle.format.specs.Same.{sameℤ}
use Rattle.format.specs.Spelling.{put, put_system, put_mask}
use Rattle.format.specs.Table as Table
use Rattle.format.specs.Table.{table, kind_of, spell_kind, spelled_by, spelled}
use Rattle.table.proofs.Tabled.{table_means}
use Rattle.table.specs.declared.Kind.TheVariants as Kinds
use Rattle.table.specs.Kinds.{kind_for, kind_by}
use Rattle.fitting.specs.FitHeads.{Asks, number_fits, common_fits, mask_fits, asked_by, fits_as, fits}
use Rattle.writer.specs.Fronts.{field, front_fields, mask_front}
use Rattle.writer.specs.Kinds.{asks_of}
use Rattle.pens.specs.Numbers.{word_of}
use Rattle.pens.specs.Pens.{spell_fields}
use Rattle.writer.proofs.FrontBits.{put_word, front_bits}
use Rattle.pens.proofs.Pens.{spell_fields_append}
use Rattle.writer.proofs.PlanBits.{small_type}
use Rattle.writer.proofs.SubTypes.{is_other, asks_mean}

module _ (m : Mask) (n : ℕ) (row : kind_for n ≡ Kinds.Mask) (h : Head) (typed : h.subtype ≡ pos n) where
  pub mask_fits_lem : (rows : List (List ℤ)) → sameℤ h.iod (pos m.iod) ≡ true → fits (mask m) h rows ≡ (common_fits 20 h && mask_fits m h rows)
  unfolding fits fits_as asks_of
  mask_fits_lem rows issue =
      ap (λ (z : ℤ). fits_as (asked_by z) (mask m) h rows) typed ∙ ap (λ (a : Asks). fits_as a (mask m) h rows) (asks_mean n ∙ ap asks_of row)
      ∙ ap (λ (b : Bool). common_fits 20 h && (b && mask_fits m h rows)) issue

  pub mask_type_lem : number_fits 4 h.subtype ≡ true
  unfolding is_other
  mask_type_lem = small_type n Kinds.Mask h row refl typed

  module _ (common : common_fits 20 h ≡ true) (counted : number_fits 4 h.a ≡ true) where
    one : spell_fields (field 4 h.a ∷ []) ≡ spell 4 (word_of h.a)
    unfolding spell_fields
    one = append-nil (spell 4 (word_of h.a))

    pub mask_bits : (rows : List (List ℤ)) → spelled (mask m) h rows ≡ spell_fields (mask_front h) ++ flat_map put_system m.systems
    unfolding spelled spelled_by kind_of spell_kind kind_by put_mask mask_front
    mask_bits rows =
        let front : List Bool = spell_fields (front_fields 20 h) in
        let count : List Bool = put 4 h.a in
        let rest : List Bool = flat_map put_system m.systems in
        let last : spell_fields (field 4 h.a ∷ []) ≡ count = one ∙ sym (put_word 4 h.a counted) in
        ap (λ (t : ℤ). spell 12 4073 ++ (put 4 h.subtype ++ spell_kind (kind_of table t) (mask m) h rows)) typed
        ∙ ap (λ (k : Table.Kind). spell 12 4073 ++ (put 4 h.subtype ++ spell_kind k (mask m) h rows)) (sym (table_means n) ∙ ap (kind_by n) row)
        ∙ front_bits h mask_type_lem 20 (omega arith) common (count ++ rest)
        ∙ sym (append_assoc front count rest) ∙ ap (λ (l : List Bool). (front ++ l) ++ rest) (sym last)
        ∙ ap (λ (l : List Bool). l ++ rest) (sym (spell_fields_append (front_fields 20 h) (field 4 h.a ∷ [])))
