-- What the plan of a packet's part comes to. Assumes nothing.
use Rattle.bits.proofs.Words.{◌≡◌, refl, sym, ap, ap₂, ◌∙◌, Bool, true, false, ◌&&◌, List, ◌++◌, ℕ, ◌+◌, ◌*◌, ◌<◌, ◌^◌, arith, ltb, length, ℤ, pos}
use mathlib.Core.List.{append_assoc, append-nil}
use native.Mathlib.Numerals.{add-one}
use lib.IntN.{negsuc}
use Rattle.bits.proofs.BitLists.{spell_append}
use Rattle.bits.specs.BitLists.{spell}
use Rattle.bits.specs.Signed.{unsigned}
use Rattle.format.proofs.Sames.{and_true}
use Rattle.format.proofs.Spells.{packet_count}
use Rattle.format.specs.declared.Head.{Head}
use Rattle.format.specs.Lengths.{total}
use Rattle.format.specs.Masks.{Held}
use Rattle.format.specs.Messages.{packet_lines}
use Rattle.format.specs.Rows.{absent, Line, spell_rows}
use Rattle.format.specs.Same.{sameℤ}
use Rattle.format.specs.Spelling.{put, put_packet}
use Rattle.format.specs.Table as Table
use Rattle.format.specs.Table.{table, kind_of, spell_kind, spelled_by, spelled}
use Rattle.holding.specs.Held.{View}
use Rattle.table.proofs.Tabled.{table_means}
use Rattle.table.specs.declared.Kind.TheVariants.{Packet}
use Rattle.table.specs.Bodies.{lines_over, lines_in}
use Rattle.table.specs.Kinds.{kind_for, kind_by}
use Rattle.writer.specs.declared.plan.Plan.{Plan}
use Rattle.fitting.specs.Fits.{rows_fit}
use Rattle.fitting.specs.FitHeads.{Asks, number_fits, parts_fit, packet_fits, asked_by, fits_as, fits}
use Rattle.writer.specs.Fronts.{opening_field, packet_fields}
use Rattle.writer.specs.Kinds.{asks_of, plan_bits}
use Rattle.pens.specs.Numbers.{word_of}
use Rattle.pens.specs.Pens.{spell_fields, Fine, Fines, none, more}
use Rattle.writer.specs.Plans.{packet_bare, packet_head, packet_plan}
use Rattle.fitting.proofs.FitRows.{fit_count}
use Rattle.writer.proofs.FrontBits.{put_word, opening_fine, opening_bits, pen_bits}
use Rattle.pens.proofs.Numbers.{fits_small}
use Rattle.writer.proofs.PlanBits.{small_type}
use Rattle.writer.proofs.SubTypes.{is_other, asks_mean}

-- the tests of its numbers before the rows'
regroup : (e i o c n a p : Bool) → (e && (i && (o && (c && (n && (a && p)))))) ≡ ((e && (i && (o && c))) && (n && (a && p)))
regroup false i o c n a p = refl
regroup true false o c n a p = refl
regroup true true false c n a p = refl
regroup true true true c n a p = refl

apart : (b n a s r : Bool) → (b && (n && (a && (s && r)))) ≡ ((b && (n && (a && s))) && r)
apart false n a s r = refl
apart true false a s r = refl
apart true true false s r = refl
apart true true true s r = refl

-- a data size that fits, with a row more than it says
parts : (z : ℤ) (rows : List (List ℤ)) → parts_fit z rows ≡ (number_fits 2 z && rows_fit (packet_lines 1 (word_of z + 1)) rows)
unfolding parts_fit number_fits word_of unsigned
parts (pos n) rows = ap (λ (k : ℕ). ltb n 4 && rows_fit (packet_lines 1 k) rows) (sym (add-one n))
parts (negsuc n) rows = refl

module _ (held : Held) (v : View) (n : ℕ) (row : kind_for n ≡ Packet) (h : Head) (typed : h.subtype ≡ pos n) (rows : List (List ℤ)) (start : ℕ) where
  abbrev plan : Plan
  plan = packet_plan h start

  abbrev lines : List Line
  lines = lines_in v plan.body

  fits_all : fits held h rows ≡ (packet_head h && rows_fit lines rows)
  unfolding fits fits_as asks_of packet_fits packet_head packet_bare lines_in lines_over packet_plan
  fits_all =
      ap (λ (z : ℤ). fits_as (asked_by z) held h rows) typed ∙ ap (λ (a : Asks). fits_as a held h rows) (asks_mean n ∙ ap asks_of row)
      ∙ regroup (sameℤ h.epoch absent) (sameℤ h.interval absent) (sameℤ h.iod absent) (sameℤ h.c absent) (number_fits 1 h.indicator) (number_fits 3 h.a) (parts_fit h.b rows)
      ∙ ap (λ (b : Bool). packet_bare h && (number_fits 1 h.indicator && (number_fits 3 h.a && b))) (parts h.b rows)
      ∙ apart (packet_bare h) (number_fits 1 h.indicator) (number_fits 3 h.a) (number_fits 2 h.b) (rows_fit (packet_lines 1 (word_of h.b + 1)) rows)

  pub packet_unfit : packet_head h ≡ false → fits held h rows ≡ false
  packet_unfit bad = fits_all ∙ ap (λ (b : Bool). b && rows_fit lines rows) bad

  packet_type_lem : number_fits 4 h.subtype ≡ true
  unfolding is_other
  packet_type_lem = small_type n Packet h row refl typed

  module _ (head : packet_head h ≡ true) where
    pub packet_fits_lem : fits held h rows ≡ rows_fit lines rows
    packet_fits_lem = fits_all ∙ ap (λ (b : Bool). b && rows_fit lines rows) head

    numbers : (number_fits 1 h.indicator ≡ true) × (number_fits 3 h.a ≡ true) × (number_fits 2 h.b ≡ true)
    unfolding packet_head
    numbers =
        let rest = (and_true (packet_bare h) _ head).1 in
        let second = and_true (number_fits 1 h.indicator) _ rest in
        let third = and_true (number_fits 3 h.a) _ second.1 in
        (second.0, third.0, third.1)

    pub packet_size : word_of h.b < 2 ^ 2
    packet_size = fits_small 2 h.b numbers.2

    abbrev said : ℕ
    said = (word_of h.indicator * 8 + word_of h.a) * 4 + word_of h.b

    pub packet_fines : Fines (packet_fields h)
    unfolding packet_fields opening_field
    packet_fines =
        let fine : Fine 6 said = record { narrow = omega arith; small = omega (arith, fits_small 1 h.indicator numbers.0, fits_small 3 h.a numbers.1, packet_size) } in
        more (opening_fine h packet_type_lem) (more fine none)

    six : spell 6 said ≡ put 1 h.indicator ++ (put 3 h.a ++ put 2 h.b)
    six =
        let x : List Bool = put 1 h.indicator in
        spell_append 4 2 (word_of h.indicator * 8 + word_of h.a) (word_of h.b) packet_size
        ∙ ap (λ (l : List Bool). l ++ spell 2 (word_of h.b)) (spell_append 1 3 (word_of h.indicator) (word_of h.a) (fits_small 3 h.a numbers.1))
        ∙ append_assoc (spell 1 (word_of h.indicator)) (spell 3 (word_of h.a)) (spell 2 (word_of h.b))
        ∙ rw (put_word 1 h.indicator numbers.0, put_word 3 h.a numbers.1, put_word 2 h.b numbers.2)

    -- it has as many rows as its size says where they fit
    pub packet_bits : rows_fit lines rows ≡ true → spelled held h rows ≡ plan_bits v plan rows
    unfolding spelled spelled_by kind_of spell_kind kind_by put_packet plan_bits packet_plan lines_in lines_over packet_fields spell_fields total opening_field spell
    packet_bits fit =
        let many : length rows ≡ word_of h.b + 1 = fit_count (packet_lines 1 (word_of h.b + 1)) rows fit ∙ packet_count 1 (word_of h.b + 1) in
        let o : List Bool = spell 16 (opening_field h).value in
        let rest : List Bool = spell_rows (packet_lines 1 (word_of h.b + 1)) rows in
        let x : List Bool = put 1 h.indicator in
        let y : List Bool = put 3 h.a in
        let z : List Bool = put 2 h.b in
        ap (λ (t : ℤ). spell 12 4073 ++ (put 4 h.subtype ++ spell_kind (kind_of table t) held h rows)) typed
        ∙ ap (λ (k : Table.Kind). spell 12 4073 ++ (put 4 h.subtype ++ spell_kind k held h rows)) (sym (table_means n) ∙ ap (kind_by n) row)
        ∙ ap (λ (k : ℕ). spell 12 4073 ++ (put 4 h.subtype ++ (x ++ (y ++ (z ++ spell_rows (packet_lines 1 k) rows))))) many
        ∙ sym (append_assoc (spell 12 4073) (put 4 h.subtype) (x ++ (y ++ (z ++ rest))))
        ∙ ap₂ ◌++◌ (sym (opening_bits h packet_type_lem))
        (sym (ap (λ (l : List Bool). l ++ rest) six ∙ append_assoc x (y ++ z) rest ∙ ap (λ (l : List Bool). x ++ l) (append_assoc y z rest)))
        ∙ sym (append_assoc o (spell 6 said) rest)
        ∙ ap (λ (l : List Bool). l ++ rest) (sym (pen_bits (packet_fields h) start packet_fines (omega arith) ∙ ap (λ (l : List Bool). o ++ l) (append-nil (spell 6 said))))
