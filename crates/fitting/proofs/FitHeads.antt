-- A head and rows that fit their sub type are what its program reads some bits to, and what it reads fits: one pair of laws for each kind of message.
-- Assumes nothing.
use mathlib.Core.Path.{◌≡◌, refl, sym, subst, ◌∙◌}
use mathlib.Core.Bool.{Bool, true, false≢true}
use mathlib.Core.List.{List, [], ◌++◌}
use Prim.Native.Nat.{ℕ, suc, ◌^◌, ◌<◌}
use native.Mathlib.Omega.{arith}
use borrow.Author.Tests.{ltb-true, lt-ltb}
use lib.Dec.{ltb}
use lib.IntN.{ℤ, pos, negsuc}
use lib.ListN.{length}
use Rattle.bits.specs.BitLists.{spell}
use Rattle.format.proofs.Bodies.{Threes}
use Rattle.format.proofs.Sames.{and_true, true_and, sameℤ_sound, sameℤ_refl}
use Rattle.format.proofs.Spells.{packet_threes}
use Rattle.format.proofs.Steps.{Gives, gives_done, gives_numbered, Reads, reads_done, reads_taking, reads_numbered, reads_bind, reads_end}
use Rattle.format.specs.declared.Head.{Head}
use Rattle.format.specs.Masks.{Held, Sky}
use Rattle.format.specs.Messages.{Common, Heading, head_of, body, bodied, rows_alone, packet, packet_lines, packet_heading, packet_type}
use Rattle.format.specs.Programs.{Program, done, ◌>>=◌, taking}
use Rattle.format.specs.Rows.{absent, Line, body_width, rows_of, spell_rows}
use Rattle.format.specs.Same.{sameℤ}
use Rattle.format.specs.Table.{keeping}
use Rattle.fitting.specs.Fits.{rows_fit}
use Rattle.fitting.specs.FitHeads.{number_fits, alone_fits, parts_fit, packet_fits}
use Rattle.fitting.proofs.FitRows.{fit_rows, rows_fit_lem}

-- ---- numbers

-- a number that fits w bits is one below 2 ^ w
pub record Number (w : ℕ) (z : ℤ) : Type 0 where
  pub value : ℕ
  pub same : z ≡ pos value
  pub small : value < 2 ^ w

pub number_fits_lem : (w : ℕ) (z : ℤ) → number_fits w z ≡ true → Number w z
unfolding number_fits
number_fits_lem w (pos n) fits = record { value = n; same = refl; small = ltb-true n (2 ^ w) fits }
number_fits_lem w (negsuc n) fits = absurd (false≢true fits)

-- ---- a heading, and a body that fits its lines

-- some bits are read to a heading of this head, over whose lines these rows fit
pub record Carried (p : Program Heading) (h : Head) (rows : List (List ℤ)) : Type 0 where
  pub front : List Bool
  pub lines : List Line
  pub heading : Reads p front (record { head = h; lines = lines })
  pub fitting : rows_fit lines rows ≡ true

body_reads : (lines : List Line) (rows : List (List ℤ)) → rows_fit lines rows ≡ true → Reads (body lines) (spell_rows lines rows) rows
unfolding body taking ◌>>=◌
body_reads lines rows fits =
    let back = fit_rows lines rows fits in
    let bits : List Bool = spell_rows lines rows in
    reads_end bits (reads_taking (λ b. done (rows_of lines b)) (body_width lines) bits back.1
    (subst (λ (rs : List (List ℤ)). Reads (done (rows_of lines bits)) [] rs) back.0 reads_done))

-- so some bits are read to the message
pub carried_reads : {p : Program Heading} {h : Head} {rows : List (List ℤ)} (held : Held) → (c : Carried p h rows)
    → Reads (keeping held p) ((c.front ++ (spell_rows c.lines rows ++ [])) ++ []) (record { content = record { head = h; rows = rows }; after = held })
unfolding keeping bodied
carried_reads {p} {h} {rows} held c =
    reads_bind _ (reads_bind _ c.heading (reads_bind _ (body_reads c.lines rows c.fitting) reads_done)) reads_done

-- whatever body follows a heading, it fits a test
abbrev pub Fitting : (Head → List (List ℤ) → Bool) → Heading → Type 0
Fitting test d = (l : List Bool) → length l ≡ body_width d.lines → test d.head (rows_of d.lines l) ≡ true

-- ---- 2, 3, 4 and 5

pub alone_carried : (n : ℕ) (over : Sky → List Line) (sky : Sky) (k : Common) (h : Head) (rows : List (List ℤ)) → h ≡ head_of n k h.a h.b h.c
    → alone_fits over sky h rows ≡ true → Carried (rows_alone n over sky k) h rows
unfolding rows_alone alone_fits head_of
alone_carried n over sky k h rows same fits =
    let a = and_true (sameℤ h.a absent) _ fits in
    let b = and_true (sameℤ h.b absent) _ a.1 in
    let c = and_true (sameℤ h.c absent) _ b.1 in
    let bare : head_of n k absent absent absent ≡ h =
    sym (same ∙ (λ i. head_of n k (sameℤ_sound _ absent a.0 i) (sameℤ_sound _ absent b.0 i) (sameℤ_sound _ absent c.0 i))) in
    record {
      front = [];
      lines = over sky;
      heading = subst (λ (g : Head). Reads (rows_alone n over sky k) [] (record { head = g; lines = over sky })) bare reads_done;
      fitting = c.1;
    }

pub alone_fits_lem : (n : ℕ) (over : Sky → List Line) (sky : Sky) → Threes (over sky) → (k : Common)
    → Gives (rows_alone n over sky k) (λ d b. (d.head ≡ head_of n k d.head.a d.head.b d.head.c) × Fitting (alone_fits over sky) d)
unfolding rows_alone alone_fits head_of
alone_fits_lem n over sky threes k =
    gives_done (refl, λ l whole. true_and (sameℤ_refl absent) (true_and (sameℤ_refl absent) (true_and (sameℤ_refl absent) (rows_fit_lem (over sky) threes l (omega arith)))))

-- ---- 10

-- a data size that fits, with rows that do
record Parts (z : ℤ) (rows : List (List ℤ)) : Type 0 where
  size : ℕ
  same : z ≡ pos size
  small : size < 2 ^ 2
  rowed : rows_fit (packet_lines 1 (suc size)) rows ≡ true

parts_fit_lem : (z : ℤ) (rows : List (List ℤ)) → parts_fit z rows ≡ true → Parts z rows
unfolding parts_fit
parts_fit_lem (pos n) rows fits =
    let both = and_true (ltb n 4) _ fits in
    record { size = n; same = refl; small = ltb-true n 4 both.0; rowed = both.1 }
parts_fit_lem (negsuc n) rows fits = absurd (false≢true fits)

pub packet_carried : (h : Head) (rows : List (List ℤ)) → h.subtype ≡ pos packet_type → packet_fits h rows ≡ true → Carried packet h rows
unfolding packet packet_heading packet_fits
packet_carried h rows type fits =
    let epoch = and_true (sameℤ h.epoch absent) _ fits in
    let interval = and_true (sameℤ h.interval absent) _ epoch.1 in
    let iod = and_true (sameℤ h.iod absent) _ interval.1 in
    let c = and_true (sameℤ h.c absent) _ iod.1 in
    let indicator = and_true (number_fits 1 h.indicator) _ c.1 in
    let a = and_true (number_fits 3 h.a) _ indicator.1 in
    let i = number_fits_lem 1 h.indicator indicator.0 in
    let j = number_fits_lem 3 h.a a.0 in
    let k = parts_fit_lem h.b rows a.1 in
    let same : (packet_heading i.value j.value k.size).head ≡ h =
    λ t. record {
      subtype = sym type t;
      epoch = sym (sameℤ_sound h.epoch absent epoch.0) t;
      interval = sym (sameℤ_sound h.interval absent interval.0) t;
      indicator = sym i.same t;
      iod = sym (sameℤ_sound h.iod absent iod.0) t;
      a = sym j.same t;
      b = sym k.same t;
      c = sym (sameℤ_sound h.c absent c.0) t;
    } in
    let lines : List Line = packet_lines 1 (suc k.size) in
    let bits : List Bool = spell 1 i.value ++ (spell 3 j.value ++ (spell 2 k.size ++ [])) in
    record {
      front = bits;
      lines = lines;
      heading =
          subst (λ (g : Head). Reads packet bits (record { head = g; lines = lines })) same
          (reads_numbered _ 1 i.value i.small (reads_numbered _ 3 j.value j.small (reads_numbered _ 2 k.size k.small reads_done)));
      fitting = k.rowed;
    }

pub packet_fits_lem : Gives packet (λ d b. (d.head.subtype ≡ pos packet_type) × Fitting packet_fits d)
unfolding packet packet_heading packet_fits parts_fit number_fits
packet_fits_lem =
    gives_numbered _ _ λ indicator bit.
    gives_numbered _ _ λ counter three.
    gives_numbered _ _ λ size two.
    gives_done (
      refl,
      λ l whole.
          let parts = true_and (lt-ltb size 4 two) (rows_fit_lem (packet_lines 1 (suc size)) (packet_threes 1 (suc size)) l (omega arith)) in
          let numbers = true_and (lt-ltb indicator (2 ^ 1) bit) (true_and (lt-ltb counter (2 ^ 3) three) parts) in
          let missing = sameℤ_refl absent in
          true_and missing (true_and missing (true_and missing (true_and missing numbers))),
    )
