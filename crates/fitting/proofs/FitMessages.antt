-- A head and rows fit under a held mask just where the message that they spell reads back to exactly them: refusal 12 by direct tests.
-- Assumes nothing.
use mathlib.Core.Path.{◌≡◌, refl, sym, ap, subst, ◌∙◌}
use mathlib.Core.Bool.{Bool, true, false≢true}
use mathlib.Core.List.{List, [], ◌∷◌, ◌++◌}
use Prim.Native.Nat.{ℕ, zero, suc, ◌+◌, ◌^◌, ◌<◌}
use native.Mathlib.Nat.{add-zero, zero-add}
use native.Mathlib.Omega.{arith}
use borrow.Author.Tests.{eq-eqb}
use lib.Dec.{eqb}
use lib.IntN.{ℤ, pos, negsuc}
use lib.ListN.{length, get_or}
use Rattle.bits.specs.BitLists.{spell}
use Rattle.format.proofs.Bodies.{Threes}
use Rattle.format.proofs.MakesBack.{common_reads}
use Rattle.format.proofs.RoundTrips.{opening_reads, read_exact, exact_reads}
use Rattle.format.proofs.Sames.{and_true, true_and, sameℤ_sound, sameℤ_refl, same_test}
use Rattle.format.proofs.Selections.{Distinct, satellites_distinct}
use Rattle.format.proofs.Spells.{satellite_threes, cell_threes}
use Rattle.format.proofs.Steps.{Gives, gives_done, gives_refuse, gives_bind, gives_so, Reads, reads_done, reads_require, reads_bind}
use Rattle.format.proofs.Tables.{gives_message, keeping_gives, under_nothing, under_gives}
use Rattle.format.specs.declared.Head.{Head}
use Rattle.format.specs.declared.Refusal.TheVariants.{SubType}
use Rattle.format.specs.Good.{good}
use Rattle.format.specs.Masks.{Mask, Held, nothing, mask, Sky, sky_of}
use Rattle.format.specs.Messages.{Common, Heading, head_of, over_satellites, over_cells, Keys, by_satellite, by_cell, orbit_shape, clock_shape, code_shape, phase_shape, bias_shape, accuracy_shape, combined_shape, packet, packet_type, mask_message, mask_type}
use Rattle.format.specs.Programs.{Program}
use Rattle.format.specs.Rows.{absent, Column, Line}
use Rattle.format.specs.Same.{sameℤ}
use Rattle.format.specs.Spelling.{put_common, put_packet, put_mask}
use Rattle.format.specs.Table.{Kind, FreeKind, MaskedKind, AdoptedKind, other, free, masked, adopts, alone, with_flags, kinds, table, gate, under_mask, keeping, by_kind, message_by, message, spelled}
use Rattle.format.specs.Writing.{exact}
use Rattle.fitting.specs.FitHeads.{common_fits, alone_fits, flagged_fits, packet_fits, mask_fits, Asks, never, freely, under_issue, of_mask, asked, asked_by, fits_as, fits}
use Rattle.fitting.proofs.FitHeads.{Carried, carried_reads, Fitting, alone_carried, alone_fits_lem, packet_carried, packet_fits_lem}
use Rattle.fitting.proofs.FitFlagged.{flagged_carried, flagged_fits_lem}
use Rattle.fitting.proofs.FitMasks.{Fronted, common_fronted, common_fit, Made, mask_made, mask_fits_lem}

-- ---- the two tables together

-- entries of two lists of which something holds at the numbers from k on
data Pairs {A B : Type 0} (P : ℕ → A → B → Type 0) : ℕ → List A → List B → Type 0 where
  end : {k : ℕ} → Pairs P k [] []
  then : {k : ℕ} {x : A} {y : B} {xs : List A} {ys : List B} → P k x y → Pairs P (suc k) xs ys → Pairs P k (x ∷ xs) (y ∷ ys)

pair_at : {A B : Type 0} {P : ℕ → A → B → Type 0} {k : ℕ} {xs : List A} {ys : List B} (d : A) (e : B) → Pairs P k xs ys → ((n : ℕ) → P n d e)
    → (n : ℕ) → P (k + n) (get_or xs n d) (get_or ys n e)
pair_at {A} {B} {P} {k} d e end rest n = rest (k + n)
pair_at d e (then law laws) rest zero = rw add-zero law
pair_at {A} {B} {P} {k} d e (then law laws) rest (suc n) =
    let next : suc k + n ≡ k + suc n = omega arith in
    rw next at (pair_at d e laws rest n)

-- A test tells a kind at a sub type n: what passes is what the kind's program reads some bits to, and what it reads passes.
data Told (n : ℕ) : Kind → Asks → Type 0 where
  neither : Told n other never
  told_free : {k : FreeKind} {test : Head → List (List ℤ) → Bool} → n < 2 ^ 4
      → ((h : Head) (rows : List (List ℤ)) → h.subtype ≡ pos n → test h rows ≡ true → Carried k.program h rows)
      → Gives k.program (λ d b. (d.head.subtype ≡ pos n) × Fitting test d) → Told n (free k) (freely test)
  told_masked : {k : MaskedKind} {test : Sky → Head → List (List ℤ) → Bool} → n < 2 ^ 4
      → ((sky : Sky) (front : Common) (h : Head) (rows : List (List ℤ)) → h ≡ head_of n front h.a h.b h.c → test sky h rows ≡ true
      → Carried (k.program sky front) h rows)
      → ((sky : Sky) → Distinct sky.satellites → (front : Common)
      → Gives (k.program sky front) (λ d b. (d.head ≡ head_of n front d.head.a d.head.b d.head.c) × Fitting (test sky) d))
      → Told n (masked k) (under_issue test)
  told_mask : {k : AdoptedKind} {test : Mask → Head → List (List ℤ) → Bool} → n < 2 ^ 4
      → ((m : Mask) → good (mask m) ≡ true → (h : Head) (rows : List (List ℤ)) (f : Fronted 20 n h) → f.front.iod ≡ m.iod → test m h rows ≡ true
      → Made k.program m h rows)
      → Gives k.program (λ d b. (d.head.subtype ≡ pos n) × (common_fits 20 d.head ≡ true) × (d.head.iod ≡ pos d.made.iod)
      × (test d.made d.head [] ≡ true))
      → Told n (adopts k) (of_mask test)

alone_told : (n : ℕ) → n < 2 ^ 4 → (over : Sky → List Line) → ((sky : Sky) → Threes (over sky)) → Told n (alone n over) (under_issue (alone_fits over))
unfolding alone
alone_told n small over threes = told_masked small (alone_carried n over) (λ sky _. alone_fits_lem n over sky (threes sky))

mask_told : Told mask_type (adopts (record { program = mask_message; spelling = put_mask })) (of_mask mask_fits)
mask_told = told_mask (omega arith) mask_made mask_fits_lem

packet_told : Told packet_type (free (record { program = packet; spelling = put_packet })) (freely packet_fits)
packet_told = told_free (omega arith) packet_carried packet_fits_lem

flagged_told : (n : ℕ) → n < 2 ^ 4 → (keys : Keys) (shape : Bool → Bool → ℕ → List Column) → Told n (with_flags n keys shape) (under_issue (flagged_fits keys shape))
unfolding with_flags
flagged_told n small keys shape = told_masked small (flagged_carried n keys shape) (flagged_fits_lem n keys shape)

all_told : Pairs Told 0 kinds asked
unfolding kinds asked over_satellites over_cells
all_told =
    then neither (then mask_told
    (then (alone_told 2 (omega arith) (over_satellites orbit_shape) (λ sky. satellite_threes orbit_shape sky.satellites))
    (then (alone_told 3 (omega arith) (over_satellites clock_shape) (λ sky. satellite_threes clock_shape sky.satellites))
    (then (alone_told 4 (omega arith) (over_cells code_shape) (λ sky. cell_threes code_shape sky.cells))
    (then (alone_told 5 (omega arith) (over_cells phase_shape) (λ sky. cell_threes phase_shape sky.cells))
    (then (flagged_told 6 (omega arith) by_cell bias_shape)
    (then (alone_told 7 (omega arith) (over_satellites accuracy_shape) (λ sky. satellite_threes accuracy_shape sky.satellites))
    (then neither (then neither (then packet_told (then (flagged_told 11 (omega arith) by_satellite combined_shape) end)))))))))))

told_at : (n : ℕ) → Told n (table n) (asked_by (pos n))
unfolding table asked_by
told_at n = rw zero-add at (pair_at other never all_told (λ k. neither) n)

-- ---- what fits is read

-- some bits are read to this
record Readable {A : Type 0} (p : Program A) (a : A) : Type 0 where
  bits : List Bool
  whole : Reads p bits a

-- a message that leaves the holding as it is
kept : {p : Program Heading} {h : Head} {rows : List (List ℤ)} (held : Held) → Carried p h rows
    → Readable (keeping held p) (record { content = record { head = h; rows = rows }; after = held })
kept held c = record { bits = _; whole = carried_reads held c }

-- the front's issue is the mask's
front_issue : (w n : ℕ) (h : Head) (iod : ℕ) (f : Fronted w n h) → sameℤ h.iod (pos iod) ≡ true → f.front.iod ≡ iod
unfolding head_of
front_issue w n h iod f e =
    let own : h.iod ≡ pos f.front.iod = ap (λ (g : Head). g.iod) f.same in
    let one : pos f.front.iod ≡ pos iod = sym own ∙ sameℤ_sound h.iod (pos iod) e in
    cc

-- behind the common head, under the mask of its issue
under_carried : (k : MaskedKind) (n : ℕ) (m : Mask) (h : Head) (rows : List (List ℤ)) (f : Fronted 12 n h) → f.front.iod ≡ m.iod
    → Carried (k.program (sky_of m) f.front) h rows → Carried (under_mask k (mask m)) h rows
unfolding under_mask gate
under_carried k n m h rows f issue c = record {
  front = put_common 12 (head_of n f.front absent absent absent) ++ ([] ++ c.front);
  lines = c.lines;
  heading =
      reads_bind _ (common_reads 12 f.front f.epoch f.interval f.indicator f.issue n absent absent absent)
      (reads_bind _ (reads_require _ _ _ (eq-eqb _ _ issue) reads_done) c.heading);
  fitting = c.fitting;
}

kind_reads : (n : ℕ) (k : Kind) (test : Asks) → Told n k test → (held : Held) → good held ≡ true → (h : Head) (rows : List (List ℤ)) → h.subtype ≡ pos n
    → fits_as test held h rows ≡ true
    → (n < 2 ^ 4) × Readable (by_kind k held) (record { content = record { head = h; rows = rows }; after = held })
unfolding fits_as by_kind
kind_reads n other (freely test) x8 held fine h rows type fits = elim x8 [ ]
kind_reads n other (under_issue test) x9 held fine h rows type fits = elim x9 [ ]
kind_reads n other (of_mask test) x10 held fine h rows type fits = elim x10 [ ]
kind_reads n (free k) never x6 held fine h rows type fits = elim x6 [ ]
kind_reads n (free k) (under_issue test) x7 held fine h rows type fits = elim x7 [ ]
kind_reads n (free k) (of_mask test) x8 held fine h rows type fits = elim x8 [ ]
kind_reads n (masked k) never x7 held fine h rows type fits = elim x7 [ ]
kind_reads n (masked k) (freely test) x8 held fine h rows type fits = elim x8 [ ]
kind_reads n (masked k) (of_mask test) x9 held fine h rows type fits = elim x9 [ ]
kind_reads n (adopts k) never x8 held fine h rows type fits = elim x8 [ ]
kind_reads n (adopts k) (freely test) x9 held fine h rows type fits = elim x9 [ ]
kind_reads n (adopts k) (under_issue test) x10 held fine h rows type fits = elim x10 [ ]
kind_reads n other never neither held fine h rows type fits = absurd (false≢true fits)
kind_reads n (free k) (freely test) (told_free small carried _) held fine h rows type fits =
    (small, kept held (carried h rows type fits))
kind_reads n (masked k) (under_issue test) (told_masked small carried _) nothing fine h rows type fits = absurd (false≢true fits)
kind_reads n (masked k) (under_issue test) (told_masked small carried _) (mask m) fine h rows type fits =
    let front = and_true (common_fits 12 h) _ fits in
    let issue = and_true (sameℤ h.iod (pos m.iod)) _ front.1 in
    let f = common_fronted 12 n h type front.0 in
    let inside = carried (sky_of m) f.front h rows f.same issue.1 in
    (small, kept (mask m) (under_carried k n m h rows f (front_issue 12 n h m.iod f issue.0) inside))
kind_reads n (adopts k) (of_mask test) (told_mask small makes _) nothing fine h rows type fits = absurd (false≢true fits)
kind_reads n (adopts k) (of_mask test) (told_mask small makes _) (mask m) fine h rows type fits =
    let front = and_true (common_fits 20 h) _ fits in
    let issue = and_true (sameℤ h.iod (pos m.iod)) _ front.1 in
    let f = common_fronted 20 n h type front.0 in
    let it = makes m fine h rows f (front_issue 20 n h m.iod f issue.0) issue.1 in
    (small, record { bits = it.bits ++ []; whole = reads_bind _ it.makes (rw it.empty reads_done) })

message_reads : (held : Held) → good held ≡ true → (h : Head) (rows : List (List ℤ)) → fits held h rows ≡ true
    → Readable (message held) (record { content = record { head = h; rows = rows }; after = held })
unfolding fits fits_as asked_by message_by
message_reads held fine h rows passes = go h.subtype refl passes
  where
    go : (z : ℤ) → h.subtype ≡ z → fits_as (asked_by z) held h rows ≡ true
        → Readable (message held) (record { content = record { head = h; rows = rows }; after = held })
    go (pos n) type passes =
        let it = kind_reads n (table n) (asked_by (pos n)) (told_at n) held fine h rows type passes in
        record { bits = (spell 12 4073 ++ spell 4 n) ++ it.1.bits; whole = reads_bind _ (opening_reads n it.0) it.1.whole }
    go (negsuc n) type passes = absurd (false≢true passes)

-- so what fits is written exactly
pub fits_exact : (held : Held) → good held ≡ true → (h : Head) (rows : List (List ℤ)) → fits held h rows ≡ true → exact held h rows ≡ true
fits_exact held fine h rows passes =
    let it = message_reads held fine h rows passes in
    read_exact held fine it.bits (record { content = record { head = h; rows = rows }; after = held }) (length it.bits) it.whole.reads

-- ---- what is read fits

-- behind the common head, which is that of the mask's issue
under_fits : (n : ℕ) (m : Mask) (test : Sky → Head → List (List ℤ) → Bool) (front : Common) (h : Head) (rows : List (List ℤ))
    → ((k : ℕ) (a b c : ℤ) → common_fits 12 (head_of k front a b c) ≡ true) → eqb front.iod m.iod ≡ true → h ≡ head_of n front h.a h.b h.c
    → test (sky_of m) h rows ≡ true → fits_as (under_issue test) (mask m) h rows ≡ true
unfolding fits_as head_of sameℤ
under_fits n m test front h rows fit issue same passes =
    let head : common_fits 12 h ≡ true = ap (common_fits 12) same ∙ fit n h.a h.b h.c in
    let own : sameℤ h.iod (pos m.iod) ≡ true = ap (λ (g : Head). sameℤ g.iod (pos m.iod)) same ∙ issue in
    true_and head (true_and own passes)

kind_fits : (n : ℕ) (k : Kind) (test : Asks) → Told n k test → (held : Held) → good held ≡ true
    → Gives (by_kind k held) (λ m b. (m.content.head.subtype ≡ pos n) × (fits_as test m.after m.content.head m.content.rows ≡ true))
unfolding fits_as by_kind head_of sky_of
kind_fits n other (freely test) x4 held fine = elim x4 [ ]
kind_fits n other (under_issue test) x5 held fine = elim x5 [ ]
kind_fits n other (of_mask test) x6 held fine = elim x6 [ ]
kind_fits n (free k) never x4 held fine = elim x4 [ ]
kind_fits n (free k) (under_issue test) x5 held fine = elim x5 [ ]
kind_fits n (free k) (of_mask test) x6 held fine = elim x6 [ ]
kind_fits n (masked k) never x5 held fine = elim x5 [ ]
kind_fits n (masked k) (freely test) x6 held fine = elim x6 [ ]
kind_fits n (masked k) (of_mask test) x7 held fine = elim x7 [ ]
kind_fits n (adopts k) never x6 held fine = elim x6 [ ]
kind_fits n (adopts k) (freely test) x7 held fine = elim x7 [ ]
kind_fits n (adopts k) (under_issue test) x8 held fine = elim x8 [ ]
kind_fits n other never neither held fine = gives_refuse SubType
kind_fits n (free k) (freely test) (told_free _ _ law) held fine = keeping_gives held law λ d b l it whole. (it.0, it.1 l whole)
kind_fits n (masked k) (under_issue test) (told_masked _ _ law) nothing fine =
    keeping_gives {P = λ d b. ⊥} nothing (under_nothing k) λ d b l nobody whole. absurd nobody
kind_fits n (masked k) (under_issue test) (told_masked _ _ law) (mask m) fine =
    keeping_gives {P = λ d b. (d.head.subtype ≡ pos n) × Fitting (fits_as (under_issue test) (mask m)) d} (mask m)
    (under_gives k m (common_fit 12) λ front a fit issue.
    gives_so (law (sky_of m) (satellites_distinct m fine) front) λ d b it.
    (ap (λ (g : Head). g.subtype) it.0, λ l whole. under_fits n m test front d.head _ fit issue it.0 (it.1 l whole)))
    λ d b l it whole. (it.0, it.1 l whole)
kind_fits n (adopts k) (of_mask test) (told_mask _ _ law) held fine =
    gives_bind law λ d b it.
    gives_done (it.0, true_and it.1 (true_and (ap (λ (z : ℤ). sameℤ z (pos d.made.iod)) it.2 ∙ sameℤ_refl (pos d.made.iod)) it.3))

message_fits : (held : Held) → good held ≡ true → Gives (message held) (λ m b. fits m.after m.content.head m.content.rows ≡ true)
unfolding fits
message_fits held fine =
    gives_message table held λ n _.
    gives_so (kind_fits n (table n) (asked_by (pos n)) (told_at n) held fine) λ m b it.
    subst (λ (z : ℤ). fits_as (asked_by z) m.after m.content.head m.content.rows ≡ true) (sym it.0) it.1

-- so what is written exactly fits
pub exact_fits : (held : Held) → good held ≡ true → (h : Head) (rows : List (List ℤ)) → exact held h rows ≡ true → fits held h rows ≡ true
exact_fits held fine h rows e =
    (message_fits held fine).gives (spelled held h rows ++ []) (record { content = record { head = h; rows = rows }; after = held })
    (length (spelled held h rows)) (exact_reads held h rows e [])

-- ---- hence refusal 12's test is this one

pub exact_is_fits : (held : Held) → good held ≡ true → (h : Head) (rows : List (List ℤ)) → exact held h rows ≡ fits held h rows
exact_is_fits held fine h rows = same_test (exact held h rows) (fits held h rows) (exact_fits held fine h rows) (fits_exact held fine h rows)
