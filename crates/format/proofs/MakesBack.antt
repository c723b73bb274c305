-- Every good mask is what some bits are read to: those that it spells.
-- Assumes nothing.
use mathlib.Core.Path.{◌≡◌, refl}
use mathlib.Core.Bool.{Bool, true, false, cond, not}
use mathlib.Core.List.{List, [], ◌∷◌, ◌++◌, append-nil, flat_map, append_assoc}
use Prim.Native.Nat.{ℕ, zero, suc, ◌+◌, ◌*◌, ◌^◌, ◌≤◌, ◌<◌}
use native.Mathlib.Omega.{arith}
use lib.Dec.{eqb, leb, ltb}
use lib.IntN.{ℤ, pos}
use lib.ListN.{length, length-append}
use lib.Seq.{append_snoc}
use borrow.Author.Tests.{ltb-true, leb-true, le-leb, eqb-true, not-true}
use Rattle.bits.specs.BitLists.{digit, spell}
use Rattle.bits.specs.Signed.{unsigned}
use Rattle.format.specs.Assigned.{satellite_places, signal_places, known, assigned}
use Rattle.format.specs.declared.Head.{Head}
use Rattle.format.specs.Good.{good_system, good_systems, good}
use Rattle.format.specs.Masks.{System, Mask, mask, places_from, satellites, cells}
use Rattle.format.specs.Messages.{Common, common, head_of, named, system, systems, Adopted, mask_message, ids_of, system_id, system_masks, system_signals, system_cells, flagged_cells, few_cells, system_with}
use Rattle.format.specs.Programs.{Program, ◌>>=◌, numbered, well, run}
use Rattle.format.specs.Rows.{absent}
use Rattle.format.specs.Spelling.{put, put_common, put_system, put_mask}
use Rattle.format.proofs.Steps.{Reads, reads_done, reads_require, reads_taking, reads_numbered, reads_bind, reads_end}
use Rattle.format.proofs.Makes.{flag_width}
use Rattle.format.proofs.Sames.{and_true, true_and}

-- ---- a good system, test by test

pub record GoodSystem (before : List System) (s : System) : Type 0 where
  pub known_id : known s.id ≡ true
  pub fresh : not (named s.id (ids_of before)) ≡ true
  pub whole : length s.satellites ≡ 40
  pub placed : assigned satellite_places s.id s.satellites ≡ true
  pub few : length (satellites before) + length (places_from 0 s.satellites) ≤ 64
  pub long : length s.signals ≡ 16
  pub given : assigned signal_places s.id s.signals ≡ true
  pub width : length s.cells ≡ cond s.flag (length (places_from 0 s.satellites) * length (places_from 0 s.signals)) 0
  pub held : length (cells (before ++ (s ∷ []))) ≤ 256

pub good_system_lem : (before : List System) (s : System) → good_system before s ≡ true → GoodSystem before s
unfolding good_system
good_system_lem before s e =
    let a = and_true (known s.id) _ e in
    let b = and_true (not (named s.id (ids_of before))) _ a.1 in
    let c = and_true (eqb (length s.satellites) 40) _ b.1 in
    let d = and_true (assigned satellite_places s.id s.satellites) _ c.1 in
    let f = and_true (leb (length (satellites before) + length (places_from 0 s.satellites)) 64) _ d.1 in
    let g = and_true (eqb (length s.signals) 16) _ f.1 in
    let h = and_true (assigned signal_places s.id s.signals) _ g.1 in
    let i = and_true (eqb (length s.cells) (cond s.flag (length (places_from 0 s.satellites) * length (places_from 0 s.signals)) 0)) _ h.1 in
    record {
      known_id = a.0;
      fresh = b.0;
      whole = eqb-true _ _ c.0;
      placed = d.0;
      few = leb-true _ _ f.0;
      long = eqb-true _ _ g.0;
      given = h.0;
      width = eqb-true _ _ i.0;
      held = leb-true _ _ i.1;
    }

-- ---- a system, systems, a head: read from the bits that spell them

-- a bit, whichever number stands for it
reads_bit : {A : Type 0} {a : A} (k : ℕ → Program A) (b : Bool) {l : List Bool}
    → ((n : ℕ) → n < 2 → eqb n 1 ≡ b → Reads (k n) l a) → Reads (numbered 1 >>= k) (b ∷ l) a
unfolding spell
reads_bit k true h = reads_numbered k 1 1 (omega arith) (h 1 (omega arith) refl)
reads_bit k false h = reads_numbered k 1 0 (omega arith) (h 0 (omega arith) refl)

system_reads : (before : List System) (s : System) → GoodSystem before s → Reads (system before) (put_system s) s
unfolding system system_id system_masks system_signals system_cells flagged_cells few_cells system_with put_system known
system_reads before s g =
    reads_bind _ (reads_end (spell 4 s.id)
    (reads_numbered _ 4 s.id (omega (arith, leb-true s.id 4 g.known_id))
    (reads_require _ _ _ (true_and g.known_id g.fresh)
    reads_done)))
    (rw (← append_assoc)
    (reads_bind _ {b = record { satellites = s.satellites; signals = s.signals }}
    (reads_taking _ 40 s.satellites g.whole
    (reads_require _ _ _ g.placed
    (reads_require _ _ _ (le-leb _ _ g.few)
    (reads_end s.signals
    (reads_taking _ 16 s.signals g.long
    (reads_require _ _ _ g.given
    reads_done))))))
    (reads_bit _ s.flag λ n small same.
    rw same
    (reads_end s.cells
    (reads_taking _ _ s.cells (rw (flag_width n, same) g.width)
    (reads_require _ _ _ (le-leb _ _ g.held)
    reads_done))))))

systems_read : (before ss : List System) → good_systems before ss ≡ true → Reads (systems (length ss) before) (flat_map put_system ss) (before ++ ss)
unfolding systems good_systems flat_map
systems_read before [] e = rw append-nil reads_done
systems_read before (s ∷ ss) e =
    let parts = and_true (good_system before s) _ e in
    reads_bind _ (system_reads before s (good_system_lem before s parts.0))
    (rw append_snoc at (systems_read (before ++ (s ∷ [])) ss parts.1))

pub common_reads : (w : ℕ) (h : Common) → h.epoch < 2 ^ w → h.interval < 16 → h.indicator < 2 → h.iod < 16
    → (subType : ℕ) (a b c : ℤ) → Reads (common w) (put_common w (head_of subType h a b c)) h
unfolding common put_common put unsigned head_of
common_reads w h epoch interval indicator iod subType a b c =
    reads_numbered _ w h.epoch epoch
    (reads_numbered _ 4 h.interval interval
    (reads_numbered _ 1 h.indicator indicator
    (reads_end (spell 4 h.iod)
    (reads_numbered _ 4 h.iod iod reads_done))))

-- ---- a good mask has at most five systems

-- what one more system names
cond_swap : (a b c : Bool) → cond a true (cond b true c) ≡ cond b true (cond a true c)
cond_swap true true c = refl
cond_swap true false c = refl
cond_swap false b c = refl

pub named_snoc : (id : ℕ) (l : List System) (s : System) → named id (ids_of (l ++ (s ∷ []))) ≡ cond (eqb id s.id) true (named id (ids_of l))
unfolding named
named_snoc id [] s = refl
named_snoc id (t ∷ l) s = rw (named_snoc id l s) (cond_swap (eqb id t.id) (eqb id s.id) (named id (ids_of l)))

-- of how many numbers below 5 something is true
abbrev count : (ℕ → Bool) → ℕ
count f = digit (f 0) + digit (f 1) + digit (f 2) + digit (f 3) + digit (f 4)

digit_le : (b : Bool) → digit b ≤ 1
digit_le true = omega arith
digit_le false = omega arith

count_le : (f : ℕ → Bool) → count f ≤ 5
count_le f = omega (arith, digit_le (f 0), digit_le (f 1), digit_le (f 2), digit_le (f 3), digit_le (f 4))

count_more : (f : ℕ → Bool) (id : ℕ) → id < 5 → f id ≡ false → count (λ k. cond (eqb k id) true (f k)) ≡ suc (count f)
count_more f zero h new = rw new (omega arith)
count_more f (suc zero) h new = rw new (omega arith)
count_more f (suc (suc zero)) h new = rw new (omega arith)
count_more f (suc (suc (suc zero))) h new = rw new (omega arith)
count_more f (suc (suc (suc (suc zero)))) h new = rw new (omega arith)
count_more f (suc (suc (suc (suc (suc id))))) h new = absurd (omega arith)

-- how many of them are names of systems
abbrev names : List System → ℕ
names l = count (λ id. named id (ids_of l))

names_more : (l : List System) (s : System) → s.id < 5 → named s.id (ids_of l) ≡ false → names (l ++ (s ∷ [])) ≡ suc (names l)
names_more l s small new = simp named_snoc (count_more (λ id. named id (ids_of l)) s.id small new)

-- each system that follows has a name of its own below 5
names_after : (before ss : List System) → length before ≡ names before → good_systems before ss ≡ true → length (before ++ ss) ≡ names (before ++ ss)
unfolding good_systems known
names_after before [] e all = rw append-nil e
names_after before (s ∷ ss) e all =
    let parts = and_true (good_system before s) _ all in
    let g = good_system_lem before s parts.0 in
    let small : s.id < 5 = omega (arith, leb-true s.id 4 g.known_id) in
    let more = names_more before s small (not-true _ g.fresh) in
    rw append_snoc at (names_after (before ++ (s ∷ [])) ss (rw length-append (omega arith)) parts.1)

own_names : (m : Mask) → good (mask m) ≡ true → length m.systems ≡ names m.systems
unfolding good named
own_names m e = names_after [] m.systems refl (and_true (ltb m.iod 16) _ e).1

pub few_systems : (m : Mask) → good (mask m) ≡ true → length m.systems ≤ 5
few_systems m e = omega (arith, own_names m e, count_le (λ id. named id (ids_of m.systems)))

-- ---- a good mask

-- the bits that it spells are read to it
pub made : (m : Mask) (h : Common) → good (mask m) ≡ true → h.iod ≡ m.iod → h.epoch < 2 ^ 20 → h.interval < 16 → h.indicator < 2
    → let head = head_of 1 h (pos (length m.systems)) absent absent in
    run mask_message (put_mask m head) ≡ well (record { head = head; made = m }) (length (put_mask m head))
unfolding mask_message good put_mask put unsigned head_of
made m h e same epoch interval indicator =
    let parts = and_true (ltb m.iod 16) _ e in
    let small : h.iod < 16 = omega (arith, ltb-true m.iod 16 parts.0) in
    let few : length m.systems < 2 ^ 4 = omega (arith, few_systems m e) in
    let count : ℤ = pos (length m.systems) in
    let head : Head = head_of 1 h count absent absent in
    let whole : Reads mask_message (put_mask m head) (record { head = head; made = m }) =
    reads_bind _ (common_reads 20 h epoch interval indicator small 1 count absent absent)
    (reads_numbered _ 4 (length m.systems) few
    (reads_end (flat_map put_system m.systems)
    (reads_bind _ (systems_read [] m.systems parts.1) (rw same reads_done)))) in
    whole.reads

-- so it is made by some bits; makes_good of Makes.antt is the way back
pub good_made : (m : Mask) → good (mask m) ≡ true → (l : List Bool) × (d : Adopted) × (taken : ℕ) × (run mask_message l ≡ well d taken) × (d.made ≡ m)
good_made m e =
    let h : Common = record { epoch = 0; interval = 0; indicator = 0; iod = m.iod } in
    let head = head_of 1 h (pos (length m.systems)) absent absent in
    (put_mask m head, record { head = head; made = m }, length (put_mask m head), made m h e refl (omega arith) (omega arith) (omega arith), refl)
