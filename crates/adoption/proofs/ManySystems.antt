-- The systems of a mask message one after the other: what the code knows of the holding that it fills, and what one more system makes of it. Assumes nothing.
use Rattle.bits.proofs.Words.{◌≡◌, refl, sym, ap, ◌∙◌, subst, Bool, true, cond, List, [], ◌∷◌, ◌++◌, ℕ, suc, ◌+◌, ◌-◌, ◌^◌, ◌≤◌, ◌<◌, arith, ltb, leb, length, take, drop}
use mathlib.Core.List.{append-nil, flat_map}
use native.Mathlib.Nat.{mod-eq_of_lt}
use borrow.Author.Tests.{lt-ltb, le-leb, lt-leb}
use lib.Count.{ones}
use lib.ListN.{set, replicate, length-append, length-map}
use lib.Seq.{append_snoc, take_at, drop_at, sets}
use Rattle.adoption.specs.declared.cells.Masks.{Masks}
use Rattle.adoption.specs.declared.cells.System as cells
use Rattle.adoption.specs.declared.cells.System.TheVariants.{Fine, Refused}
use Rattle.adoption.specs.Stages.{with_cells, untested, cell_bits, system_at, end_system, FitsSystem, with_systems}
use Rattle.bits.proofs.BitLists.{number_spell, length_spell}
use Rattle.bits.specs.BitLists.{number, spell}
use Rattle.format.proofs.Ends.{done_end, test_end, ended_at_lem, gave, then_well, then_badly}
use Rattle.format.proofs.Makes.{system_gives}
use Rattle.format.proofs.Runs.{bind_assoc}
use Rattle.format.proofs.Sames.{and_true, true_and}
use Rattle.format.specs.declared.Head.{Head}
use Rattle.format.specs.declared.Refusal.{Refusal}
use Rattle.format.specs.declared.Refusal.TheVariants.{Size}
use Rattle.format.specs.Ends.{Within, end_from}
use Rattle.format.specs.Good.{good_system, good_systems, good}
use Rattle.format.specs.Masks.{System, Mask, mask, satellites, cells}
use Rattle.format.specs.Messages.{Adopted, ids_of, system_cells, flagged_cells, few_cells, system, systems}
use Rattle.format.specs.Programs.{Ended, ◌>>=◌, taking, numbered, well, badly}
use Rattle.holding.proofs.Built.{few_systems, cells_with, system_built}
use Rattle.holding.proofs.PicturedStrips.{picture_strips, length_strips}
use Rattle.holding.proofs.Places.{ones_places}
use Rattle.holding.proofs.Sounds.{Sounds, picture_sounds}
use Rattle.holding.specs.Building.{ones_in, with_strips, with_system}
use Rattle.holding.specs.declared.Holding.{Holding}
use Rattle.holding.specs.Held.{satellites_held, cells_held}
use Rattle.holding.specs.Pictures.{filled, strips_of, picture_of}

-- ---- a good mask with one more system

abbrev with_one : Mask → System → Mask
with_one m s = record { iod = m.iod; systems = m.systems ++ (s ∷ []) }

good_snoc : (before ss : List System) (s : System) → good_systems before ss ≡ true → good_system (before ++ ss) s ≡ true → good_systems before (ss ++ (s ∷ [])) ≡ true
unfolding good_systems
good_snoc before [] s all more = true_and (rw append-nil at more) refl
good_snoc before (t ∷ ss) s all more =
    let parts = and_true (good_system before t) _ all in
    true_and parts.0 (good_snoc (before ++ (t ∷ [])) ss s parts.1 (rw append_snoc more))

good_with : (m : Mask) (s : System) → good (mask m) ≡ true → good_system m.systems s ≡ true → good (mask (with_one m s)) ≡ true
unfolding good
good_with m s e more =
    let parts = and_true (ltb m.iod 16) _ e in
    true_and parts.0 (good_snoc [] m.systems s parts.1 more)

-- ---- the programs of the systems

-- the first of them and the others
one_first : (head : Head) (n : ℕ) (m : Mask) → with_systems head (suc n) m ≡ (system m.systems >>= (λ s. with_systems head n (with_one m s)))
unfolding with_systems systems
one_first head n m = bind_assoc (system m.systems) _ _

-- one of them up to its cells, and the test of those
then_tested : (before : List System) → system before ≡ (untested (ids_of before) (length (satellites before)) >>= few_cells before)
unfolding system untested with_cells system_cells flagged_cells taking numbered ◌>>=◌
then_tested before = simp bind_assoc

few_end : (before : List System) (s : System) (bs : List ℕ) (end place : ℕ)
    → end_from (few_cells before s) bs end place ≡ cond (leb (length (cells (before ++ (s ∷ [])))) 256) (well s place) (badly Size 0)
unfolding few_cells
few_end before s bs end place = rw (test_end, done_end)

-- ---- the systems left, after those that the holding has

-- where n of them end
abbrev pub ended : Head → List ℕ → ℕ → Mask → ℕ → ℕ → Ended Adopted
ended head bs end m place n = end_from (with_systems head n m) bs end place

-- the holding is the picture of a good mask, and all systems end as n more at a place after that mask's, whatever the head is
pub record Stands (bs : List ℕ) (end : ℕ) (all : Head → Ended Adopted) (h : Holding) (at n : ℕ) : Type 0 where
  pub m : Mask
  pub held : Sounds (mask m) h
  pub there : Within bs end at
  pub left : (head : Head) → all head ≡ ended head bs end m at n

-- before the first
abbrev pub first_mask : ℕ → Mask
first_mask iod = record { iod = iod; systems = [] }

pub none_yet : {bs : List ℕ} {end place : ℕ} (iod n : ℕ) → iod < 16 → Within bs end place → Stands bs end (λ head. ended head bs end (first_mask iod) place n) (picture_of (mask (first_mask iod))) place n
unfolding good good_systems
none_yet iod n small at = record { m = first_mask iod; held = picture_sounds (mask (first_mask iod)) (true_and (lt-ltb iod 16 small) refl); there = at; left = λ head. refl }

-- after the last
pub none_left : {bs : List ℕ} {end : ℕ} {all : Head → Ended Adopted} {h : Holding} {at : ℕ} (s : Stands bs end all h at 0) (head : Head) → all head ≡ well (record { head = head; made = s.m }) at
unfolding with_systems systems ◌>>=◌
none_left s head = s.left head ∙ done_end _ _ _ _

module _ {bs : List ℕ} {end : ℕ} {all : Head → Ended Adopted} {h : Holding} {at n : ℕ} (s : Stands bs end all h at n) where
  count_is : h.count ≡ length s.m.systems
  unfolding picture_of
  count_is = ap (λ (g : Holding). g.count) (sym s.held.picture)

  -- the IDs named so far are the first of the struct's
  pub ids_named : (h.count ≤ length h.ids) × (take h.count h.ids ≡ ids_of s.m.systems)
  unfolding picture_of filled
  ids_named =
      let named = ids_of s.m.systems in
      let rest : List ℕ = replicate (5 - length named) 0 in
      let ids : h.ids ≡ named ++ rest = ap (λ (g : Holding). g.ids) (sym s.held.picture) in
      let long : length named ≡ h.count = length-map s.m.systems _ ∙ sym count_is in
      (omega (arith, s.held.few_systems, s.held.shaped.ids), ap (take h.count) ids ∙ take_at named rest h.count long)

  -- the strips are zero past those of the satellites so far
  pub strips_left : drop h.nsat h.strips ≡ replicate (64 - h.nsat) 0
  unfolding picture_of filled satellites_held
  strips_left =
      let used = flat_map strips_of s.m.systems in
      let strips : h.strips ≡ used ++ replicate (64 - length used) 0 = ap (λ (g : Holding). g.strips) (sym s.held.picture) in
      let long : length used ≡ h.nsat = picture_strips s.m.systems ∙ sym s.held.nsat in
      ap (drop h.nsat) strips ∙ drop_at used (replicate (64 - length used) 0) h.nsat long ∙ ap (λ (n : ℕ). replicate (64 - n) 0) long

-- ---- one more

module _ {bs : List ℕ} {end : ℕ} {all : Head → Ended Adopted} {h : Holding} {at n : ℕ} (s : Stands bs end all h at (suc n)) where
  abbrev before : List System
  before = s.m.systems

  module _ (r : cells.System) (is : end_system bs r ≡ end_from (untested (take h.count h.ids) h.nsat) bs end at) where
    ends : end_from (untested (ids_of before) (length (satellites before))) bs end at ≡ end_system bs r
    unfolding satellites_held
    ends = rw (← (ids_named s).1, ← s.held.nsat) (sym is)

    pub one_refused : {q : Refusal} {missing : ℕ} → r ≡ Refused q missing → (head : Head) → all head ≡ badly q missing
    unfolding end_system
    one_refused same head =
        let cut = then_badly s.there (untested (ids_of before) (length (satellites before))) (few_cells before) (ends ∙ ap (end_system bs) same) in
        s.left head ∙ rw (one_first head n s.m) (then_badly s.there (system before) _ (rw (then_tested before) cut))

    -- read up to its cells
    module _ {k : Masks} {flag : Bool} {from : ℕ} (same : r ≡ Fine k flag from) where
      abbrev new : System
      new = system_at bs k flag from

      abbrev next : ℕ
      next = from + cell_bits k flag

      ran : end_from (untested (ids_of before) (length (satellites before))) bs end at ≡ well new next
      unfolding end_system
      ran = ends ∙ ap (end_system bs) same

      pub room_for : FitsSystem h.nsat r → (k.satellites < 2 ^ 40) × (h.nsat + ones k.satellites ≤ 64)
      unfolding FitsSystem
      room_for fits = rw same at fits

      -- where its cells are not too many, the place after it
      pub after : Within bs end next
      after = ended_at_lem s.there (untested (ids_of before) (length (satellites before))) ran

      long : length new.signals ≡ 16
      unfolding system_at
      long = length_spell 16 k.signals

      -- its cells with those before it
      abbrev ncell : ℕ
      ncell = h.ncell + ones_in (strips_of new)

      cells_are : length (cells (before ++ (new ∷ []))) ≡ ncell
      unfolding cells_held
      cells_are = sym (cells_with before new long) ∙ ap (λ (c : ℕ). c + ones_in (strips_of new)) (sym s.held.ncell)

      tested : end_from (system before) bs end at ≡ cond (leb ncell 256) (well new next) (badly Size 0)
      tested =
          rw (then_tested before)
          (then_well s.there (untested (ids_of before) (length (satellites before))) (few_cells before) ran ∙ few_end before new bs end next
          ∙ ap (λ (c : ℕ). cond (leb c 256) (well new next) (badly Size 0)) cells_are)

      pub too_many : 256 < ncell → (head : Head) → all head ≡ badly Size 0
      too_many over head =
          s.left head ∙ rw (one_first head n s.m) (then_badly s.there (system before) _ (tested ∙ rw (lt-leb ncell 256 over)))

      -- few enough
      module _ (few : ncell ≤ 256) where
        fine : end_from (system before) bs end at ≡ well new next
        fine = tested ∙ rw (le-leb ncell 256 few)

        good_more : good (mask (with_one s.m new)) ≡ true
        good_more = good_with s.m new s.held.good_held (gave s.there (system before) (system_gives before) fine).1.0

        -- there is a slot for it
        pub slot : h.count < 5
        slot = omega (arith, count_is s, simp length-append at (few_systems (with_one s.m new) good_more))

        module _ (fits : FitsSystem h.nsat r) (small : k.signals < 2 ^ 16) where
          strips_are : length (strips_of new) ≡ ones k.satellites
          unfolding system_at
          strips_are = length_strips new ∙ sym (ones_places 40 k.satellites 0 (room_for fits).0)

          built : with_system (with_strips h (strips_of new)) k.id k.satellites k.signals flag ≡ picture_of (mask (with_one s.m new))
          unfolding system_at satellites_held
          built =
              let sats-back : number (spell 40 k.satellites) ≡ k.satellites = number_spell 40 k.satellites ∙ mod-eq_of_lt (room_for fits).0 in
              let signals-back : number (spell 16 k.signals) ≡ k.signals = number_spell 16 k.signals ∙ mod-eq_of_lt small in
              let room : length (satellites before) + length (strips_of new) ≤ 64 = omega (arith, s.held.nsat, strips_are, (room_for fits).1) in
              ap (λ (g : Holding). with_system (with_strips g (strips_of new)) k.id k.satellites k.signals flag) (sym s.held.picture)
              ∙ rw (sats-back, signals-back) at (system_built s.m new (omega (arith, count_is s, slot)) room long)

          -- with its strips and its slot the holding stands after it
          pub one_fine : {strips : List ℕ} {nsat cells place : ℕ} → strips ≡ sets h.strips h.nsat (strips_of new) → nsat ≡ h.nsat + ones k.satellites → cells ≡ ncell → place ≡ next
              → Stands bs end all
              (record {
                held = h.held;
                iod = h.iod;
                count = h.count + 1;
                ids = set h.ids h.count k.id;
                satellites = set h.satellites h.count k.satellites;
                signals = set h.signals h.count k.signals;
                flags = set h.flags h.count flag;
                strips = strips;
                nsat = nsat;
                ncell = cells;
              })
              place n
          unfolding with_system with_strips
          one_fine stored more counted there =
              rw (stored, more ∙ ap (λ (l : ℕ). h.nsat + l) (sym strips_are), counted, there)
              (record {
                m = with_one s.m new;
                held = subst (λ (g : Holding). Sounds (mask (with_one s.m new)) g) (sym built) (picture_sounds (mask (with_one s.m new)) good_more);
                there = after;
                left = λ head. s.left head ∙ rw (one_first head n s.m) (then_well s.there (system before) _ fine);
              })
