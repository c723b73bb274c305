-- `adoption::systems::all` meets its contract. The loop's invariant: the holding has the systems read so far, and all end as those left do after
-- them. Assumes nothing.
use Rattle.bits.proofs.Words.{◌≡◌, sym, ap, ◌∙◌, ℕ, suc, ◌+◌, ◌-◌, ◌^◌, ◌≤◌, ◌<◌, arith, rules}
use mathlib.Core.List.{flat_map}
use native.Mathlib.Nat.{sub-zero}
use lib.Count.{ones}
use Rattle.adoption.proofs.Offered.{offered}
use Rattle.adoption.proofs.ManySystems.{ended, first_mask, Stands, none_yet, none_left, ids_named, strips_left, one_refused, room_for, after, too_many, slot, one_fine}
use Rattle.adoption.specs.Adoptions.{keeping, made, made_by}
use Rattle.adoption.specs.declared.Adoption.{Adoption}
use Rattle.adoption.specs.declared.cells.Masks.{Masks}
use Rattle.adoption.specs.declared.Ending.TheVariants.{Refused}
use Rattle.adoption.specs.Stages.{cell_bits}
use Rattle.format.specs.declared.Refusal.{Refusal}
use Rattle.format.specs.Ends.{Within}
use Rattle.format.specs.Masks.{satellites, cells}
use Rattle.format.specs.Messages.{Adopted}
use Rattle.format.specs.Programs.{Ended, badly}
use Rattle.holding.specs.declared.Holding.{Holding}
use Rattle.holding.specs.Outlines.{whole_of}
use Rattle.holding.specs.Pictures.{filled, picture_of}
use Rattle.adoption.proofs.systems.all.Statement.{statement}
use Rattle.adoption.proofs.systems.all.Tie as tie

abbrev invariant-loop-h : tie.invariant-loop-h
invariant-loop-h held bytes end satellites strips n at₀ h₀ at h = Stands bytes end (λ head. ended head bytes end (first_mask h₀.iod) at₀ n) h at (n - h.count)

abbrev decreases-loop-h : tie.decreases-loop-h
decreases-loop-h held bytes end satellites strips n at₀ h₀ at h = n - h.count

-- what is held when it begins
abbrev kept : tie.Start invariant-loop-h decreases-loop-h → Holding
kept s = whole_of s.args.held s.args.satellites.now s.args.strips.now

-- a refusal leaves it
stays : (s : tie.Start invariant-loop-h decreases-loop-h) {r : Adoption} {q : Refusal} {missing : ℕ} {all : Ended Adopted} → r ≡ keeping (Refused q missing) → all ≡ badly q missing
    → made s.args.held r s.args.satellites.now s.args.strips.now ≡ made_by (kept s) all
unfolding made_by
stays s {r} {q} {missing} is ends =
    ap (λ (a : Adoption). made s.args.held a s.args.satellites.now s.args.strips.now) is ∙ ap (λ (e : Ended Adopted). made_by (kept s) e) (sym ends)

-- one more, of those left
module _ (c : tie.After-read_system invariant-loop-h decreases-loop-h) where
  abbrev l : tie.At-loop-h invariant-loop-h decreases-loop-h
  l = c.before.before.before.before

  abbrev start : tie.Start invariant-loop-h decreases-loop-h
  start = l.before.before

  abbrev more : ℕ
  more = l.args.before.systems - (l.loop-h.h.count + 1)

  stands :
      let x = l.args in
      Stands x.bytes.now x.end (λ head. ended head x.bytes.now x.end (first_mask x.before.iod) x.before.place x.before.systems) l.loop-h.h l.loop-h.next (suc more)
  stands =
      let e : l.args.before.systems - l.loop-h.h.count ≡ suc more = omega arith in
      rw e at l.loop-h.invariant

-- where it is read up to its cells
module _ (c : tie.In-Fine invariant-loop-h decreases-loop-h) where
  abbrev read : tie.After-read_system invariant-loop-h decreases-loop-h
  read = c.before

  abbrev k : Masks
  k = c.in-Fine.m

  fits : (k.satellites < 2 ^ 40) × ((l read).loop-h.h.nsat + ones k.satellites ≤ 64)
  fits = room_for (stands read) read.read_system.result read.read_system.ensures.0 c.in-Fine.is read.read_system.ensures.1

  next :
      let x = (l read).args in
      Within x.bytes.now x.end (c.in-Fine.from + cell_bits k c.in-Fine.flag)
  next = after (stands read) read.read_system.result read.read_system.ensures.0 c.in-Fine.is

  small : k.signals < 2 ^ 16
  small = omega (arith, c.in-Fine.known_told-in-Fine-1-own.given)

-- its strips written
module _ (c : tie.After-strips invariant-loop-h decreases-loop-h) where
  abbrev q : tie.In-Fine invariant-loop-h decreases-loop-h
  q = c.before.before

returns-then-h-gt-CELLS : tie.Need-returns-then-h-gt-CELLS invariant-loop-h decreases-loop-h
returns-then-h-gt-CELLS c =
    let s = c.before.before in
    let p = q s in
    λ head. stays (start (read p)) c.keeping-then-h-gt-CELLS.ensures (too_many (stands (read p)) (read p).read_system.result (read p).read_system.ensures.0 p.in-Fine.is (omega (arith, s.strips.ensures.0.0, c.if-h-gt-CELLS.true)) head)

-- and few enough
module _ (c : tie.Else-h-gt-CELLS invariant-loop-h decreases-loop-h) where
  abbrev p : tie.In-Fine invariant-loop-h decreases-loop-h
  p = q c.before

  few : (l (read p)).loop-h.h.count < 5
  few = slot (stands (read p)) (read p).read_system.result (read p).read_system.ensures.0 p.in-Fine.is (omega (arith, c.strips.ensures.0.0, c.if-h-gt-CELLS.false))

loop-again : tie.Need-loop-h-preserved invariant-loop-h decreases-loop-h
loop-again c =
    let e = c.before.before in
    let p = p e in
    let strips = e.strips.ensures in
    one_fine (stands (read p)) (read p).read_system.result (read p).read_system.ensures.0 p.in-Fine.is (omega (arith, strips.0.0, e.if-h-gt-CELLS.false)) (read p).read_system.ensures.1 (small p) strips.1
    (ap (λ (n : ℕ). (l (read p)).loop-h.h.nsat + n) c.count.ensures) (ap (λ (n : ℕ). (l (read p)).loop-h.h.ncell + n) strips.0.0) (ap (λ (w : ℕ). p.in-Fine.from + w) c.width.ensures)

-- all are read: what they make is settled with what is held
returns : tie.Need-returns invariant-loop-h decreases-loop-h
returns c =
    let o = c.before.before.before.before.before.before.before in
    let a = o.before.before in
    let x = a.args in
    let h = a.loop-h.h in
    let none : x.before.systems - h.count ≡ 0 = omega arith in
    let s = rw none at a.loop-h.invariant in
    λ head.
    c.settled.ensures
    ∙ offered (kept a.before.before) a.requires.2 s.m s.held head a.loop-h.next o.outline-outline.ensures
    ∙ ap (made_by (kept a.before.before)) (sym (none_left s head))

pub all_spec : {M : Type 1} → statement M
unfolding filled picture_of satellites cells flat_map
all_spec =
    tie.close
    (tie.spec invariant-loop-h decreases-loop-h
    (λ c. rw sub-zero (none_yet c.args.before.iod c.args.before.systems c.requires.0 c.requires.1))
    (λ c. omega (arith, c.loop-h.invariant.held.few_systems)) (λ c. omega (arith, c.loop-h.invariant.held.few_systems)) (λ c. omega (arith, c.loop-h.invariant.held.few_satellites))
    (λ c κs. let l = c.loop-h.invariant in ((ids_named l).0, l.held.few_satellites, l.there)) (λ c. search rules) (λ c κs. search rules)
    (λ c head. let p = c.before.before in stays (start p) c.keeping.ensures (one_refused (stands p) p.read_system.result p.read_system.ensures.0 c.in-Refused.is head))
    (λ c. search rules)
    (λ c κs. ((fits c.before).1, (fits c.before).0, omega (arith, next c.before), omega (arith, next c.before), strips_left (stands (read c.before))))
    (λ c. omega (arith, c.strips.ensures.0.1, (l (read (q c))).loop-h.invariant.held.few_cells_lem)) (λ c κs. search rules) returns-then-h-gt-CELLS (λ c κs. search rules)
    (λ c. omega (arith, c.count.ensures, (fits (p c.before)).1)) (λ c. omega (arith, c.count.ensures, (fits (p c.before)).1)) (λ c. few c.before) (λ c. omega (arith, few c.before)) (λ c. few c.before)
    (λ c. omega (arith, few c.before)) (λ c. few c.before) (λ c. few c.before) (λ c. omega (arith, few c.before)) (λ c. omega (arith, few c.before)) (λ c κs. (fits (p c.before)).0)
    (λ c. omega (arith, c.width.ensures, next (p c.before.before))) (λ c. omega arith) loop-again (λ c κs. search rules) (λ c κs. search rules) returns)
