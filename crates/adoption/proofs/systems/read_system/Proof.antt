-- `adoption::systems::read_system` meets its contract: the parts one after the other. Assumes nothing.
use Rattle.bits.proofs.Words.{◌≡◌, sym, ap, ◌∙◌, List, ℕ, ◌+◌, ◌^◌, ◌≤◌, ◌<◌, arith, rules, take}
use borrow.Author.Tests.{leb-true}
use lib.Count.{ones}
use Rattle.adoption.proofs.StageEnds.{opens_at, masks_fit_lem}
use Rattle.adoption.specs.Stages.{end_named, masks_by, end_masked, FitsMasked, with_cells, untested, end_system, FitsSystem}
use Rattle.format.proofs.Ends.{ended_at_lem, gave, then_well, then_badly}
use Rattle.format.proofs.Makes.{id_gives, masks_give}
use Rattle.format.proofs.Sames.{and_true}
use Rattle.format.specs.Assigned.{known}
use Rattle.format.specs.Ends.{Within, end_from}
use Rattle.format.specs.Masks.{System}
use Rattle.format.specs.Messages.{BothMasks, system_id, system_masks}
use Rattle.format.specs.Programs.{Program, ◌>>=◌, Ended, well}
use Rattle.heads.specs.declared.Front.{Front}
use Rattle.heads.specs.Fronts.{Opens}
use Rattle.holding.proofs.Places.{ones_places}
use Rattle.adoption.proofs.systems.read_system.Statement.{statement}
use Rattle.adoption.proofs.systems.read_system.Tie as tie

-- the front is the system's
module _ (c : tie.After-front_at-f) where
  abbrev s : tie.Start
  s = c.before.before.before

  abbrev bs : List ℕ
  bs = s.args.bytes.now

  abbrev f : Front
  f = c.front_at-f.result

  opens : Opens bs f
  opens = opens_at s.requires.2 c.front_at-f.ensures

  -- where a program ends from a place on
  abbrev ends : {A : Type 0} → Program A → ℕ → Ended A
  ends p place = end_from p bs f.end place

  -- the program of the ID, and of the whole
  abbrev first : Program ℕ
  first = system_id (take s.args.count s.args.ids.now)

  abbrev all : Program System
  all = untested (take s.args.count s.args.ids.now) s.args.nsat

  same : ends all f.start ≡ end_from all bs s.args.end s.args.place
  same = ap (λ (g : Front). end_from all bs g.end g.start) c.front_at-f.ensures

-- a refused ID
returns-in-Refused : tie.Need-returns-in-Refused
unfolding end_named end_system FitsSystem untested
returns-in-Refused c =
    let t = c.before.before in
    (sym (then_badly (opens t).within (first t) _ (sym (c.read_id.ensures (bs t) (opens t)) ∙ ap (end_named (f t).start) c.in-Refused.is)) ∙ same t, tt)

-- after an ID
module _ (c : tie.In-Fine) where
  abbrev t : tie.After-front_at-f
  t = c.before.before

  abbrev id : ℕ
  id = c.in-Fine.id

  abbrev next : ℕ
  next = (f t).start + 4

  fine : ends t (first t) (f t).start ≡ well id next
  unfolding end_named
  fine = sym (c.read_id.ensures (bs t) (opens t)) ∙ ap (end_named (f t).start) c.in-Fine.is

  there : Within (bs t) (f t).end next
  there = ended_at_lem (opens t).within (first t) fine

  new : id < 5
  unfolding known
  new = omega (arith, leb-true id 4 (and_true (known id) _ (gave (opens t).within (first t) (id_gives (take (s t).args.count (s t).args.ids.now)) fine).1.0).0)

  -- the system from its masks on
  after : end_from (all t) (bs t) (s t).args.end (s t).args.place ≡ ends t (system_masks (s t).args.nsat id >>= with_cells id) next
  unfolding untested
  after = sym (same t) ∙ then_well (opens t).within (first t) _ fine

-- refused masks
returns-in-Refused-read_masks : tie.Need-returns-in-Refused-read_masks
unfolding end_masked end_system FitsSystem
returns-in-Refused-read_masks c =
    let p = c.before.before in
    (sym (after p ∙ then_badly (there p) (system_masks (s (t p)).args.nsat (id p)) _ (sym c.read_masks.ensures.0 ∙ ap end_masked c.in-Refused-read_masks.is)), tt)

-- after the masks
module _ (c : tie.In-Fine-read_masks) where
  abbrev p : tie.In-Fine
  p = c.before.before

  abbrev sats : ℕ
  sats = c.in-Fine-read_masks.satellites

  abbrev g : Front
  g = c.in-Fine-read_masks.next

  abbrev masks : BothMasks
  masks = masks_by sats c.in-Fine-read_masks.signals

  both : ends (t p) (system_masks (s (t p)).args.nsat (id p)) (next p) ≡ well masks (g.start + 16)
  unfolding end_masked
  both = sym c.read_masks.ensures.0 ∙ ap end_masked c.in-Fine-read_masks.is

  fit : (sats < 2 ^ 40) × Opens (bs (t p)) g × (g.end ≡ (f (t p)).end)
  unfolding FitsMasked
  fit = rw c.in-Fine-read_masks.is at c.read_masks.ensures.1

  room : g.start + 16 ≤ g.end
  room = omega (arith, fit.2, ended_at_lem (there p) (system_masks (s (t p)).args.nsat (id p)) both)

  few : (s (t p)).args.nsat + ones sats ≤ 64
  few = rw (ones_places 40 sats 0 fit.0) (leb-true _ 64 (gave (there p) (system_masks (s (t p)).args.nsat (id p)) (masks_give (s (t p)).args.nsat (id p)) both).1.0.few)

returns-in-Fine-read_masks : tie.Need-returns-in-Fine-read_masks
returns-in-Fine-read_masks c =
    let q = c.before in
    let t = t (p q) in
    let n = (s t).args.nsat in
    let last = c.read_flag.ensures.0 (bs t) (fit q).1 ∙ ap (λ (e : ℕ). end_from (with_cells (id (p q)) (masks q)) (bs t) e ((g q).start + 16)) (fit q).2 in
    (last ∙ sym (after (p q) ∙ then_well (there (p q)) (system_masks n (id (p q))) _ (both q)), masks_fit_lem _ n c.read_flag.result c.read_flag.ensures.1 (fit q).0 (few q))

pub read_system_spec : {M : Type 1} → statement M
read_system_spec =
    tie.close
    (tie.spec (λ c κs. search rules) (λ c κs. (search rules, record { bytes = bs c; opens = opens c })) (λ c. search rules) (λ c. search rules) (λ c κs. (search rules, new c, there c, opens (t c))) (λ c. search rules) (λ c. search rules)
    (λ c κs. ((fit c).0, record { bytes = _; opens = (fit c).1 }, room c)) returns-in-Refused returns-in-Refused-read_masks returns-in-Fine-read_masks)
