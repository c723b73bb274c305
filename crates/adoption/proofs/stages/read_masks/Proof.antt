-- `adoption::stages::read_masks` meets its contract. Assumes nothing.
use Rattle.bits.proofs.Words.{◌≡◌, sym, ap, ◌∙◌, subst, true, cond, ℕ, ◌+◌, ◌^◌, ◌≤◌, ◌<◌, arith, rules, leb}
use borrow.Author.Tests.{le-leb, lt-leb}
use lib.Count.{ones, ones-le}
use Rattle.format.proofs.Ends.{after_field, fits, bits_short}
use Rattle.adoption.proofs.StageEnds.{opens_at, satellites_end}
use Rattle.format.specs.Ends.{Within, end_from}
use Rattle.adoption.specs.Stages.{end_masked, FitsMasked}
use Rattle.bits.specs.BitLists.{spell}
use Rattle.std.specs.Prelude.{Ok}
use Rattle.bits.specs.Short.{taken_at}
use Rattle.format.specs.Assigned.{satellite_places, assigned}
use Rattle.format.specs.declared.Refusal.TheVariants.{Size, Reserved}
use Rattle.format.specs.Messages.{system_masks, system_signals}
use Rattle.format.specs.Programs.{badly}
use Rattle.heads.specs.declared.Front.{Front}
use Rattle.heads.specs.Fronts.{Opens}
use Rattle.adoption.proofs.stages.read_masks.Statement.{statement}
use Rattle.adoption.proofs.stages.read_masks.Tie as tie

-- the satellite mask, where its bits are there
module _ (c : tie.In-Ok) where
  abbrev s : tie.Start
  s = c.before.before.before

  abbrev sats : ℕ
  sats = c.in-Ok.satellites

  there : taken_at s.args.bytes.now s.args.f.end (s.args.f.start + 4) 40 ≡ Ok sats
  there = sym (c.taken-taken.ensures _ s.requires.3) ∙ c.in-Ok.is

  low : sats < 2 ^ 40
  low = fits s.requires.2 40 there

  after : Within s.args.bytes.now s.args.f.end (s.args.f.start + 4 + 40)
  after = after_field s.requires.2 40 there

  ends :
      end_from (system_masks s.args.n s.args.id) s.args.bytes.now s.args.f.end (s.args.f.start + 4)
      ≡ cond (assigned satellite_places s.args.id (spell 40 sats))
      (cond (leb (s.args.n + ones sats) 64) (end_from (system_signals s.args.id (spell 40 sats)) s.args.bytes.now s.args.f.end (s.args.f.start + 4 + 40)) (badly Size 0)) (badly Reserved 0)
  ends = satellites_end s.requires.2 s.args.n s.args.id there

-- how many satellites there are
module _ (c : tie.After-count) where
  abbrev p : tie.In-Ok
  p = c.before.before.before

  few : c.count.result ≤ 40
  few = omega (arith, c.count.ensures, ones-le 40 (sats p) (low p))

  on : assigned satellite_places (s p).args.id (spell 40 (sats p)) ≡ true
  on = sym c.satellites_assigned.ensures ∙ c.if-not-satellites_assigned.false

-- the front of the signal mask
module _ (c : tie.After-front_at) where
  abbrev k : tie.In-Ok
  k = p c.before.before.before

  opens : Opens (s k).args.bytes.now c.front_at.result
  opens = opens_at (after k) c.front_at.ensures

returns-else-n-count-gt-SATELLITES : tie.Need-returns-else-n-count-gt-SATELLITES
returns-else-n-count-gt-SATELLITES c =
    let count = c.before.before.before.before in
    let at = p count in
    let x = (s at).args in
    let fit = le-leb (x.n + ones (sats at)) 64 (omega (arith, count.count.ensures, c.if-n-count-gt-SATELLITES.false)) in
    let front = c.front_at.ensures in
    let read = c.read_signals.ensures in
    let same = ap (λ (g : Front). end_from (system_signals x.id (spell 40 (sats at))) x.bytes.now g.end g.start) front in
    (read.0 x.bytes.now (opens c.before) ∙ same ∙ sym (ends at ∙ rw (on count, fit)), subst (λ (g : Front). FitsMasked x.bytes.now g.end c.read_signals.result) front (read.1 x.bytes.now (opens c.before)))

pub read_masks_spec : {M : Type 1} → statement M
unfolding end_masked FitsMasked system_masks
read_masks_spec =
    tie.close
    (tie.spec (λ c κs. (record { bytes = _; opens = c.requires.3 }, omega arith, c.requires.2.room)) (λ c. search rules) (λ c. search rules)
    (λ c κs. (search rules, low c)) (λ c. (sym (ends c.before.before ∙ rw (sym c.satellites_assigned.ensures ∙ c.if-not-satellites_assigned.true)), tt))
    (λ c κs. search rules) (λ c. omega (arith, few c))
    (λ c. let at = p c.before in (sym (ends at ∙ rw (on c.before, lt-leb ((s at).args.n + ones (sats at)) 64 (omega (arith, c.count.ensures, c.if-n-count-gt-SATELLITES.true)))), tt))
    (λ c. search rules) (λ c. omega (arith, after (p c.before.before))) (λ c κs. search rules)
    (λ c κs. (search rules, low (k c), record { bytes = _; opens = opens c }))
    (λ c. (sym (bits_short c.requires.2 40 (sym (c.taken-taken.ensures _ c.requires.3) ∙ c.in-Err.is) _), tt))
    returns-else-n-count-gt-SATELLITES)
