-- `adoption::cells::read_flag` meets its contract. Assumes nothing.
use Rattle.bits.proofs.Words.{◌≡◌, refl, sym, ap, ◌∙◌, not, List, ℕ, zero, suc, ◌+◌, ◌-◌, ◌^◌, ◌≤◌, ◌<◌, arith, rules, eqb}
use Rattle.adoption.proofs.StageEnds.{cells_cut, cells_there}
use Rattle.adoption.specs.Stages.{with_cells, end_system, HasMasks}
use Rattle.bits.specs.declared.read.Short.{Short}
use Rattle.std.specs.Prelude.{Result, Ok}
use Rattle.bits.specs.Short.{taken_at}
use Rattle.format.proofs.Ends.{onward, after_field, fits, number_short}
use Rattle.format.specs.declared.Refusal.TheVariants as Refusal
use Rattle.format.specs.Ends.{Within}
use Rattle.format.specs.Programs.{badly}
use Rattle.heads.specs.Fronts.{Opens}
use Rattle.adoption.proofs.cells.read_flag.Statement.{statement}
use Rattle.adoption.proofs.cells.read_flag.Tie as tie

-- a bit is set where it is not zero
set : (n : ℕ) → n < 2 → eqb n 1 ≡ not (eqb n 0)
set zero small = refl
set (suc zero) small = refl
set (suc (suc n)) small = absurd (omega arith)

-- its bit as it was taken, of any string with this front
module _ (c : tie.After-taken-taken) where
  abbrev s : tie.Start
  s = c.before

  abbrev place : ℕ
  place = s.args.f.start + 16

  module _ {bs : List ℕ} (opens : Opens bs s.args.f) where
    at : Within bs s.args.f.end place
    at = onward opens.within s.requires.2

    taken_is : {t : Result ℕ Short} → c.taken-taken.result ≡ t → taken_at bs s.args.f.end place 1 ≡ t
    taken_is e = sym (c.taken-taken.ensures bs opens) ∙ e

-- the flag, where its bit is there
module _ (c : tie.In-Ok) where
  abbrev took : tie.After-taken-taken
  took = c.before

  abbrev n : ℕ
  n = c.in-Ok.bit

  there : {bs : List ℕ} → Opens bs (s took).args.f → taken_at bs (s took).args.f.end (place took) 1 ≡ Ok n
  there opens = taken_is took opens c.in-Ok.is

  after : place took + 1 ≤ (s took).args.f.end
  after = let o = (s took).requires.1.opens in (after_field (at took o) 1 (there o)).room

  low : (s took).args.m.signals < 2 ^ 16
  low = (s took).well_formed.0.1.1.1.1.0.1

  is : eqb n 1 ≡ not (eqb n 0)
  is = let o = (s took).requires.1.opens in set n (fits (at took o) 1 (there o))

returns-then-left-cells : tie.Need-returns-then-left-cells
unfolding end_system HasMasks
returns-then-left-cells c =
    let p = c.before.before.before.before in
    let x = (s (took p)).args in
    let w = c.width-cells.ensures in
    let missing = ap (λ (w : ℕ). badly Refusal.Short (w - (x.f.end - (x.f.start + 16 + 1)))) w in
    (λ bs opens. missing ∙ sym (cells_cut (at (took p) opens) x.m (s (took p)).requires.0 (low p) (there p opens) (is p) (omega (arith, w, c.if-left-cells.true))), tt)

returns-else-left-cells : tie.Need-returns-else-left-cells
unfolding end_system HasMasks
returns-else-left-cells c =
    let p = c.before.before.before.before in
    (λ bs opens. sym (cells_there (at (took p) opens) (s (took p)).args.m (s (took p)).requires.0 (low p) (there p opens) (is p) (omega (arith, c.width-cells.ensures, c.if-left-cells.false))), refl)

pub read_flag_spec : {M : Type 1} → statement M
unfolding end_system with_cells HasMasks
read_flag_spec =
    tie.close
    (tie.spec (λ c κs. search rules) (λ c. search rules) (λ c. search rules) (λ c. omega (arith, after c.before)) (λ c. omega (arith, after c.before))
    (λ c κs. (s (took c.before)).requires.0) (λ c. after c.before.before.before) (λ c. search rules) returns-then-left-cells
    (λ c. let took = c.before in (λ bs opens. sym (number_short (at took opens) 1 (taken_is took opens c.in-Err.is) _), tt))
    returns-else-left-cells)
