-- `adoption::grow::strips` meets its contract. Assumes nothing.
use Rattle.bits.proofs.Words.{◌≡◌, sym, ap, ap₂, ◌∙◌, true, List, ℕ, ◌-◌, ◌*◌, ◌^◌, ◌≤◌, ◌<◌, arith, rules}
use lib.Count.{ones, ones-le}
use lib.ListN.{replicate}
use lib.Seq.{sets}
use Rattle.adoption.specs.declared.cells.Masks.{Masks}
use Rattle.adoption.specs.Stages.{system_at}
use Rattle.adoption.proofs.Strips.{few_bits, strips_at, flag_bits, plain_strips, flagged_strips, no_signals, all_ones, all_equal, zeros_stay}
use Rattle.holding.specs.Building.{ones_in}
use Rattle.holding.specs.Pictures.{strips_of}
use Rattle.adoption.proofs.grow.strips.Statement.{statement}
use Rattle.adoption.proofs.grow.strips.Tie as tie

-- how many satellites and signals there are
module _ (c : tie.After-count-w) where
  abbrev s : tie.Start
  s = c.before.before.before.before

  abbrev m : Masks
  m = s.args.m

  low : m.signals < 2 ^ 16
  low = omega (arith, c.struct_known-1.given)

  few : c.count-n.result * c.count-w.result ≤ 1024
  few = omega (arith, ap₂ ◌*◌ c.count-n.ensures c.count-w.ensures, few_bits m s.requires.1 low)

  abbrev all : List ℕ
  all = strips_of (system_at s.args.bytes.now m s.args.flag s.args.place)

returns-then-not-flag : tie.Need-returns-then-not-flag
returns-then-not-flag c =
    let p = c.before.before.before in
    let x = (s p).args in
    let plain = plain_strips x.bytes.now (m p) x.place (s p).requires.1 (low p) c.if-not-flag.true in
    ((all_ones (m p) plain p.count-n.ensures p.count-w.ensures, few p), c.equal.ensures ∙ ap (sets x.strips.now x.from) (all_equal (m p) plain p.count-n.ensures p.count-w.ensures))

-- with the flag
module _ (c : tie.After-struct_known-2-1) where
  abbrev p : tie.After-count-w
  p = c.before.before

  on : (s p).args.flag ≡ true
  on = c.if-not-flag.false

  flagged : all p ≡ strips_at (s p).args.bytes.now (s p).args.place (ones (m p).satellites) (m p).signals
  flagged = flagged_strips (s p).args.bytes.now (m p) (s p).args.place (s p).requires.1 (low p) on (s p).requires.2

returns-then-m-eq0 : tie.Need-returns-then-m-eq0
returns-then-m-eq0 c =
    let k = p c.before in
    let x = (s k).args in
    let none = c.if-m-eq0.true in
    let plain = flagged c.before ∙ sym (no_signals x.bytes.now x.place (ones x.m.satellites) x.m.signals none) in
    let zeros = zeros_stay x.strips.now x.from (ones x.m.satellites) (64 - x.from) (s k).requires.4 (omega (arith, (s k).requires.0)) in
    ((all_ones (m k) plain k.count-n.ensures k.count-w.ensures, few k), sym (ap (sets x.strips.now x.from) (plain ∙ ap (replicate (ones x.m.satellites)) none) ∙ zeros))

masked-requires : tie.Need-masked-requires
masked-requires c κs =
    let q = c.before.before in
    let x = (s (p q)).args in
    let n = (p q).count-n.ensures in
    let bits = ap (λ (k : ℕ). k * ones x.m.signals) n in
    (search rules, omega (arith, ones-le 40 x.m.satellites (s (p q)).requires.1), omega (arith, bits, flag_bits x.m (on q), (s (p q)).requires.2), search rules)

returns : tie.Need-returns
returns c =
    let q = c.before.before.before in
    let x = (s (p q)).args in
    let same = ap (λ (n : ℕ). strips_at x.bytes.now x.place n x.m.signals) (p q).count-n.ensures ∙ sym (flagged q) in
    ((c.masked.ensures.0.0 ∙ ap ones_in same, c.masked.ensures.0.1), c.masked.ensures.1 ∙ ap (sets x.strips.now x.from) same)

pub strips_spec : {M : Type 1} → statement M
strips_spec =
    tie.close
    (tie.spec (λ c κs. search rules) (λ c. search rules) (λ c κs. search rules) (λ c κs. search rules)
    (λ c. omega (arith, few c.before.before.before)) returns-then-not-flag
    (λ c. omega (arith, few (p c.before))) returns-then-m-eq0 masked-requires returns)
