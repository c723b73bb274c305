-- `putting::size::longer_in` meets its contract. The loop's invariant: what is counted, and the rows that are left. Assumes nothing.
use Rattle.bits.proofs.Words.{◌≡◌, sym, ap, ◌∙◌, ◌+◌, ◌-◌, ◌*◌, arith, rules, get_or, ℤ, pos}
use Rattle.format.specs.Messages.{iode_width}
use Rattle.putting.proofs.RowBits.{value_read}
use Rattle.putting.proofs.RowSizes.{Longer, longer_start, longer_next, longer_end}
use Rattle.putting.proofs.size.longer_in.Statement.{statement}
use Rattle.putting.proofs.size.longer_in.Tie as tie
use Rattle.putting.specs.Putting.{system_of}

abbrev invariant-loop-i : tie.invariant-loop-i
invariant-loop-i rows count more₀ i₀ more i = Longer rows count more i

abbrev decreases-loop-i : tie.decreases-loop-i
decreases-loop-i rows count more₀ i₀ more i = count - i

loop-again : tie.Need-loop-i-preserved invariant-loop-i decreases-loop-i
loop-again c =
    let a = c.before in
    let t = a.before in
    let l = t in
    let key : ℤ = get_or l.args.rows.now (8 * l.loop-i.i) (pos 0) in
    let width : iode_width (system_of key) ≡ 8 + c.longer-more.result = ap (λ (v : ℤ). iode_width (system_of v)) (sym (value_read key a.longer-arg-1.given)) ∙ c.longer-more.ensures.0 in
    longer_next l.loop-i.invariant t.loop-i-test.true width c.longer-more.ensures.1

pub longer_in_spec : {M : Type 1} → statement M
longer_in_spec =
    tie.close
    (tie.spec invariant-loop-i decreases-loop-i (λ c. longer_start c.args.rows.now c.args.count) (λ c. search rules) (λ c. search rules) (λ c. search rules) (λ c κs. search rules)
    (λ c. search rules) (λ c. search rules) (λ c. search rules) loop-again (λ c. let l = c.loop-i in (longer_end l.invariant c.loop-i-test.false, omega (arith, l.invariant.some, l.invariant.few))))
