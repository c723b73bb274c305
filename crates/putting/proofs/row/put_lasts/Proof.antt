-- `putting::row::put_lasts` meets its contract. The loop's invariant: the rows that are left, from what stands. Assumes nothing.
use Rattle.bits.proofs.Words.{List, ◌-◌, rules, ℤ}
use Rattle.putting.proofs.OwnColumns.{Own, own_bare}
use Rattle.putting.proofs.RowLoops.{Going, going_start, going_row, going_next, going_end, row_part}
use Rattle.putting.proofs.row.put_lasts.Statement.{statement}
use Rattle.putting.proofs.row.put_lasts.Tie as tie

abbrev invariant-loop-i : tie.invariant-loop-i
invariant-loop-i bytes₀ rows count s p₀ i₀ bytes p i = Going s rows count p₀ bytes₀ i p bytes

abbrev decreases-loop-i : tie.decreases-loop-i
decreases-loop-i bytes₀ rows count s p₀ i₀ bytes p i = count - i

own : (s : tie.Start invariant-loop-i decreases-loop-i) {row : List ℤ} → Own s.args.s row s.args.s
own s = own_bare s.args.s s.requires.2.formed s.requires.0

put_last-p-requires : tie.Need-put_last-p-requires invariant-loop-i decreases-loop-i
put_last-p-requires c κs =
    let t = c.before.before in
    let l = t.before in
    let s = l.before.before in
    (s.requires.1, going_row l.loop-i.invariant t.loop-i-test.true (row_part s.args.rows.now l.loop-i.i) (own s))

loop-again : tie.Need-loop-i-preserved invariant-loop-i decreases-loop-i
loop-again c =
    let r = c.before.before in
    let t = r.before.before.before in
    let l = t.before in
    let s = l.before.before in
    going_next l.loop-i.invariant t.loop-i-test.true (row_part s.args.rows.now l.loop-i.i) (own s) r.put_last-p.ensures.0 r.put_last-p.ensures.1

pub put_lasts_spec : {M : Type 1} → statement M
put_lasts_spec =
    tie.close
    (tie.spec invariant-loop-i decreases-loop-i (λ c. going_start c.requires.2) (λ c. search rules) (λ c. search rules) (λ c. search rules) (λ c. search rules) (λ c. search rules) (λ c. search rules) put_last-p-requires
    (λ c. search rules) (λ c. search rules) loop-again (λ c. c.loop-i.invariant.inks.same) (λ c. going_end c.loop-i.invariant c.loop-i-test.false))
