use Rattle.std.proofs.Common.{◌≡◌, ◌/◌, arith}
use Rattle.lines.proofs.PairsLeft.{first_asked, second_asked, one_more, even_done, odd_done, rest_set}
use Rattle.lines.proofs.stretch.stretch_in.Goals as goal

-- a byte of two digits
pub four-requires : goal.four-requires
four-requires c = first_asked c.loop-i.invariant c.args.n c.requires.1 c.requires.2 (omega arith)

pub four-requires-in-loop-i : goal.four-requires-in-loop-i
four-requires-in-loop-i c = second_asked c.loop-i.invariant c.args.n c.requires.1 c.requires.2 (omega arith)

pub loop-i-preserved : goal.loop-i-preserved
loop-i-preserved c = one_more c.loop-i.invariant c.args.n c.requires.1 c.requires.2 (omega arith) c.four.ensures.value c.four-in-loop-i.ensures.value (rest_set c.loop-i.invariant _)

-- and of the last one alone
pub four-requires-then-digits-eq1 : goal.four-requires-then-digits-eq1
four-requires-then-digits-eq1 c =
    let all : c.loop-i.i ≡ c.div_ceil-digits.result / 2 = omega arith in
    first_asked (rw all at c.loop-i.invariant) c.args.n c.requires.1 c.requires.2 (omega arith)

pub returns-then-digits-eq1 : goal.returns-then-digits-eq1
returns-then-digits-eq1 c =
    let all : c.loop-i.i ≡ c.div_ceil-digits.result / 2 = omega arith in
    odd_done (rw all at c.loop-i.invariant) c.args.n c.requires.1 c.requires.2 (omega arith) c.four-then-digits-eq1.ensures.value

pub returns-else-digits-eq1 : goal.returns-else-digits-eq1
returns-else-digits-eq1 c = even_done c.loop-i.invariant c.args.n c.requires.1 c.requires.2 (omega arith)
