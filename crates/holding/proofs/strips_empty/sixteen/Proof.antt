-- `holding::strips_empty::sixteen` meets its contract. Assumes nothing.
use Rattle.bits.proofs.Words.{◌≡◌, Bool, ◌&&◌, ℕ, ◌+◌, arith, rules, eqb, take, drop}
use Rattle.holding.specs.Testing.{empty_strips}
use Rattle.holding.proofs.Tests.{and_fours, every_next}
use Rattle.holding.proofs.strips_empty.sixteen.Statement.{statement}
use Rattle.holding.proofs.strips_empty.sixteen.Tie as tie

returns : tie.Need-returns
returns c =
    let x = c.args in
    let l = x.strips.now in
    let four : ℕ → Bool = λ k. empty_strips (take 4 (drop k l)) in
    let next = every_next (λ n. eqb n 0) l in
    let third : x.i + 4 + 4 ≡ x.i + 8 = omega arith in
    let last : x.i + 8 + 4 ≡ x.i + 12 = omega arith in
    let all : empty_strips (take 16 (drop x.i l)) ≡ (four x.i && (four (x.i + 4) && (four (x.i + 8) && four (x.i + 12)))) =
    rw (next x.i 4 12, next (x.i + 4) 4 8, third, next (x.i + 8) 4 4, last) in
    rw (c.gathered.ensures, c.gathered-2.ensures, c.gathered-3.ensures, c.gathered-4.ensures, all)
    (and_fours (eqb x.any.a 0) (eqb x.any.b 0) (eqb x.any.c 0) (eqb x.any.d 0) (four x.i) (four (x.i + 4)) (four (x.i + 8)) (four (x.i + 12)))

pub sixteen_spec : {M : Type 1} → statement M
sixteen_spec =
    tie.close
    (tie.spec (λ c κs. omega arith) (λ c. search rules) (λ c κs. omega arith) (λ c. search rules) (λ c κs. omega arith) (λ c. search rules)
    (λ c κs. omega arith) returns)
