-- `host_write::whole_head` meets its contract. Assumes nothing.
use Rattle.bits.proofs.Words.{arith, rules}
use Rattle.host_write.specs.Writes.{head_in}
use Rattle.host_write.proofs.HandedWrites.{lent_back}
use Rattle.host_write.proofs.whole_head.Statement.{statement}
use Rattle.host_write.proofs.whole_head.Tie as tie

returns : tie.Need-returns
unfolding head_in
returns c =
    let l = c.args.numbers.now in
    λ i. record {
      subtype = lent_back l 0 (omega arith) c.result-1.given i;
      epoch = lent_back l 1 (omega arith) c.result-2-1.given i;
      interval = lent_back l 2 (omega arith) c.result-3-1.given i;
      indicator = lent_back l 3 (omega arith) c.result-4-1.given i;
      iod = lent_back l 4 (omega arith) c.result-5-1.given i;
      a = lent_back l 5 (omega arith) c.result-6-1.given i;
      b = lent_back l 6 (omega arith) c.result-7-1.given i;
      c = lent_back l 7 (omega arith) c.result-8-1.given i;
    }

pub whole_head_spec : {M : Type 1} → statement M
whole_head_spec =
    tie.close
    (tie.spec (λ c. search rules) (λ c. search rules) (λ c. search rules) (λ c. search rules) (λ c. search rules) (λ c. search rules) (λ c. search rules) (λ c. search rules) returns)
