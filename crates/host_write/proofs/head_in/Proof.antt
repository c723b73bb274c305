-- `host_write::head_in` meets its contract. Assumes nothing.
use Rattle.bits.proofs.Words.{rules}
use Rattle.host_write.specs.Writes.{head_in}
use Rattle.host_write.proofs.HandedWrites.{read_back}
use Rattle.host_write.proofs.head_in.Statement.{statement}
use Rattle.host_write.proofs.head_in.Tie as tie

returns : tie.Need-returns
unfolding head_in
returns c =
    λ i. record {
      subtype = read_back c.number_at.type_inv c.number_at.ensures i;
      epoch = read_back c.number_at-2.type_inv c.number_at-2.ensures i;
      interval = read_back c.number_at-3.type_inv c.number_at-3.ensures i;
      indicator = read_back c.number_at-4.type_inv c.number_at-4.ensures i;
      iod = read_back c.number_at-5.type_inv c.number_at-5.ensures i;
      a = read_back c.number_at-6.type_inv c.number_at-6.ensures i;
      b = read_back c.number_at-7.type_inv c.number_at-7.ensures i;
      c = read_back c.number_at-8.type_inv c.number_at-8.ensures i;
    }

pub head_in_spec : {M : Type 1} → statement M
head_in_spec =
    tie.close
    (tie.spec (λ c κs. search rules) (λ c. c.whole_head.ensures) (λ c κs. search rules) (λ c κs. search rules) (λ c κs. search rules) (λ c κs. search rules) (λ c κs. search rules) (λ c κs. search rules) (λ c κs. search rules)
    (λ c κs. search rules) returns)
