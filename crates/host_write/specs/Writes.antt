-- What the host lends as a head, and is handed of a message written: docs/HOST.md, `hundurzek_write`.
use Rattle.std.specs.Prelude.{cond, List, ℕ, ◌-◌, leb, ℤ, get_or}
use Rattle.format.specs.declared.Head.{Head}
use Rattle.format.specs.Answers as Answers
use Rattle.format.specs.Answers.{done, undone}
use Rattle.format.specs.declared.Refusal.TheVariants.{Place, Value}
use Rattle.format.specs.Rows.{absent}
use Rattle.format.specs.Writing.{Written, refused, limit}
use Rattle.host_write.specs.declared.Done.{Done}

-- the answer to what is done
abbrev pub done_number : ℕ
done_number = 255

-- the first eight numbers; those that are not lent are absent
unfoldable pub head_in : List ℤ → Head
head_in l =
    record {
      subtype = get_or l 0 absent;
      epoch = get_or l 1 absent;
      interval = get_or l 2 absent;
      indicator = get_or l 3 absent;
      iod = get_or l 4 absent;
      a = get_or l 5 absent;
      b = get_or l 6 absent;
      c = get_or l 7 absent;
    }

-- the place after the message and how many bits it has; beside a refusal the start asked for, and 0
unfoldable pub written_handed : ℕ → Answers.Done → Done
written_handed start (done place) = record { answer = done_number; place = place; count = place - start }
written_handed start (undone number place) = record { answer = number; place = place; count = 0 }

-- what writing comes to where what is lent is no holding
unfoldable pub without_holding : List ℕ → ℕ → Written
without_holding bytes start = cond (leb start (limit bytes)) (refused Value) (refused Place)
