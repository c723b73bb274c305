-- Document 01, "Answer numbers": the number and the values of each answer.
use Rattle.std.specs.Prelude.{ℕ}
use Rattle.format.specs.declared.Answer.{Answer}
use Rattle.format.specs.declared.Answer.TheVariants.{Message, Idle, Refused}
use Rattle.format.specs.declared.Head.{Head}
use Rattle.format.specs.declared.Refusal.{Refusal}
use Rattle.format.specs.declared.Refusal.TheVariants.{Room, Place, Short, Number, SubType, NoMask, OtherIssue, System, Reserved, Size, Network, Value, Changed}

unfoldable pub number_of : Refusal → ℕ
number_of Room = 1
number_of Place = 2
number_of Short = 3
number_of Number = 4
number_of SubType = 5
number_of NoMask = 6
number_of OtherIssue = 7
number_of System = 8
number_of Reserved = 9
number_of Size = 10
number_of Network = 11
number_of Value = 12
number_of Changed = 13

-- and of idle
abbrev pub idle_number : ℕ
idle_number = 0

-- What an answer to reading at a start says on paper: each of 0 to 13 its number, the start asked for, and how many bits were missing (document 02,
-- Ask 7: none but with 3); a message, which has no number there, its head, the place after it and its row count.
pub data Said : Type 0 where
  stop : ℕ → ℕ → ℕ → Said
  message : Head → ℕ → ℕ → Said

unfoldable pub said_at : ℕ → Answer → Said
said_at start Idle = stop idle_number start 0
said_at start (Refused r missing) = stop (number_of r) start missing
said_at start (Message h next rows) = message h next rows

-- And the writer's, and the saved form's: what is done has no number there either, and says the place after the message, or how long the line is;
-- a refusal its number, and the start asked for, 0 for the saved form.
pub data Done : Type 0 where
  done : ℕ → Done
  undone : ℕ → ℕ → Done

unfoldable pub undone_at : ℕ → Refusal → Done
undone_at start r = undone (number_of r) start
