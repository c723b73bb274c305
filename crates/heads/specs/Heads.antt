-- What the code answers to what opens a message, by how crate format's programs end.
use Rattle.std.specs.Prelude.{Result, Ok, Err, ℕ, ◌/◌, ◌%◌, ◌^◌, ◌<◌}
use Rattle.bits.specs.declared.read.Short.{Short}
use Rattle.format.specs.Messages as Messages
use Rattle.format.specs.Programs.{Ended, well, badly}
use Rattle.heads.specs.declared.CommonHead.{CommonHead}
use Rattle.heads.specs.declared.Opening.{Opening}
use Rattle.heads.specs.declared.Opening.TheVariants.{SubType, Refused}

-- number and sub type
unfoldable pub opening_by : Ended ℕ → Opening
opening_by (well n taken) = SubType n
opening_by (badly r missing) = Refused r missing

-- the common head, as the definitions and as the code have it
unfoldable pub common_of : CommonHead → Messages.Common
common_of h = record { epoch = h.epoch; interval = h.interval; indicator = h.indicator; iod = h.iod }

unfoldable pub head_for : Messages.Common → CommonHead
head_for h = record { epoch = h.epoch; interval = h.interval; indicator = h.indicator; iod = h.iod }

unfoldable pub common_by : Ended Messages.Common → Result CommonHead Short
common_by (well h taken) = Ok (head_for h)
common_by (badly r missing) = Err (record { missing = missing })

-- parted from one number: 4, 1 and 4 bits behind the epoch
unfoldable pub head_from : ℕ → CommonHead
head_from n = record { epoch = n / 512; interval = n / 32 % 16; indicator = n / 16 % 2; iod = n % 16 }

-- fields of at most 20 and 4 bits
pub record Small (h : CommonHead) : Type 0 where
  pub epoch : h.epoch < 2 ^ 20
  pub interval : h.interval < 16
  pub indicator : h.indicator < 16
  pub iod : h.iod < 16
