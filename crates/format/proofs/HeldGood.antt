-- What is held stays good, whatever is read. Assumes nothing.
use mathlib.Core.Path.{◌≡◌, refl}
use mathlib.Core.Bool.{Bool, true, false≢true}
use mathlib.Core.List.{List}
use Prim.Native.Nat.{ℕ}
use lib.IntN.{ℤ}
use Rattle.format.specs.declared.Refusal.TheVariants.{SubType}
use Rattle.format.specs.Good.{good, is_holding}
use Rattle.format.specs.Masks.{Held, mask, Lent, stray, lent, held_in}
use Rattle.format.specs.Programs.{well, run}
use Rattle.format.specs.Reading.{bits_from, reading, lent_after}
use Rattle.format.specs.Table.{Message, Kind, other, free, masked, adopts, alone, with_flags, kinds, table, under_mask, by_kind, message}
use Rattle.format.proofs.Makes.{makes_good}
use Rattle.format.proofs.Steps.{Gives, gives_done, gives_refuse, gives_bind}
use Rattle.format.proofs.Stops.{reading_ends}
use Rattle.format.proofs.Tables.{Each, end, then, in_table, gives_message, keeps}

-- ---- after a message

-- a mask that the kind adopts is good
abbrev AdoptsGood : ℕ → Kind → Type 0
AdoptsGood n other = Unit {0}
AdoptsGood n (free k) = Unit {0}
AdoptsGood n (masked k) = Unit {0}
AdoptsGood n (adopts k) = Gives k.program (λ d b. good (mask d.made) ≡ true)

kinds_good : Each AdoptsGood 0 kinds
unfolding kinds alone with_flags
kinds_good = then tt (then makes_good (then tt (then tt (then tt (then tt (then tt (then tt (then tt (then tt (then tt (then tt end)))))))))))

kind_stays : (n : ℕ) (k : Kind) → AdoptsGood n k → (held : Held) → good held ≡ true → Gives (by_kind k held) (λ m b. good m.after ≡ true)
unfolding by_kind
kind_stays n other law held fine = gives_refuse SubType
kind_stays n (free k) law held fine = keeps held k.program λ c b. fine
kind_stays n (masked k) law held fine = keeps held (under_mask k held) λ c b. fine
kind_stays n (adopts k) law held fine = gives_bind law λ d b it. gives_done it

message_stays : (held : Held) → good held ≡ true → Gives (message held) (λ m b. good m.after ≡ true)
message_stays held fine = gives_message table held λ n _. kind_stays n (table n) (in_table kinds_good (λ k. tt) n) held fine

pub stays_good : (held : Held) → good held ≡ true → (l : List Bool) (m : Message) (taken : ℕ) → run (message held) l ≡ well m taken → good m.after ≡ true
stays_good held fine = (message_stays held fine).gives

-- ---- after a reading

-- what a holding holds is good
pub held_good : (holding : Lent) → is_holding holding ≡ true → good (held_in holding) ≡ true
unfolding is_holding held_in
held_good stray fine = absurd (false≢true fine)
held_good (lent held) fine = fine

pub reading_good : (holding : Lent) (bytes : List ℕ) (end start : ℕ) (rows : List ℤ) → is_holding holding ≡ true → is_holding (lent_after (reading holding bytes end start rows)) ≡ true
unfolding lent_after is_holding held_in good
reading_good stray bytes stop start rows fine = absurd (false≢true fine)
reading_good (lent held) bytes stop start rows fine =
    reading_ends (λ o. is_holding (lent_after o) ≡ true) table bytes stop start rows (lent held) (λ r missing. fine) refl fine (stays_good held fine (bits_from bytes stop start))
