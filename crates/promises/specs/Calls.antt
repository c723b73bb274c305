-- A caller that reads a stretch by single readings: from place 0, each at the place that the one before answered, with the holding and the row buffer that
-- it left, until one answers a stop; and what it has got then.
use Rattle.std.specs.Prelude.{◌≡◌, cond, List, [], ◌∷◌, ℕ, eqb, ℤ}
use contract.Lifetimes.{Lfts}
use denote.Ref.{Bor, MutBor, at_last}
use Rattle.format.specs.declared.Head.{Head}
use Rattle.format.specs.Answers.{Said, stop, message, said_at}
use Rattle.format.specs.Walking.{HandedOut, Walk}
use Rattle.format.specs.Writing.{rows_in}
use Rattle.holding.specs.declared.Holding.{Holding}
use Rattle.host.specs.declared.Handed.{Handed}
use Rattle.host.specs.declared.Walked.{Walked}
use Rattle.host.specs.Handing.{message_number, walked_to}
use Rattle.host.proofs as host
use Rattle.promises.specs.Determination.{Allows}
use Rattle.reader.specs.declared.Reading.{Reading}
use Rattle.walk.proofs as walk
use Rattle.walk.specs.declared.Halt.{Halt}

-- The messages, each with its place, the place after it, its head and its rows; why and where the caller stopped, and how many bits were missing; the holding,
-- as it is passed, and the row buffer that were left.
pub record Got (H : Type 0) : Type 0 where
  pub handed : List HandedOut
  pub number : ℕ
  pub place : ℕ
  pub missing : ℕ
  pub holding : H
  pub rows : List ℤ

-- a message by its answer: its rows stand first in the row buffer, eight numbers each
unfoldable pub answered : ℕ → Head → ℕ → ℕ → List ℤ → HandedOut
answered place h next count rows = record { place = place; next = next; content = record { head = h; rows = rows_in count rows } }

unfoldable pub gets : {H : Type 0} → HandedOut → Got H → Got H
gets d g = record { handed = d ∷ g.handed; number = g.number; place = g.place; missing = g.missing; holding = g.holding; rows = g.rows }

-- Calls of a function that reads: `Call` says what it may answer and leave for a holding, a place and a row buffer.
pub data Calls {H : Type 0} (Call : H → ℕ → List ℤ → Said → H → List ℤ → Type 0) : H → ℕ → List ℤ → Got H → Type 0 where
  stops : {holding left : H} {place number at missing : ℕ} {rows after : List ℤ} → Call holding place rows (stop number at missing) left after
      → Calls Call holding place rows (record { handed = []; number = number; place = at; missing = missing; holding = left; rows = after })
  goes : {holding left : H} {place next count : ℕ} {h : Head} {rows after : List ℤ} {got : Got H} → Call holding place rows (message h next count) left after
      → Calls Call left next after got → Calls Call holding place rows (gets (answered place h next count after) got)

-- what a walk has of all this, and what it leaves of the holding
unfoldable pub got_by : {H : Type 0} → Walk → H → Got H
got_by w left = record { handed = w.handed; number = (walked_to w).answer; place = (walked_to w).place; missing = (walked_to w).missing; holding = left; rows = w.rows }

-- ---- a call as the contract of its function allows it, for slices of these contents, wherever they lie

-- `read` in Rattle
pub record CodeCall (bytes : List ℕ) (end : ℕ) (holding : Holding) (place : ℕ) (rows : List ℤ) (said : Said) (left : Holding) (after : List ℤ) : Type 0 where
  pub κs : Lfts 2
  pub stretch : Bor (List ℕ)
  pub buffer : MutBor (List ℤ)
  pub result : Reading
  pub says : said_at place result.answer ≡ said
  pub leaves : result.holding ≡ left
  pub allowed :
      Allows walk.single.read.Kinds.ps walk.single.read.Kinds.r walk.single.read.Reads.Learnt κs
      (holding, (record stretch { now = bytes }, (end, (place, (at_last buffer rows, tt))))) result (tt, (tt, (tt, (tt, (after, tt)))))

-- `walk` in Rattle, one call for all of the stretch
pub record CodeWalk (bytes : List ℕ) (end : ℕ) (holding : Holding) (rows : List ℤ) (result : Halt) (after : List ℤ) : Type 0 where
  pub κs : Lfts 2
  pub stretch : Bor (List ℕ)
  pub buffer : MutBor (List ℤ)
  pub allowed :
      Allows walk.walk.Kinds.ps walk.walk.Kinds.r walk.walk.Reads.Learnt κs
      (holding, (record stretch { now = bytes }, (end, (at_last buffer rows, tt)))) result (tt, (tt, (tt, (after, tt))))

-- what the numbers that C is handed say: 255 a message, every other a stop
unfoldable pub said_by : Handed → Said
said_by r = cond (eqb r.answer message_number) (message r.head r.place r.rows) (stop r.answer r.place r.missing)

-- `hundurzek_read`
pub record HostCall (bytes : List ℕ) (end : ℕ) (holding : List ℕ) (place : ℕ) (rows : List ℤ) (said : Said) (left : List ℕ) (after : List ℤ) : Type 0 where
  pub κs : Lfts 3
  pub lent : MutBor (List ℕ)
  pub stretch : Bor (List ℕ)
  pub buffer : MutBor (List ℤ)
  pub result : Handed
  pub says : said_by result ≡ said
  pub allowed :
      Allows host.hundurzek_read.Kinds.ps host.hundurzek_read.Kinds.r host.hundurzek_read.Reads.Learnt κs
      (at_last lent holding, (record stretch { now = bytes }, (end, (place, (at_last buffer rows, tt))))) result (left, (tt, (tt, (tt, (after, tt)))))

-- `hundurzek_walk`, one call for all of it, too
pub record HostWalk (bytes : List ℕ) (end : ℕ) (holding : List ℕ) (rows : List ℤ) (result : Walked) (left : List ℕ) (after : List ℤ) : Type 0 where
  pub κs : Lfts 3
  pub lent : MutBor (List ℕ)
  pub stretch : Bor (List ℕ)
  pub buffer : MutBor (List ℤ)
  pub allowed :
      Allows host.hundurzek_walk.Kinds.ps host.hundurzek_walk.Kinds.r host.hundurzek_walk.Reads.Learnt κs
      (at_last lent holding, (record stretch { now = bytes }, (end, (at_last buffer rows, tt)))) result (left, (tt, (tt, (after, tt))))
